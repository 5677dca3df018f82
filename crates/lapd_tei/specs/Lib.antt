pub mod Assigner
pub mod Bus
pub mod Message
pub mod Out
pub mod Service
pub mod Single
pub mod Terminal
pub mod Worked
