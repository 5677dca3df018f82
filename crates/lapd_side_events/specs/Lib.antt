pub mod SideView
pub mod Interface
pub mod Calls
pub mod Bus
pub mod BusCalls
