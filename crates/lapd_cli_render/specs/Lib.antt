pub mod Json
pub mod Packet
pub mod Elements
pub mod CallMessage
pub mod Names
