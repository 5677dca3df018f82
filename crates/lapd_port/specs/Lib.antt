pub mod Device
pub mod Port
pub mod SocketText
