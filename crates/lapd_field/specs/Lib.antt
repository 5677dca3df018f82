pub mod Address
pub mod Control
