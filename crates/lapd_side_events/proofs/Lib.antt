pub mod Indices
pub mod Called
pub mod BusCalled
