pub mod Buses
pub mod Across
