pub mod Stations
pub mod Shows
pub mod Moves
