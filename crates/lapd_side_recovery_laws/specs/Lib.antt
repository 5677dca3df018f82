pub mod Reached
pub mod Quiet
pub mod Counts
pub mod Agreement
pub mod Runs
