pub mod Clock
pub mod InTime
pub mod Runs
