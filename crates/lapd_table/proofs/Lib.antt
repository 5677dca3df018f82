pub mod Ids
pub mod Indexes
pub mod Places
pub mod Tables
pub mod Runs
pub mod Calls
