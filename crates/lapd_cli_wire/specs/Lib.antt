pub mod IoEvents
pub mod Passed
pub mod Delays
