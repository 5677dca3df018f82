pub mod Clocks
pub mod LineOutputs
pub mod Runners
pub mod Served
