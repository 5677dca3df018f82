pub mod Answer
pub mod Outputs
pub mod PrintedOutput
pub mod PrintedOutputs
pub mod Session
