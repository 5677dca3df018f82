pub mod Outstanding
pub mod Range
pub mod Receiving
pub mod Tagging
