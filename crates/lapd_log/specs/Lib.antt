pub mod Dates
pub mod Spans
pub mod Text
