pub mod Trace
pub mod HistoryLines
