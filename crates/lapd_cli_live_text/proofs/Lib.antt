pub mod Cuts
mod ShownChars
pub mod AwaitedLines
pub mod Tallies
pub mod EachEvent
mod FormRequests
