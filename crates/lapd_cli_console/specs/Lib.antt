pub mod Answered
pub mod Answers
pub mod Fault
pub mod Recent
pub mod Tidied
pub mod Typed
