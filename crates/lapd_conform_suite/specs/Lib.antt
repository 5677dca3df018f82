pub mod Frames
pub mod Lines
pub mod Names
pub mod Numbers
pub mod Reading
pub mod Suites
pub mod Words
