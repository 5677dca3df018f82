pub mod IoEvents
pub mod Passed
pub mod SentLater
pub mod LongFrames
