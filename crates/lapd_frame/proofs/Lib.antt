pub mod FrameAt
pub mod FirstFault
pub mod Lengths
