pub mod FrameLines
pub mod LastOf
