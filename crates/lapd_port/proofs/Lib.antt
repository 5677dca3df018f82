pub mod Filling
pub mod Parts
pub mod Pieces
pub mod Texts
pub mod Turning
