pub mod Columns
pub mod Ladder
pub mod Parts
pub mod Picture
pub mod Words
