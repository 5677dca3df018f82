mod Shapes
mod TextWords
pub mod Requests
