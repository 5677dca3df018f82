pub mod HexText
pub mod Lines
pub mod Numbers
pub mod Printed
pub mod Walks
pub mod WordsOf
pub mod LastWord
