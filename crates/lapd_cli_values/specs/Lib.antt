pub mod Options
pub mod Numerals
pub mod Interfaces
pub mod InterfaceChoices
