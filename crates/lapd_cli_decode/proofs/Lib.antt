pub mod Closed
pub mod Lines
pub mod LiveLadder
pub mod LooseLine
pub mod Printed
