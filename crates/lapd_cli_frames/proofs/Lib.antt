pub mod ByKind
pub mod Colored
