pub mod Audit
pub mod UsedTei
