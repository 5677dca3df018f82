pub mod Outcomes
pub mod Verdict
