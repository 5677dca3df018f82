pub mod Assignments
pub mod Links
pub mod Holdings
pub mod Freeing
pub mod Healing
pub mod Runs
pub mod HoldingRuns
pub mod HealingRuns
