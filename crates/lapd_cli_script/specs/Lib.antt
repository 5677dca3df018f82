pub mod Line
pub mod Script
pub mod WalkState
