pub mod BetweenSteps
pub mod Bounds
pub mod Guards
pub mod Outstanding
pub mod Rows
pub mod Tails
pub mod Predicted
pub mod Given
