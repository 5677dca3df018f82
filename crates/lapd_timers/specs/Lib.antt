pub mod Due
pub mod Durations
pub mod Moments
pub mod Timer
