pub mod Fronts
pub mod Heads
pub mod Missing
pub mod ReadBack
pub mod Steps
pub mod Taken
pub mod Units
pub mod Unserved
