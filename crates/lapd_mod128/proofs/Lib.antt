pub mod Steps
pub mod Tags
