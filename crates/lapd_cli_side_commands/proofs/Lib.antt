pub mod Clocks
pub mod Serving
pub mod SideProgress
pub mod SideWalks
