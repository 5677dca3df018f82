pub mod Calls
pub mod Primitives
pub mod SideTexts
pub mod LineRequests
