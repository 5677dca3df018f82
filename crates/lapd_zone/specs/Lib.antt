pub mod Calendar
pub mod Zone
