pub mod Least
pub mod TimerOrder
