pub use Rattle.lapd_field.specs.Address
pub use Rattle.lapd_field.specs.Control
pub mod Fault
pub mod Frame
pub mod FrmrInfo
pub mod PredictedFrame
pub mod Reading
