pub use Rattle.lapd_link_machine.proofs.BetweenSteps
pub mod Frames
