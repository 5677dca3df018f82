pub mod BusAcross
pub mod LinksAcross
pub mod HoldingsAcross
pub mod OldFrames
pub mod RunsAcross
