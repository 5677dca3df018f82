pub mod PolledRows
pub mod LinkDeadlines
pub mod EachSide
pub mod SideClocks
pub mod EveryRun
pub mod Safe
pub mod Tests
pub mod RunsComputed
