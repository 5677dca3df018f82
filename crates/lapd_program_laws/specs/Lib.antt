pub mod SideEvents
pub mod Transcripts
pub mod Printed
pub mod Joined
pub mod JoinedRuns
pub mod WorkedRuns
pub mod UnorderedRuns
