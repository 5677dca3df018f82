mod GivenPart
mod KeptLines
mod TypedLine
mod Answered
mod Typed
