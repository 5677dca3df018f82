pub mod Closed
mod Framed
mod Refusals
mod Settling
mod Crossed
mod Loops
mod Drawings
mod NotedLines
