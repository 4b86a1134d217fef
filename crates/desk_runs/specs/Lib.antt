pub mod Answering
pub mod DeskHeard
pub mod DeskRuns
pub mod DeskStays
pub mod DeskSent
