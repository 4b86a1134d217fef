pub mod DeskRuns
pub mod DeskStays
pub mod SameMeaning
pub mod DeskSent
