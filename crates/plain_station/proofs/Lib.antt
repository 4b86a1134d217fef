pub mod Standing
pub mod Areas
pub mod Reading
pub mod Searching
pub mod Marks
pub mod Outcomes
