pub mod Areas
pub mod Padding
pub mod Loops
pub mod Marks
pub mod Moves
pub mod Issues
pub mod Turns
pub mod Settling
