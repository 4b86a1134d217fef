pub mod Replies
pub mod Readings
pub mod Called
mod Hearing
pub mod Ranges
pub mod Running
mod Turns
pub mod Pieces
pub mod Determined
mod Shifting
mod Holding
mod Turning
pub mod TurnStatements
pub mod TurnsDetermined
