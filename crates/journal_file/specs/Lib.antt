pub mod Appends
pub mod Heads
pub mod Replaying
pub mod Promises
pub mod Statements
pub mod Damage
pub mod Cards
