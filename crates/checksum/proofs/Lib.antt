pub mod Bursts
pub mod Moves
pub mod Promises
pub mod Running
pub mod Slices
pub mod Stored
pub mod Xor
