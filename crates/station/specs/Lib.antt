pub mod Held
pub mod Station
pub mod Calls
pub mod Turns
pub mod Private
