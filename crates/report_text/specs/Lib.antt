pub mod Lines
pub mod Private
pub mod Promises
