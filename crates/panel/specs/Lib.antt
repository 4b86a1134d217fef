pub mod Panel
pub mod Private
pub mod Promises
