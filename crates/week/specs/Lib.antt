pub mod Weeks
pub mod Counts
pub mod Private
pub mod Promises
