pub mod Trials
pub mod Promises
pub mod Reasons
