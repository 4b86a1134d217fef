pub mod Tested
pub mod Ends
pub mod Promises
