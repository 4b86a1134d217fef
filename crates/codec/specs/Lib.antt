pub mod Bytes
pub mod Text
pub mod Fours
pub mod Promises
pub mod Copies
