pub mod Asking
pub mod Exchanging
pub mod Building
pub mod Promises
pub mod Pairs
pub mod Determined
