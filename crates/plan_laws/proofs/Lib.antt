pub mod Trying
pub mod Orders
pub mod Numbers
pub mod Bytes
pub mod Promises
pub mod Reasons
