pub mod Calls
pub mod Rooms
pub mod Following
pub mod Promises
