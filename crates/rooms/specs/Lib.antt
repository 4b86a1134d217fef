pub mod Rooms
pub mod Questions
pub mod Promises
