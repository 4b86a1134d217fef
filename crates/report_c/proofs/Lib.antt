pub mod Rooms
pub mod Forms
pub mod Keeping
pub mod Promises
