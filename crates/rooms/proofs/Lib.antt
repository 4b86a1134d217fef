pub mod Bytes
pub mod Promises
pub mod Rooms
pub mod Padding
pub mod Judging
