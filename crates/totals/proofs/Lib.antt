pub mod Order
pub mod Placing
pub mod Counting
pub mod Steps
pub mod Promises
