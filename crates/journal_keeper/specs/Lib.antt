pub mod Keeping
pub mod Opened
