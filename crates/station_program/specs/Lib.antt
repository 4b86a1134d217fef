pub mod Words
pub mod Keeping
pub mod Opened
