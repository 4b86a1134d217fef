pub mod Turning
pub mod Journals
