mod Turning
pub mod Journals
