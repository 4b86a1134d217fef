pub mod Heights
pub mod Settings
pub mod Nexts
pub mod Lifting
pub mod Masking
pub mod Ruling
pub mod Answers
pub mod Shortcuts
