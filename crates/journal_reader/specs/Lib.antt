pub mod Reading
pub mod Statements
pub mod Private
