pub mod Desk
pub mod Calls
pub mod Questions
pub mod Lines
pub mod Private
