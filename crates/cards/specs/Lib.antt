pub mod Cards
pub mod Following
pub mod Given
pub mod Held
pub mod Private
