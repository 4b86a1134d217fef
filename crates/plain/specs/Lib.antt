pub mod Plain
pub mod Conditions
pub mod Walks
pub mod Private
