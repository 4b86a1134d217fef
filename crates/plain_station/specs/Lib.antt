pub mod Plain
pub mod Private
