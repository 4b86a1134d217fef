pub mod Located
pub mod Private
