pub mod Judged
pub mod Private
