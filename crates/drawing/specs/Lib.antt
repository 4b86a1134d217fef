pub mod Drawing
pub mod Reading
pub mod Hex
pub mod Private
