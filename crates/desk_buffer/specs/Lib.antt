pub mod DeskServing
pub mod DeskRest
pub mod Private
