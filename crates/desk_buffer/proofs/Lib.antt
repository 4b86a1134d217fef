pub mod Serving
pub mod DeskRest
