pub mod Instructions
pub mod Messages
pub mod Back
pub mod Form
pub mod Carried
pub mod Places
pub mod Asked
pub mod Examples
