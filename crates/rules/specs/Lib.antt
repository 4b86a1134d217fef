pub mod Named
pub mod Cells
pub mod Rules
pub mod Events
pub mod Codes
pub mod Verdicts
pub mod Promises
