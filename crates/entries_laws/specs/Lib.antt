pub mod Calls
pub mod Uses
pub mod Statements
