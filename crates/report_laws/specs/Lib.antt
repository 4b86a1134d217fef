pub mod Rounds
pub mod Statements
