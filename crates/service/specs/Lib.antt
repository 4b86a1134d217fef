pub mod Service
pub mod Runs
pub mod Statements
pub mod Private
pub mod Turns
pub mod TurnStatements
