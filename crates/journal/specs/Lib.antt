pub mod Journal
pub mod Pieces
pub mod Statements
