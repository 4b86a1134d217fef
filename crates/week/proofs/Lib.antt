mod Telling
mod Steps
mod Counting
pub mod Pieces
pub mod Promises
mod Results
