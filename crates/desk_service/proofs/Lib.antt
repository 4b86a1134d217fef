pub mod Cards
pub mod Saying
pub mod Written
pub mod Lined
