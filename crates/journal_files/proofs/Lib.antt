pub mod Names
mod Written
