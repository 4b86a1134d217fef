pub mod Takings
pub mod Finding
pub mod Listing
pub mod Giving
pub mod Seeking
