pub mod Bits
pub mod Places
pub mod Search
