pub mod Bursts
pub mod Checksum
pub mod Promises
pub mod Slices
