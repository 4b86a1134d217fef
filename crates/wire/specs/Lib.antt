pub mod Kinds
pub mod Reads
pub mod Writes
