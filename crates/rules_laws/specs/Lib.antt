pub mod Laws
pub mod Undoing
pub mod Locked
