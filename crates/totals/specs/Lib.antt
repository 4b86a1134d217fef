pub mod Totals
pub mod Private
pub mod Promises
