pub mod Fewer
pub mod Fetched
pub mod Found
pub mod Ways
pub mod Lowering
pub mod Covering
pub mod Promises
