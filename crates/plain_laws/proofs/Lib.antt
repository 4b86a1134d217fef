pub mod Walking
pub mod Crossing
pub mod Stations
pub mod Overlaps
pub mod Promises
