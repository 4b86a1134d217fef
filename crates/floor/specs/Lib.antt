pub mod Floor
pub mod Tests
pub mod Cars
pub mod Sound
pub mod Belts
pub mod Promises
