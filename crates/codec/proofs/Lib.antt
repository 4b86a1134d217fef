pub mod Numbers
pub mod Fours
pub mod Forms
mod Copying
pub mod LittleEndian
