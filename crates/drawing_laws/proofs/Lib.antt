pub mod Lines
pub mod Forms
pub mod Texts
pub mod Records
pub mod Promises
pub mod Hexes
