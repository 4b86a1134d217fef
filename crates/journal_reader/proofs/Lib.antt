mod Filling
mod Resting
pub mod Standing
pub mod Cards
mod Taking
