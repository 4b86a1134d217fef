pub mod Numbered
pub mod Walking
pub mod Parts
pub mod Cases
