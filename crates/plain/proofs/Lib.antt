pub mod Standing
pub mod Spans
pub mod Ranges
pub mod Telling
pub mod Asking
pub mod Listing
pub mod Imaging
pub mod Walking
