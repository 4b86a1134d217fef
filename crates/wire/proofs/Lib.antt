pub mod Parts
pub mod Frames
pub mod Room
pub mod Reading
pub mod Determined
pub mod Results
