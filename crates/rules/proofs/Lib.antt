pub mod Every
pub mod Frame
pub mod CodeLaws
pub mod Mistakes
pub mod Overlaps
pub mod Reasons
pub mod Answering
pub mod Promises
