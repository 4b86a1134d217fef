pub mod Determined
pub mod Frames
pub mod Messages
pub mod Restart
pub mod Which
pub mod Pieces
pub mod Examples
