pub mod Table
pub mod Motion
