pub mod Following
