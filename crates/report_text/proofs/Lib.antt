pub mod Laying
pub mod Digits
pub mod Names
pub mod Running
pub mod Promises
