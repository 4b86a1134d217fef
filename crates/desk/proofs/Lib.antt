pub mod Taking
pub mod Reading
pub mod Asking
pub mod Laying
