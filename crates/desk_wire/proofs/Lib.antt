pub mod Laying
pub mod Framing
pub mod Returning
pub mod Exact
pub mod DeskForms
