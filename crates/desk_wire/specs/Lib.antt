pub mod Shapes
pub mod DeskKinds
pub mod DeskReads
pub mod DeskWrites
pub mod DeskForms
