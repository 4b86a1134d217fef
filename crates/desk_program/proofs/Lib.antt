pub mod DeskTurning
