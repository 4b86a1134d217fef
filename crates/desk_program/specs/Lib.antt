pub mod DeskTurns
