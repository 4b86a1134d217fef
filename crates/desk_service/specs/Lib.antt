pub mod DeskService
pub mod Private
