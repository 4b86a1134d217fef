pub mod Adding
pub mod OpeningStands
