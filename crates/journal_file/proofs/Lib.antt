pub mod Fronts
pub mod Zeros
pub mod Taking
pub mod Heading
pub mod Forms
pub mod Determined
pub mod Files
pub mod Cards
pub mod Cuts
pub mod HeadForms
pub mod OneForm
pub mod Damage
pub mod OneFile
pub mod Alone
mod Names
