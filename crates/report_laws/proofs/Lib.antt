pub mod Reports
pub mod Rounds
