pub mod Gates
pub mod Outcomes
pub mod Runs
pub mod Words
pub mod salvage
