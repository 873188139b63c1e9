pub mod Conditions
pub mod Turns
