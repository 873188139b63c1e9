pub mod Limits
pub mod Settings
pub mod Scripts
pub mod Lines
