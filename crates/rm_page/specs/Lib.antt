pub mod Continued
pub mod Ranges
pub mod Shown
pub mod Apart
