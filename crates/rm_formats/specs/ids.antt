pub mod Apart
pub mod Digits
pub mod Fronts
pub mod Parts
pub mod Spelling
pub mod Steps
