pub mod Checks
pub mod Errors
pub mod Fixed
pub mod Forms
pub mod Fronts
pub mod Lists
pub mod Steps
pub mod Writes
