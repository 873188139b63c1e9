pub mod Errors
pub mod Naming
pub mod Meanings
pub mod Following
pub mod Counting
pub mod Summaries
