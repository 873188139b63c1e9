pub mod Changes
pub mod Entries
pub mod Numbers
pub mod Shows
