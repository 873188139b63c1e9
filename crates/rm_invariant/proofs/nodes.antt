-- Each step over nodes and the book keeps what holds of them.
pub mod Falls
pub mod Astray
pub mod Views
pub mod Lists
pub mod Moved
pub mod Entries
pub mod Holds
pub mod Ascending
pub mod Absorbs
