pub mod Rows
pub mod Uses
pub mod Walks
pub mod Parses
pub mod Names
