pub mod Shelves
pub mod Sinks
pub mod Writes
