pub mod ToldRanges
pub mod Appended
