pub mod Filters
pub mod Folded
pub mod Ordering
pub mod Walked
