-- A life that opens has all of it.
pub mod Apps
pub mod Masters
pub mod Starting
pub mod Auxiliary
pub mod Stores
pub mod Bounds
pub mod Whole
