-- With nothing left to do, nothing is owed.
pub mod Apps
pub mod Nodes
pub mod Masters
pub mod Names
pub mod Whole
