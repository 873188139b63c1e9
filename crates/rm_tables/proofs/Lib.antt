pub mod FirstOp
pub mod Inserted
pub mod Placed
pub mod Stays
pub mod Once
pub mod Kept
pub mod ContainerSets
