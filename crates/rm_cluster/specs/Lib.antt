pub mod Limits
pub mod Readings
pub mod Queues
pub mod Rules
pub mod Ranges
pub mod Clusters
pub mod Faults
