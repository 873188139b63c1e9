-- Each move of the manager's own makes less of it.
pub mod Sums
pub mod Rows
pub mod Lives
pub mod Messages
pub mod KeptOps
pub mod Leaving
pub mod SchedEvents
pub mod Following
pub mod Actions
pub mod MainEvents
pub mod Reported
