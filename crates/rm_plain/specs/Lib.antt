pub mod Policy
pub mod Schedule
pub mod Feeding
pub mod GrowingRuns
