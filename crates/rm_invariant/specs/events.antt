-- The events of both queues: what they stand on, what an event of the main queue comes to, and how the tables agree part by part.
pub mod Outcomes
pub mod SchedOutcomes
pub mod Here
pub mod Refines
pub mod Asking
pub mod Masters
pub mod MainFacts
pub mod SchedFacts
