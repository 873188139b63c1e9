-- Messages: what they stand on.
pub mod Ranges
pub mod Outcomes
pub mod LifeOutcomes
pub mod Clients
pub mod Fits
pub mod Released
