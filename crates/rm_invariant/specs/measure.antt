-- How much is left to do, as one number.
pub mod Measure
pub mod Reports
