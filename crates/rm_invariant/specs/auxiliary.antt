-- What else holds of an open life.
pub mod Invariant
pub mod Parts
pub mod Around
