-- Masters' containers: what holds of each, by the row of its application.
pub mod Sound
pub mod View
pub mod Invariant
pub mod Preserves
