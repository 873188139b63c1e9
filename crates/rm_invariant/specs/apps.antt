-- Applications and their attempts: what holds of each row, by numbers of events, operations and asks.
pub mod View
pub mod Invariant
pub mod Completed
pub mod Submissions
pub mod Recovered
pub mod Ends
