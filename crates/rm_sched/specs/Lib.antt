pub mod CanWork
pub mod ClosingLists
pub mod Turns
pub mod fit
