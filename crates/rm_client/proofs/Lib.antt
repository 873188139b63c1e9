pub mod ByMessage
pub mod Submitted
pub mod Same
pub mod SameLife
pub mod Served
