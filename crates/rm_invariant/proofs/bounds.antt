-- Each move keeps what is in its range, and what calls take of it.
pub mod FewGrants
pub mod Passable
pub mod NextFits
pub mod RowRanges
pub mod TreeRanges
pub mod AskRanges
pub mod NodeRanges
pub mod BookRanges
pub mod MainEvents
pub mod SchedEvents
pub mod KeptOps
pub mod Messages
pub mod Called
