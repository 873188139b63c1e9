-- Each move keeps what else holds of an open life.
pub mod Rows
pub mod Parts
pub mod Together
pub mod MainEvents
pub mod SchedEvents
pub mod KeptOps
pub mod Messages
pub mod AroundBook
pub mod Around
pub mod AroundEvents
pub mod AroundKept
pub mod AroundMessages
pub mod Facts
