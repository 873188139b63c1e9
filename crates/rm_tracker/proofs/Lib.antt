pub mod Rows
pub mod Replies
pub mod Alike
pub mod Same
pub mod Offered
pub mod Served
