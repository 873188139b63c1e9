pub mod Found
pub mod Nodes
pub mod Rows
pub mod AppRows
pub mod Recorded
pub mod Missing
pub mod Late
