pub mod AskEntries
pub mod AskLines
pub mod AskTables
pub mod Books
pub mod Kept
pub mod ManyAsks
pub mod Granted
