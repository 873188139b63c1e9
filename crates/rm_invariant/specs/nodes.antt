-- Nodes and the book: what holds at each node, of its events against what the judge has not worked off.
pub mod Invariant
pub mod Book
pub mod Names
