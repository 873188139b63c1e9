pub mod Fields
pub mod Framed
pub mod Reads
