pub mod Causes
pub mod Changing
pub mod Content
pub mod Errors
pub mod Kept
pub mod Reading
pub mod Store
pub mod compaction
