pub mod Parts
pub mod Splits
pub mod Ends
pub mod Digits
pub mod Decimals
pub mod Listing
pub mod Modify
pub mod Feeds
