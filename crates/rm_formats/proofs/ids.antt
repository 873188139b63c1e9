pub mod Apart
pub mod Digits
pub mod Numerals
pub mod Passing
pub mod Refusals
pub mod Texts
