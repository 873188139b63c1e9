pub mod Amounts
pub mod Later
