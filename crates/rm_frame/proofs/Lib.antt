pub mod Numbers
pub mod Faults
pub mod Apart
pub mod Appends
pub mod Whole
pub mod Payloads
