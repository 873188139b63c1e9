pub mod Absorbable
pub mod Listed
pub mod Granting
pub mod Fronted
pub mod Noted
pub mod Picked
pub mod Turned
