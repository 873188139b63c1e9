mod Common
pub mod Changes
pub mod Contents
pub mod Each
pub mod Faultless
pub mod Framed
pub mod Ops
pub mod Owned
pub mod Puts
pub mod Rooms
pub mod SoFar
pub mod WalkingOn
pub mod Why
pub mod Written
