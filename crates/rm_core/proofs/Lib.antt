mod Listed
pub mod Alike
mod EndOrder
mod Refusing
mod Stores
mod Standing
mod Recorded
mod Queued
mod Serving
mod Settling
mod Lives
mod Moving
pub mod Telling
pub mod Left
mod Spelling
mod FinalStates
