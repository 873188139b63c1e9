pub mod IdTexts
pub mod Wording
pub mod Page
pub mod Frames
pub mod Device
pub mod ids
