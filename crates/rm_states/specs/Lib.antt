pub mod app
pub mod attempt
pub mod container
pub mod node
