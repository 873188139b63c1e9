pub mod Growing
mod Parts
mod Steps
