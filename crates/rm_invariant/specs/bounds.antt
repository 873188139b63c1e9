-- What is in its range in a life.
pub mod InBounds
