pub mod Adding
pub mod Alternatives
pub mod Dots
pub mod FirstPlaces
pub mod Homes
pub mod Items
pub mod Steps
pub mod Walks
