pub mod Soaks
pub mod Pieces
pub mod Items
pub mod Results
pub mod Told
pub mod Answers
