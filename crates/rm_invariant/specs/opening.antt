-- What holds where a life begins.
pub mod Begun
