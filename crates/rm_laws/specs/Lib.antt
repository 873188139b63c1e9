pub use Rattle.rm_model.specs.Lawful
pub mod FirstAttempts
pub mod Laws
pub mod Reductions
