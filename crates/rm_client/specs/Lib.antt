pub use Rattle.rm_refinement.specs.Clients
pub mod Answers
