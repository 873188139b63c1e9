pub mod Choosing
pub mod Growing
pub mod FedRuns
pub mod GrownRuns
