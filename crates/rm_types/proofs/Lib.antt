pub mod EndLemmas
pub mod Examples
pub mod IdLemmas
pub mod TestLemmas
