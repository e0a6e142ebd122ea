pub mod CoverLemmas
pub mod CubeLemmas
pub mod GrowLemmas
pub mod NeededLemmas
pub mod OrderLemmas
pub mod SetLemmas
