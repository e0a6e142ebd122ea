pub mod Alike
pub mod Soundness
pub mod Values
pub mod Growing
pub mod MappedLemmas
