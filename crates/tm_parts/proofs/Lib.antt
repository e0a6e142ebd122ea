pub mod Measures
pub mod Growing
pub mod NameLemmas
