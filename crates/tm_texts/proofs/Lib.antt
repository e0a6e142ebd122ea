mod AbsorbedLemmas
mod CertLemmas
mod CheckLemmas
pub mod Excluded
pub mod InputLemmas
mod MapLemmas
mod NarrowLemmas
mod SampleLemmas
mod Simulations
mod SourceLemmas
