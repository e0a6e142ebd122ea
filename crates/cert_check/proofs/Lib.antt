pub mod AgreeLemmas
pub mod MappedLemmas
pub mod VerdictLemmas
pub mod ClaimLemmas
pub mod SpellLemmas
pub mod DropLemmas
