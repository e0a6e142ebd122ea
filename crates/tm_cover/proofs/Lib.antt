pub mod LabelLemmas
pub mod LeadLemmas
pub mod TableLemmas
pub mod BelowLemmas
pub mod SomeLemmas
pub mod SearchLemmas
