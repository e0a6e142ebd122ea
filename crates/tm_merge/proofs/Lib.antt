pub mod LeadingLemmas
pub mod MergeLemmas
