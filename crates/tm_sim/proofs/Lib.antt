pub mod RowLemmas
pub mod LineLemmas
pub mod ReadLemmas
pub mod SettleLemmas
pub mod StepLemmas
