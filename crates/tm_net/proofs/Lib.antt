pub mod EndLemmas
pub mod NeedLemmas
pub mod NumberLemmas
pub mod StandLemmas
pub mod MakeLemmas
pub mod WholeLemmas
