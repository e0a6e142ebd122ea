pub mod StandLemmas
pub mod ReadLemmas
pub mod WayLemmas
