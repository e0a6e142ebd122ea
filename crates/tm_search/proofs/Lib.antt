pub mod LostLemmas
pub mod PeriodLemmas
pub mod LeastLemmas
