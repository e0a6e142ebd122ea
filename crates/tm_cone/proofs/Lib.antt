pub mod CoverLemmas
pub mod MeetLemmas
pub mod OrderLemmas
pub mod SearchLemmas
pub mod ValueLemmas
pub mod WordLemmas
