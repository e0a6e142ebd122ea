pub mod FreeLemmas
pub mod PassLemmas
pub mod StartLemmas
