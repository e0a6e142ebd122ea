pub mod CircuitLemmas
pub mod NameLemmas
pub mod TextLemmas
pub mod NarrowLemmas
pub mod ShortLemmas
pub mod NumberLemmas
