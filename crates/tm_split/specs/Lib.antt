pub mod Limits
pub mod Pieces
pub mod Names
pub mod Subject
pub mod Counts
pub mod Making
