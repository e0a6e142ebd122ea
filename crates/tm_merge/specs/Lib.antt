pub mod Cuts
pub mod Leading
pub mod Merges
