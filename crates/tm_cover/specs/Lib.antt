pub mod Chosen
pub mod Wanted
