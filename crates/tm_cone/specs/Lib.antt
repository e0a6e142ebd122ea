pub mod Cones
pub mod Searches
pub mod Values
