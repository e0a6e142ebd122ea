pub mod Limits
pub mod Paths
pub mod Starts
pub mod Passes
