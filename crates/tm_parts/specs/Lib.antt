pub mod Limits
pub mod Names
pub mod Runs
pub mod Parts
pub mod Fits
