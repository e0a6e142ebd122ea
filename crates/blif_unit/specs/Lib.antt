pub mod Fault
pub mod Fit
pub mod Unit
