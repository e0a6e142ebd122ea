pub mod Report
pub mod Onward
