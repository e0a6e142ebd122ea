pub mod Limits
pub mod Certificates
pub mod Words
pub mod Faults
pub mod Steps
