pub mod Ways
pub mod Sweeps
pub mod Reports
pub mod Slacks
pub mod Readings
pub mod Lines
