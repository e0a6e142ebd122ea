pub mod Labels
pub mod Served
pub mod Replays
pub mod Bounds
pub mod Faults
pub mod Moments
pub mod ServedNets
