pub mod Twins
pub mod Joined
pub mod Classes
