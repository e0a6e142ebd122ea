pub mod Absorbing
pub mod Admitting
pub mod Slots
