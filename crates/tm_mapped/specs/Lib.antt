pub mod Needed
pub mod Mapped
pub mod Standing
pub mod Functions
pub mod Moved
