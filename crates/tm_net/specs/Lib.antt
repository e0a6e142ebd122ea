pub mod Limits
pub mod Registers
pub mod Layouts
pub mod Making
