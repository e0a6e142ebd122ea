pub mod Faults
pub mod Files
pub mod MemSay
pub mod MemStore
pub mod Said
pub mod Slot
