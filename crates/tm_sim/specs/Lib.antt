pub mod Grid
pub mod Machine
pub mod Settled
pub mod Vectors
