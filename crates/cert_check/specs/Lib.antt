pub mod Agreement
pub mod Accepted
pub mod Claims
pub mod Reasons
pub mod Steps
