pub mod Lists
pub mod Fronts
pub mod Stretches
pub mod Texts
pub mod Lawful
