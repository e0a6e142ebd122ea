pub mod OneCircuit
pub mod SomeCircuit
pub mod ShortNames
pub mod WholeLemmas
pub mod OneModels
pub mod OneUnit
