pub mod Sample
pub mod SampleCircuit
