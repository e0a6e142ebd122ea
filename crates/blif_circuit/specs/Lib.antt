pub use Rattle.blif_unit.specs.Fault
pub use Rattle.blif_unit.specs.Unit
pub mod Circuit
pub mod Signals
