-- the gates so far and the way on behind the last of them are the whole chain
use Rattle.std.proofs.Common.{◌≡◌, ◌++◌, ◌∷◌}
use Rattle.tm_circuit.specs.Chain.{IsGate}
use Rattle.tm_report.specs.Onward.{behind, way_behind}
use Rattle.tm_report.proofs.chain.chain_from.Given as goal

abbrev pub invariant-loop-gate : goal.invariant-loop-gate
invariant-loop-gate l = record {
  gate : IsGate l.circuit.drives l.gate;
  whole : l.chain.items ++ way_behind l.onward l.gate ≡ l.initial.gate ∷ way_behind l.onward l.initial.gate;
}

abbrev pub decreases-loop-gate : goal.decreases-loop-gate
decreases-loop-gate l = behind l.onward l.gate
