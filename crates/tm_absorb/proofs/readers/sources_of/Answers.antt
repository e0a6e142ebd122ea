-- Leaf by leaf.
use Rattle.std.proofs.Common.{◌≡◌, ◌+◌, List, ℕ, take}
use Rattle.tm_absorb.specs.Slots.{HasSources}
use Rattle.tm_absorb.proofs.ReaderLemmas.{sources_gate, sources_other}
use Rattle.tm_absorb.proofs.readers.sources_of.Goals as goal
use Rattle.tm_absorb.proofs.readers.sources_of.Goals.{in-Gate+in_ok-push, in_default}

pub loop-leaf-preserved : goal.loop-leaf-preserved
loop-leaf-preserved c =
    let drives = c.args.circuit.now.drives in
    elim c.match-source.branch [
      | in-Gate+in_ok-push w ↦ rw (w.gates-is, w.in_ok-push.ensures.ok)
          (sources_gate drives c.args.leaves.now c.loop-leaf.leaf-index c.leaf-item.result w.in-Gate.gate c.loop-leaf.gates.items c.loop-leaf-test.true c.leaf-item.is w.in-Gate.ensures c.loop-leaf.invariant)
      | in_default w ↦ rw w.gates-is
          (sources_other drives c.args.leaves.now c.loop-leaf.leaf-index c.leaf-item.result c.source.result c.loop-leaf.gates.items c.loop-leaf-test.true c.leaf-item.is c.source.ensures
          (λ g is. w.in_default.not-Gate g is) c.loop-leaf.invariant)
    ]
