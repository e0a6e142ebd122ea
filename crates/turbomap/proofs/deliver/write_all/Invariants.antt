use Rattle.std.proofs.Common.{◌≡◌, length, take, map}
use Rattle.turbomap.specs.Prepared.{seen}
use Rattle.turbomap.proofs.Writes.{HaveWritten}
use Rattle.turbomap.proofs.deliver.write_all.Given as goal

abbrev pub invariant-loop-output : goal.invariant-loop-output
invariant-loop-output g l =
    (goal.iterator-loop-output g).can_next l.output-iterator ×
    (goal.iterator-loop-output g).is_finite l.output-iterator ×
    (HaveWritten (g.S.Store.held l.fn.store) (g.S.Store.held l.store) (g.S.Store.write_faults l.fn.store) (g.S.Store.write_faults l.store) (map seen l.yielded)) ×
    (l.yielded ≡ take (length l.yielded) l.fn.outputs.items)
