use Rattle.std.proofs.Common.{◌≡◌, ◌++◌, drop}
use Rattle.blif_unit.specs.Unit.{repeats}
use Rattle.blif_read.proofs.whole.put_names.Given as goal

abbrev pub invariant-loop-name : goal.invariant-loop-name
invariant-loop-name l = record {
  rest : repeats l.fn.seen l.names ≡ repeats l.seen (drop l.name-index l.names);
  so_far : l.fn.seen ++ l.names ≡ l.seen ++ drop l.name-index l.names;
}
