use Rattle.std.proofs.Common.{◌≡◌, ◌++◌, drop}
use Rattle.blif_models.specs.Statement.{repeats}
use Rattle.blif_models.specs.Words.{texts}
use Rattle.blif_models.proofs.heads.new_names.Given as goal

abbrev pub invariant-loop-name : goal.invariant-loop-name
invariant-loop-name l = record {
  rest : repeats l.fn.seen (texts l.further) ≡ repeats l.seen (texts (drop l.name-index l.further));
  so_far : l.fn.seen ++ texts l.further ≡ l.seen ++ texts (drop l.name-index l.further);
}
