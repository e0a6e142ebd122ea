use Rattle.std.proofs.Common.{◌≡◌, [], ◌∷◌, ◌++◌, map, drop}
use Rattle.tm_parts.specs.Parts.{part_names, part_drives}
use Rattle.aiger_read.specs.Circuit.{gate_of, made_names, made_nexts}
use Rattle.aiger_read.proofs.parts.push_made.Given as goal

-- the latches up to here have their gates
abbrev pub invariant-loop-place : goal.invariant-loop-place
invariant-loop-place l = record {
  names : part_names l.fn.gates.items ++ made_names l.joiner 0 l.latches ≡ part_names l.gates.items ++ made_names l.joiner l.place (drop l.place l.latches);
  drives : part_drives l.fn.gates.items ++ map (λ next. gate_of l.variables (next ∷ [])) (made_nexts l.latches)
      ≡ part_drives l.gates.items ++ map (λ next. gate_of l.variables (next ∷ [])) (made_nexts (drop l.place l.latches));
}
