use Rattle.std.proofs.Common.{◌≡◌, [], ◌∷◌, ◌++◌, map, take, drop}
use Rattle.tm_parts.specs.Parts.{part_names, part_drives}
use Rattle.aiger_read.specs.Names as spelled
use Rattle.aiger_read.specs.Circuit.{gate_of}
use Rattle.aiger_read.specs.Steps.{maybe_texts}
use Rattle.aiger_read.proofs.parts.push_outputs.Given as goal

-- the outputs up to here have gates
abbrev pub invariant-loop-place : goal.invariant-loop-place
invariant-loop-place l = record {
  names : part_names l.fn.gates.items ++ spelled.names_from l.joiner 111 0 (maybe_texts l.names)
      ≡ part_names l.gates.items ++ spelled.names_from l.joiner 111 l.place (maybe_texts (drop l.place l.names));
  drives : part_drives l.gates.items ≡ part_drives l.fn.gates.items ++ map (λ literal. gate_of l.variables (literal ∷ [])) (take l.place l.outputs);
}
