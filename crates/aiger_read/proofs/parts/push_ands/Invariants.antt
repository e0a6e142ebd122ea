use Rattle.std.proofs.Common.{◌≡◌, [], ◌∷◌, ◌++◌, map, take}
use Rattle.tm_parts.specs.Parts.{part_names, part_drives}
use Rattle.aiger_read.specs.Names.{made_name}
use Rattle.aiger_read.specs.Circuit.{gate_of}
use Rattle.aiger_read.specs.Statements.{variable_of}
use Rattle.aiger_read.proofs.parts.push_ands.Given as goal

-- the ands up to here have gates
abbrev pub invariant-loop-and : goal.invariant-loop-and
invariant-loop-and l = record {
  names : part_names l.gates.items ≡ part_names l.fn.gates.items ++ map (λ a. made_name l.joiner 97 (variable_of a.literal)) (take l.and-index l.ands);
  drives : part_drives l.gates.items ≡ part_drives l.fn.gates.items ++ map (λ a. gate_of l.variables (a.left ∷ a.right ∷ [])) (take l.and-index l.ands);
}
