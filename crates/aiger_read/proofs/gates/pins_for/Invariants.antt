use Rattle.std.proofs.Common.{◌≡◌, map, take}
use Rattle.aiger_read.specs.Statements.{variable_of}
use Rattle.aiger_read.specs.Circuit.{signal_in}
use Rattle.aiger_read.proofs.gates.pins_for.Given as goal

-- the pins up to here
abbrev pub invariant-loop-literal : goal.invariant-loop-literal
invariant-loop-literal l = l.pins.items ≡ map (λ literal. signal_in l.variables (variable_of literal)) (take l.literal-index l.literals)
