-- What `Circuit::build` answers for given parts.
use Rattle.std.specs.Prelude.{◌≡◌, ◌<◌, ◌++◌, map, length, Result, Ok, Err}
use Rattle.tm_circuit.specs.declared.parts.Parts.{Parts}
use Rattle.tm_circuit.specs.declared.circuit.CircuitFault.{CircuitFault}
use Rattle.tm_circuit.specs.declared.circuit.CircuitFault.TheVariants.{TooMany, Range, BadName, RepeatedName, RepeatedOutput, Loop, NoMemory}
use Rattle.tm_circuit.specs.Plain.{Plain, input, latch, gate}
use Rattle.tm_circuit.specs.Chain.{HasCircle}
use Rattle.tm_circuit.specs.Sound.{IsFew, IsInRange, IsWellNamed, IsDistinctlyNamed, HasDistinctOutputs, IsSound}

-- The circuit that the parts spell: the inputs, then the latches, then the gates.
abbrev pub circuit_of : Parts → Plain
circuit_of p = record {
  model = p.model;
  clock = p.clock;
  names = p.inputs.items ++ map (λ l. l.name) p.latches.items ++ map (λ g. g.name) p.gates.items;
  drives = map (λ _. input) p.inputs.items ++ map (λ l. latch l.next l.init) p.latches.items ++ map (λ g. gate g.pins.items g.cover) p.gates.items;
  outputs = p.outputs.items;
}

-- The answer for a circuit: itself where it is sound, and otherwise the first refusal in this order.
-- Want of memory has no place in the order.
abbrev pub IsBuilt : Plain → Result Plain CircuitFault → Type 0
IsBuilt c (Ok circuit) = (circuit ≡ c) × IsSound c
IsBuilt c (Err TooMany) = 900000 < length c.drives
IsBuilt c (Err Range) = IsFew c × ¬ IsInRange c
IsBuilt c (Err BadName) = IsFew c × IsInRange c × ¬ IsWellNamed c
IsBuilt c (Err RepeatedName) = IsFew c × IsInRange c × IsWellNamed c × ¬ IsDistinctlyNamed c
IsBuilt c (Err RepeatedOutput) = IsFew c × IsInRange c × IsWellNamed c × IsDistinctlyNamed c × ¬ HasDistinctOutputs c
IsBuilt c (Err Loop) = IsFew c × IsInRange c × IsWellNamed c × IsDistinctlyNamed c × HasDistinctOutputs c × HasCircle c.drives
IsBuilt c (Err NoMemory) = Unit {0}
