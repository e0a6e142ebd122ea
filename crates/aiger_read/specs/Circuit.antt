-- The circuit of an AIGER text, by what its lines say and the names that are used.
--     `a` 97, `x` 120, and the model `aiger`
use Rattle.std.specs.Prelude.{ℕ, suc, ◌+◌, ◌%◌, Bool, true, not, ◌||◌, ◌==◌, if◌then◌else◌, List, [], ◌∷◌, ◌++◌, map, length, filter, position, filter_map, codes, Option, None, Some, unwrap_or}
use Rattle.std.specs.List.{list_any, range_with_len}
use Rattle.tm_bits.specs.declared.cover.Place.{Place}
use Rattle.tm_bits.specs.declared.cover.Place.TheVariants.{Zero, One}
use Rattle.tm_circuit.specs.Plain.{Plain, Drive, input, latch, gate}
use Rattle.aiger_read.specs.declared.header.Header.{Header}
use Rattle.aiger_read.specs.declared.statement.Statement.{Statement}
use Rattle.aiger_read.specs.declared.statement.LatchLine.{LatchLine}
use Rattle.aiger_read.specs.declared.statement.AndLine.{AndLine}
use Rattle.aiger_read.specs.declared.statement.Statement.TheVariants.{Input, Latch, Output, And}
use Rattle.aiger_read.specs.Statements.{variable_of}
use Rattle.aiger_read.specs.Names.{used, joiner_for, made_name, input_names, output_names, latch_names}

-- ---- what the statements say, kind by kind

abbrev pub input_said : Statement → Option ℕ
input_said (Input literal) = Some literal
input_said _ = None

abbrev pub latch_said : Statement → Option LatchLine
latch_said (Latch l) = Some l
latch_said _ = None

abbrev pub output_said : Statement → Option ℕ
output_said (Output literal) = Some literal
output_said _ = None

abbrev pub and_said : Statement → Option AndLine
and_said (And a) = Some a
and_said _ = None

abbrev pub inputs_in : List Statement → List ℕ
inputs_in body = filter_map input_said body

abbrev pub latches_in : List Statement → List LatchLine
latches_in body = filter_map latch_said body

abbrev pub outputs_in : List Statement → List ℕ
outputs_in body = filter_map output_said body

abbrev pub ands_in : List Statement → List AndLine
ands_in body = filter_map and_said body

-- ---- signals

-- The signal of a variable.
abbrev pub signal_in : List ℕ → ℕ → ℕ
signal_in variables v = unwrap_or (position (λ w. v == w) variables) 0

-- ---- gates

-- The place in a row that a literal asks for.
abbrev pub place_for : ℕ → Place
place_for literal = if literal % 2 == 1 then Zero else One

-- The literals that give pins: a literal 1 gives none.
abbrev pub asking : List ℕ → List ℕ
asking literals = filter (λ literal. not (literal == 1)) literals

abbrev pub has_zero : List ℕ → Bool
has_zero literals = list_any (λ literal. literal == 0) literals

-- The gate with the value of the and of literals. With a literal 0 it has no pins and no row. Else each literal but 1 gives
-- its variable's signal as a pin, and the one row has its place.
abbrev pub gate_of : List ℕ → List ℕ → Drive
gate_of variables literals =
    if has_zero literals then gate [] (record { on = true; rows = [] })
    else gate (map (λ literal. signal_in variables (variable_of literal)) (asking literals))
    (record { on = true; rows = map place_for (asking literals) ∷ [] })

-- Whether the next literal of a latch is one that no signal has, so that a gate is made for it.
abbrev pub is_made : ℕ → Bool
is_made next = next % 2 == 1 || next == 0

-- The latches. The gates that are made for them have the signals from `made` on.
abbrev pub latch_drives : List ℕ → ℕ → List LatchLine → List Drive
latch_drives variables made [] = []
latch_drives variables made (l ∷ latches) =
    if is_made l.next then latch made l.reset ∷ latch_drives variables (suc made) latches
    else latch (signal_in variables (variable_of l.next)) l.reset ∷ latch_drives variables made latches

-- The next literals for which gates are made.
abbrev pub made_nexts : List LatchLine → List ℕ
made_nexts latches = filter is_made (map (λ l. l.next) latches)

-- The names of the gates that are made for latches, by the places of the latches.
abbrev pub made_names : List ℕ → ℕ → List LatchLine → List (List ℕ)
made_names joiner place [] = []
made_names joiner place (l ∷ latches) =
    if is_made l.next then made_name joiner 120 place ∷ made_names joiner (suc place) latches else made_names joiner (suc place) latches

-- What the lines of each kind say.
pub record Sections : Type 0 where
  pub inputs : List ℕ
  pub latches : List LatchLine
  pub outputs : List ℕ
  pub ands : List AndLine

abbrev pub sections_in : List Statement → Sections
sections_in body = record { inputs = inputs_in body; latches = latches_in body; outputs = outputs_in body; ands = ands_in body }

-- The variables that have signals of their own, in the order of the signals: inputs, latches, ands.
abbrev pub variables_of : Sections → List ℕ
variables_of s = map variable_of s.inputs ++ map (λ l. variable_of l.literal) s.latches ++ map (λ a. variable_of a.literal) s.ands

-- The gates: of the ands, of the latches for whose next one is made, of the outputs.
abbrev pub gate_names : Header → List ℕ → List (Option (List ℕ)) → Sections → List (List ℕ)
gate_names h joiner names s =
    map (λ a. made_name joiner 97 (variable_of a.literal)) s.ands ++ made_names joiner 0 s.latches ++ output_names h joiner names

abbrev pub gate_drives : List ℕ → Sections → List Drive
gate_drives variables s =
    map (λ a. gate_of variables (a.left ∷ a.right ∷ [])) s.ands ++ map (λ next. gate_of variables (next ∷ [])) (made_nexts s.latches)
    ++ map (λ literal. gate_of variables (literal ∷ [])) s.outputs

-- ---- the circuit

-- The circuit of statements, where these names are used.
abbrev pub circuit_with : Header → List ℕ → List (Option (List ℕ)) → Sections → Plain
circuit_with h joiner names s = record {
  model = codes "aiger";
  clock = None;
  names = input_names h joiner names ++ latch_names h joiner names ++ gate_names h joiner names s;
  drives = map (λ _. input) s.inputs ++ latch_drives (variables_of s) (length (variables_of s)) s.latches ++ gate_drives (variables_of s) s;
  outputs = range_with_len (length (variables_of s) + length (made_nexts s.latches)) (length s.outputs);
}

-- The circuit of statements to which these names are given, of at most so many bytes.
unfoldable pub circuit_of : ℕ → Header → List (Option (List ℕ)) → Sections → Plain
circuit_of most h given s = circuit_with h (joiner_for (used most given)) (used most given) s
