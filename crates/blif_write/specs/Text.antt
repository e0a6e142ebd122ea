-- Text of a circuit: the one spelling of a circuit in BLIF.
-- It is given as lines of words, since that is what the rules of reading cut a text into. The bytes follow from
-- the words by one rule: a blank between two words, and an LF after each line.
use Rattle.std.specs.Prelude.{ℕ, Bool, List, [], ◌∷◌, ◌++◌, map, zip, Option, Some, None, codes, slice_index_or, if◌then◌else◌}
use Rattle.std.specs.List.{flat_map, insert}
use Rattle.tm_bits.specs.declared.cover.Place.{Place}
use Rattle.tm_bits.specs.declared.cover.Place.TheVariants.{Zero, One, Any}
use Rattle.tm_circuit.specs.declared.parts.Clock.{Clock}
use Rattle.tm_circuit.specs.declared.parts.Edge.{Edge}
use Rattle.tm_circuit.specs.declared.parts.Edge.TheVariants.{Rise, Fall}
use Rattle.tm_circuit.specs.Plain.{Plain, Drive, input, latch, gate}
use Rattle.tm_circuit.specs.Same.{input_names}

-- A word after the first of its line: it stands behind a blank.
abbrev pub further_word : List ℕ → List ℕ
further_word word = 32 ∷ word

-- The bytes of a line of words.
abbrev pub line_text : List (List ℕ) → List ℕ
line_text [] = 10 ∷ []
line_text (word ∷ words) = word ++ flat_map further_word words ++ 10 ∷ []

-- The bytes of lines of words.
abbrev pub lines_text : List (List (List ℕ)) → List ℕ
lines_text lines = flat_map line_text lines

-- The name of a signal.
abbrev pub name_of : Plain → ℕ → List ℕ
name_of c s = slice_index_or c.names s []

-- The names of signals.
abbrev pub names_of : Plain → List ℕ → List (List ℕ)
names_of c signals = map (λ s. name_of c s) signals

-- The signals of a circuit: each name with what drives it.
abbrev pub signals_of : Plain → List (List ℕ × Drive)
signals_of c = zip c.names c.drives

-- A list with the clock's name put in before the item at its place, where it has a place.
abbrev pub with_clock : Option Clock → List (List ℕ) → List (List ℕ)
with_clock None names = names
with_clock (Some clock) names = put clock.place
  where
    put : Option ℕ → List (List ℕ)
    put None = names
    put (Some place) = insert names place clock.name

-- The line that declares the clock, where it is declared.
abbrev pub clock_lines : Option Clock → List (List (List ℕ))
clock_lines None = []
clock_lines (Some clock) = if clock.declared then (codes ".clock" ∷ clock.name ∷ []) ∷ [] else []

-- The word for an edge of the clock.
abbrev pub edge_word : Edge → List ℕ
edge_word Rise = codes "re"
edge_word Fall = codes "fe"

-- The edge and the clock's name, as each latch tells them where the clock has an edge.
abbrev pub control_words : Option Clock → List (List ℕ)
control_words None = []
control_words (Some clock) = of_edge clock.edge
  where
    of_edge : Option Edge → List (List ℕ)
    of_edge None = []
    of_edge (Some edge) = edge_word edge ∷ clock.name ∷ []

-- The word for a bit.
abbrev pub bit_word : Bool → List ℕ
bit_word bit = (if bit then 49 else 48) ∷ []

-- The line of a latch; none for any other signal.
abbrev pub latch_lines : Plain → List ℕ → Drive → List (List (List ℕ))
latch_lines c name input = []
latch_lines c name (latch next init) = (codes ".latch" ∷ name_of c next ∷ name ∷ control_words c.clock ++ bit_word init ∷ []) ∷ []
latch_lines c name (gate pins cover) = []

-- The byte of a place.
abbrev pub place_byte : Place → ℕ
place_byte Zero = 48
place_byte One = 49
place_byte Any = 45

-- The words of a row: its places, where it has some, and its output.
abbrev pub row_words : Bool → List Place → List (List ℕ)
row_words on [] = bit_word on ∷ []
row_words on (place ∷ places) = map place_byte (place ∷ places) ∷ bit_word on ∷ []

-- The lines of a gate, with a line for each row of its cover; none for any other signal.
abbrev pub gate_lines : Plain → List ℕ → Drive → List (List (List ℕ))
gate_lines c name input = []
gate_lines c name (latch next init) = []
gate_lines c name (gate pins cover) = (codes ".names" ∷ names_of c pins ++ name ∷ []) ∷ map (row_words cover.on) cover.rows

-- The lines of all signals of a kind, in order.
abbrev pub all_lines : (Plain → List ℕ → Drive → List (List (List ℕ))) → Plain → List (List (List ℕ))
all_lines lines c = flat_map (λ s. lines c s.0 s.1) (signals_of c)

-- The line of the inputs, and that of the outputs.
abbrev pub inputs_line : Plain → List (List ℕ)
inputs_line c = codes ".inputs" ∷ with_clock c.clock (input_names c)

abbrev pub outputs_line : Plain → List (List ℕ)
outputs_line c = codes ".outputs" ∷ names_of c c.outputs

-- The lines of a circuit, from its model to its end.
abbrev pub written_lines : Plain → List (List (List ℕ))
written_lines c =
    (codes ".model" ∷ c.model ∷ []) ∷ inputs_line c ∷ outputs_line c ∷ clock_lines c.clock
    ++ all_lines latch_lines c
    ++ all_lines gate_lines c
    ++ (codes ".end" ∷ []) ∷ []

-- The text of a circuit.
abbrev pub text_of : Plain → List ℕ
text_of c = lines_text (written_lines c)
