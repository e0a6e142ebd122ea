-- What the reader has seen, as the lists that the rules speak of.
use Rattle.std.specs.Prelude.{◌≡◌, ℕ, ◌||◌, ◌&&◌, ◌++◌, ◌+◌, slice_range, Bool, true, false, List, Option, None, Some, Result, Ok, Err, map, option_map, option_copied, option_to_list, slice_get, codes, not, bytes_eq, if◌then◌else◌}
use Rattle.std.specs.List.{list_any, list_all}
use Rattle.std.specs.Option.{option_or}
use Rattle.std.specs.Borrow.{Bor}
use Rattle.blif_unit.specs.declared.fault.BlifFault.{BlifFault}
use Rattle.blif_unit.specs.declared.fault.BlifFault.TheVariants.{Text, NoMemory}
use Rattle.blif_unit.specs.declared.fault.BlifKind.{BlifKind}
use Rattle.blif_unit.specs.declared.fault.BlifKind.TheVariants.{BadInit, UnknownInit}
use Rattle.blif_models.specs.declared.keyword.Keyword.{Keyword}
use Rattle.blif_models.specs.declared.keyword.Keyword.TheVariants.{Latch}
use Rattle.blif_models.specs.declared.heads.ControlWords.{ControlWords}
use Rattle.blif_models.specs.declared.heads.Seen.{Seen}
use Rattle.blif_models.specs.declared.heads.Said.{Said}
use Rattle.blif_models.specs.declared.heads.Said.TheVariants.{Model, Body}
use Rattle.blif_models.specs.declared.rows.OutputRow.{OutputRow}
use Rattle.blif_unit.specs.Unit.{Told, told_of}
use Rattle.blif_lex.specs.Words.{Line}
use Rattle.blif_lex.specs.Spans.{nth_line}
use Rattle.blif_models.specs.Statement.{Block, Earlier, keyword_in, further, told_in, word_at, is_model, is_end, drivers_in, outputs_in, clocks_in, controls_in, has_bad_init, has_unknown_init, is_bit, is_init, is_place, is_row_of, place_of, places_of, output_of, init_of, differ, differs_from_first}

-- slices of a text as lists of bytes
abbrev pub texts : List (Bor (List ℕ)) → List (List ℕ)
texts words = map (λ word. word.now) words

abbrev pub control_seen : Option ControlWords → Option (List ℕ × List ℕ)
control_seen control = option_map (λ words. (words.edge.now, words.name.now)) control

abbrev pub first_seen : Option (Option ControlWords) → Option (Option (List ℕ × List ℕ))
first_seen control = option_map control_seen control

abbrev pub earlier_of : Seen → Earlier
earlier_of seen = record {
  some = seen.some;
  named = seen.named;
  ended = seen.ended;
  drivers = seen.drivers;
  outputs = seen.outputs;
  clock = option_copied seen.clock;
  control = first_seen seen.control;
}

-- what the rules ask after one more statement, of which k is the first word
abbrev pub after : Keyword → List (List ℕ) → Earlier → Earlier
after k ws before = record {
  some = true;
  named = before.named || is_model k;
  ended = before.ended || is_end k;
  drivers = before.drivers ++ drivers_in k ws;
  outputs = before.outputs ++ outputs_in k ws;
  clock = option_or before.clock (slice_get (clocks_in k ws) 0);
  control = option_or before.control (slice_get (controls_in k ws) 0);
}

-- An answer on a line is the line's fault. Want of memory says nothing of it.
abbrev pub IsHeadFault : BlifFault → ℕ → Option BlifKind → Type 0
IsHeadFault (Text line kind) number fault = (line ≡ number) × (fault ≡ Some kind)
IsHeadFault NoMemory number fault = Unit {0}

abbrev pub told_by : Said → Option Told
told_by (Body what) = Some (told_of what)
told_by _ = None

-- the name that a `.model` gives
abbrev pub name_by : Said → Option (List ℕ)
name_by (Model name) = Some name
name_by _ = None

abbrev pub named_in : Keyword → List (List ℕ) → Option (List ℕ)
named_in k ws = if is_model k then Some (word_at ws 0) else None

-- an initial value by a latch's words, or what is wrong with it
abbrev pub IsInit : Result Bool BlifKind → List (List ℕ) → Type 0
IsInit (Ok init) ws = (has_bad_init Latch ws ≡ false) × (has_unknown_init Latch ws ≡ false) × (init ≡ init_of ws)
IsInit (Err BadInit) ws = has_bad_init Latch ws ≡ true
IsInit (Err UnknownInit) ws = (has_bad_init Latch ws ≡ false) × (has_unknown_init Latch ws ≡ true)
IsInit (Err kind) ws = ⊥

-- Some name is another than the clock's.
abbrev pub differ_from : Option (List ℕ) → List (List ℕ) → Bool
differ_from None names = false
differ_from (Some clock) names = list_any (λ name. not (bytes_eq clock name)) names

-- the clock name that a control brings
abbrev pub clock_by : Option (List ℕ × List ℕ) → List (List ℕ)
clock_by control = option_to_list (option_map (λ words. words.1) control)

-- A latch's control brings a second clock name, or is not that of the first latch.
abbrev pub clashes : Option (List ℕ × List ℕ) → Earlier → Bool
clashes control before = differ (option_to_list before.clock ++ clock_by control) || differs_from_first before.control control

abbrev pub with_control : Option (List ℕ × List ℕ) → Earlier → Earlier
with_control control before = record before {
  clock = option_or before.clock (slice_get (clock_by control) 0);
  control = option_or before.control (Some control);
}

-- an initial value by its word, or what is wrong with it
abbrev pub IsInitBy : Result Bool BlifKind → List ℕ → Type 0
IsInitBy (Ok init) word = (is_init word ≡ true) × (bytes_eq word (codes "3") ≡ false) × (init ≡ bytes_eq word (codes "1"))
IsInitBy (Err BadInit) word = is_init word ≡ false
IsInitBy (Err UnknownInit) word = (is_init word ≡ true) × (bytes_eq word (codes "3") ≡ true)
IsInitBy (Err kind) word = ⊥

-- the output that a word spells
abbrev pub bit_in : List ℕ → Option Bool
bit_in word = if is_bit word then Some (bytes_eq word (codes "1")) else None

-- A row by its two words, or none where they are not of its form.
abbrev pub IsOutputRow : Option OutputRow → List ℕ → List ℕ → Type 0
IsOutputRow None places output = list_all is_place places && is_bit output ≡ false
IsOutputRow (Some found) places output =
    (list_all is_place places && is_bit output ≡ true) × (found.row ≡ map place_of places) × (found.output ≡ bytes_eq output (codes "1"))

-- A row of a gate with so many pins by its words, or none where they are not of its form.
abbrev pub IsRowOf : Option OutputRow → ℕ → List (List ℕ) → Type 0
IsRowOf None pins row = is_row_of pins row ≡ false
IsRowOf (Some found) pins row = (is_row_of pins row ≡ true) × (found.row ≡ places_of row) × (found.output ≡ output_of row)

-- the statement of a line with its rows, which go up to `end`
abbrev pub block_at : List Line → ℕ → ℕ → Block
block_at lines line end = record { head = nth_line lines line; rows = slice_range lines (line + 1) end }

abbrev pub after_block : Block → Earlier → Earlier
after_block block before = after (keyword_in block.head) (further block.head) before

abbrev pub told_in_block : Block → Option Told
told_in_block block = told_in (keyword_in block.head) (further block.head) block.rows

abbrev pub named_in_block : Block → Option (List ℕ)
named_in_block block = named_in (keyword_in block.head) (further block.head)
