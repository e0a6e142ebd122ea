-- The circuit that the sample text spells.
use Rattle.std.specs.Prelude.{ℕ, zero, suc, ◌+◌, ◌-◌, ◌*◌, ◌%◌, ◌≤◌, ◌==◌, true, List, [], ◌∷◌, ◌++◌, map, length, codes, None}
use Rattle.std.specs.List.{range_with_len}
use Rattle.tm_bits.specs.declared.cover.Place.{Place}
use Rattle.tm_bits.specs.declared.cover.Place.TheVariants.{Zero, One, Any}
use Rattle.tm_circuit.specs.Plain.{Plain, Drive, input, latch, gate, widest}
use Rattle.blif_read.specs.declared.TheConstants.{SOURCE}
use Rattle.blif_read.specs.Text.{IsCircuitOf}
use Rattle.tm_make.specs.Sample.{input_name, latch_name, gate_name, latches_of, first_choice, second_choice, kind}

-- The rows of a kind: both pins, one of them, just one of them.
abbrev pub kind_rows : ℕ → List (List Place)
kind_rows zero = (One ∷ One ∷ []) ∷ []
kind_rows (suc zero) = (One ∷ Any ∷ []) ∷ (Any ∷ One ∷ []) ∷ []
kind_rows (suc (suc more)) = (One ∷ Zero ∷ []) ∷ (Zero ∷ One ∷ []) ∷ []

-- The signal of a gate, after the inputs and the latches.
abbrev pub gate_signal : ℕ → ℕ → ℕ
gate_signal n j = 8 + latches_of n + j

abbrev pub latch_drive : ℕ → ℕ → Drive
latch_drive n j = latch (gate_signal n (4 * j + 3)) (j % 2 == 1)

abbrev pub gate_drive : ℕ → ℕ → Drive
gate_drive n j = gate (first_choice n j ∷ second_choice n j ∷ []) (record { on = true; rows = kind_rows (kind n j) })

-- The sample circuit of a number: a choice of a pin is a signal by its number.
unfoldable pub sample_circuit : ℕ → Plain
sample_circuit n = record {
  model = codes "sample";
  clock = None;
  names = map input_name (range_with_len 0 8) ++ map latch_name (range_with_len 0 (latches_of n)) ++ map gate_name (range_with_len 0 n);
  drives = map (λ _. input) (range_with_len 0 8) ++ map (latch_drive n) (range_with_len 0 (latches_of n))
      ++ map (gate_drive n) (range_with_len 0 n);
  outputs = map (gate_signal n) (range_with_len (n - 8) 8);
}

-- A text has a circuit within the limits on a text that is mapped, of at most two pins a gate: its subject circuit is itself.
pub record HasNarrowCircuit (text : List ℕ) (c : Plain) : Type 0 where
  pub circuit : IsCircuitOf SOURCE text c
  pub signals : length c.drives ≤ 100000
  pub narrow : widest c.drives ≤ 2
