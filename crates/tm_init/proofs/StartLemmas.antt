-- The first steps that are kept, and what they say of all inputs.
use Rattle.std.proofs.Common.{◌≡◌, ℕ, ◌<◌, ◌≤◌, Bool, List, length, refl, sym, ◌∙◌, subst, arith}
use Rattle.tm_circuit.specs.Plain.{Plain, widest}
use Rattle.tm_circuit.specs.Sound.{IsSound}
use Rattle.tm_circuit.specs.Trace.{ObeysAlways}
use Rattle.tm_circuit.proofs.Traces.{has_one_run}
use Rattle.tm_init.specs.Paths.{zeros}
use Rattle.tm_init.specs.Starts.{Bits, bit_in, HasFirst, AreFirstSteps, ServesAllInputs}
use Rattle.tm_init.proofs.FreeLemmas.{one_bit}

-- The first steps up to one are there, with room for the next.
pub record IsUnderWay (c : Plain) (step : ℕ) (bytes : List ℕ) (read : List Bool) : Type 0 where
  pub first : HasFirst c step bytes
  pub signals : length bytes ≡ length c.drives
  pub pins : widest c.drives ≤ length read

pub started : (c : Plain) (d step : ℕ) (bytes : List ℕ) (read : List Bool) → step ≡ d → IsUnderWay c step bytes read
    → AreFirstSteps c d (record { steps = d; bytes = bytes })
started c d step bytes read all under_way = record {
  steps = refl;
  signals = under_way.signals;
  first = subst (λ n. HasFirst c n bytes) all under_way.first;
}

-- A bit that is kept is that of the table with inputs 0.
pub kept_bit : (c : Plain) (d s step : ℕ) (starts : Bits) (t : ℕ → ℕ → Bool) → AreFirstSteps c d starts → s < length starts.bytes
    → step < starts.steps → ObeysAlways c zeros t → bit_in starts.bytes s step ≡ t s step
kept_bit c d s step starts t are within below obeys = are.first.each t obeys s step (omega (arith, are.signals)) (omega (arith, are.steps))

-- A bit that does not depend on the inputs is that of every trace.
pub serves : (c : Plain) (d : ℕ) (starts : Bits) → IsSound c → AreFirstSteps c d starts → ServesAllInputs c d starts
serves c d starts sound are = record {
  each = λ rows t is_trace s step within below long free.
      let (u, obeys) = (has_one_run c sound).some zeros in
      are.first.each u obeys s step within below ∙ sym ((one_bit c s step sound free).traces rows t u long is_trace obeys);
}
