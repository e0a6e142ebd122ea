-- Each signal is an input, a latch or a gate.
use Rattle.std.proofs.Common.{◌≡◌, ◌+◌, cond, List, [], ◌∷◌, length, refl, arith}
use Rattle.std.proofs.lemmas.List.Sums.{sum_by-cons}
use Rattle.tm_circuit.specs.Plain.{Drive, input, latch, gate, is_input, is_latch, is_gate, input_count, latch_count, gate_count}

-- the three numbers make the number of signals
pub kinds-length : (ds : List Drive) → input_count ds + latch_count ds + gate_count ds ≡ length ds
kinds-length [] = refl
kinds-length (d ∷ ds) =
    let inputs = sum_by-cons (λ (x : Drive). cond (is_input x) 1 0) d ds in
    let latches = sum_by-cons (λ (x : Drive). cond (is_latch x) 1 0) d ds in
    let gates = sum_by-cons (λ (x : Drive). cond (is_gate x) 1 0) d ds in
    by_kind d inputs latches gates (kinds-length ds)
  where
    by_kind : (x : Drive) → input_count (x ∷ ds) ≡ cond (is_input x) 1 0 + input_count ds → latch_count (x ∷ ds) ≡ cond (is_latch x) 1 0 + latch_count ds
        → gate_count (x ∷ ds) ≡ cond (is_gate x) 1 0 + gate_count ds → input_count ds + latch_count ds + gate_count ds ≡ length ds
        → input_count (x ∷ ds) + latch_count (x ∷ ds) + gate_count (x ∷ ds) ≡ length (x ∷ ds)
    by_kind input i l g ih = omega arith
    by_kind (latch next init) i l g ih = omega arith
    by_kind (gate pins cover) i l g ih = omega arith
