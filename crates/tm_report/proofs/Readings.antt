-- What is read of the lists at a signal, and numbers that fit.
use Rattle.std.proofs.Common.{◌≡◌, ℕ, ◌+◌, ◌<◌, ◌≤◌, Bool, List, length, get_or, sym, ◌∙◌, ap, arith}
use Rattle.std.proofs.lemmas.List.{get_or_read}
use Rattle.std.proofs.lemmas.List.Sums.{count_by-le-length}
use Rattle.tm_circuit.specs.Plain.{Plain, Drive, drive, is_gate, gate_count}
use Rattle.tm_circuit.specs.Chain.{IsGate, IsOrder, rank}
use Rattle.tm_circuit.specs.Sound.{IsSound}
use Rattle.tm_report.specs.declared.onward.Onward.{Onward}
use Rattle.tm_report.specs.Onward.{onward_at}

-- what was read at a place is what stands for the signal
pub onward_read : (onward : List Onward) (i s : ℕ) (o : Onward) → i < length onward → i ≡ s → o ≡ get_or onward i o → o ≡ onward_at onward s
onward_read onward i s o below here read = get_or_read onward i o below read (record { gates = 0; next = 0 }) ∙ ap (λ x. onward_at onward x) here

-- a number that leaves room for a rank is small
pub is_few : (c : Plain) (n s : ℕ) → IsSound c → n + rank c s ≤ gate_count c.drives → n ≤ 900000
is_few c n s sound bounded = omega (arith, bounded, sound.few, count_by-le-length is_gate c.drives)

-- what stands in an order is a gate
pub order_gate : (drives : List Drive) (order : List ℕ) (k g : ℕ) → IsOrder drives order → k < length order → g ≡ get_or order k g → IsGate drives g
order_gate drives order k g ordered within is = (ordered.gates g).0 (k, within, sym is)

-- whether the driver of a signal is that of a gate
pub tested : (c : Plain) (s : ℕ) (d : Drive) (answer told : Bool) → drive c s ≡ d → answer ≡ is_gate d → answer ≡ told → is_gate (drive c s) ≡ told
tested c s d answer told driver test is = ap is_gate driver ∙ sym test ∙ is
