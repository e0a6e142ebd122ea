-- What the steps of a model's reading ask of one another.
use Rattle.std.proofs.Common.{◌≡◌, ℕ, ◌≤◌, List, ◌++◌, Option, None, Some, length, refl, sym, subst, length-append, arith}
use Rattle.std.specs.Prelude.{MatchOption}
use Rattle.tm_circuit.specs.Plain.{Plain}
use Rattle.tm_circuit.specs.Chain.{HasCircle}
use Rattle.tm_circuit.specs.Sound.{IsSound}
use Rattle.blif_unit.specs.declared.fault.BlifKind.TheVariants.{Loop}
use Rattle.blif_unit.specs.Unit.{Model, Telling, IsOrderly, inputs_told, outputs_told, uses_told, drivers_told, latch_told, gate_told, over}
use Rattle.blif_unit.specs.Fault.{Faulty}
use Rattle.blif_circuit.specs.Circuit.{names_of, inputs_of, clock_name, fault_in_names, HasLoop, IsSpelled, IsCircuitOfModel, IsFaultOfModel}
use Rattle.blif_circuit.specs.Signals.{AreKnown, IsLaid}
use Rattle.blif_circuit.proofs.SignalNames.{once, tally, tally-drivers}
use Rattle.blif_circuit.proofs.SignalFaults.{faultless, uses_known, outputs_known}
use Rattle.blif_circuit.proofs.SignalClock.{inputs_few}
use Rattle.blif_circuit.proofs.SignalLaid.{laid}
use Rattle.blif_circuit.proofs.SignalCircle.{no_circle}

-- What is known of the names once none is at fault.
pub record AreSettled (body : List Telling) : Type 0 where
  pub few : length (names_of body) ≤ 900000
  pub few_inputs : length (over inputs_told body) ≤ 900001
  pub known : AreKnown (names_of body) (over uses_told body)
  pub known_outputs : AreKnown (names_of body) (over outputs_told body)

pub settled : (limit : ℕ) (m : Model) → IsOrderly m → limit ≤ 900000 → fault_in_names limit m.body ≡ None → AreSettled m.body
settled limit m o most h =
    let f = faultless limit m.body h in
    let apart : (n : List ℕ) → tally n (over inputs_told m.body) ≤ 1
    = λ n. let all = once (over drivers_told m.body) o.driven_once n in let parts = tally-drivers n m.body in omega (arith, all, parts) in
    let inputs = inputs_few (clock_name m.body) (over inputs_told m.body) apart in
    let split = length-append (inputs_of m.body ++ over latch_told m.body) (over gate_told m.body) in
    let first = length-append (inputs_of m.body) (over latch_told m.body) in
    let known = uses_known limit m.body f in
    record {
      few = omega (arith, f.few);
      few_inputs = omega (arith, inputs, split, first, f.few);
      known = known;
      known_outputs = outputs_known (names_of m.body) m.body known;
    }

pub whole_laid : (limit : ℕ) (m : Model) (c : Plain) → IsOrderly m → limit ≤ 900000 → fault_in_names limit m.body ≡ None → IsSpelled m c → IsLaid c
whole_laid limit m c o most h s = laid limit m c o most (faultless limit m.body h) s

pub whole_circuit : (limit : ℕ) (m : Model) (c d : Plain) → fault_in_names limit m.body ≡ None → IsSpelled m d → c ≡ d → IsSound d → IsCircuitOfModel limit m c
whole_circuit limit m c d h s e sound = record {
  lawful = h;
  spelled = subst (IsSpelled m) (sym e) s;
  open_ended = subst (λ x. ¬ HasCircle x.drives) (sym e) (no_circle d sound);
}

pub whole_loop : (limit : ℕ) (m : Model) (d : Plain) (fault : Faulty) → fault_in_names limit m.body ≡ None → IsSpelled m d → fault ≡ (0, Loop) → HasCircle d.drives → IsFaultOfModel limit m fault
whole_loop limit m d fault h s e circle =
    subst (λ (o : Option Faulty). MatchOption o (HasLoop m fault) (λ first. fault ≡ first)) (sym h) (e, (d, s, circle))

pub whole_first : (limit : ℕ) (m : Model) (fault : Faulty) → fault_in_names limit m.body ≡ Some fault → IsFaultOfModel limit m fault
whole_first limit m fault h = subst (λ (o : Option Faulty). MatchOption o (HasLoop m fault) (λ first. fault ≡ first)) (sym h) refl
