-- The buffers have their lengths, and the latches their initial values.
use Rattle.std.proofs.Common.{ℕ, List, Bool, [], length, sym, ap, ◌∙◌, subst, rules}
use Rattle.std.proofs.lemmas.List.FromFn.{length-map-range_with_len}
use Rattle.tm_circuit.specs.Plain.{drive, input_count, latch_count}
use Rattle.tm_sim.specs.Machine.{StandsAfter}
use Rattle.tm_sim.specs.Settled.{first_bit}
use Rattle.tm_sim.proofs.StepLemmas.{stands-first}
use Rattle.tm_sim.proofs.machine.Machine.new.Goals as goal

pub invariant_of-result : goal.invariant_of-result
invariant_of-result c =
    let circuit = c.args.circuit.now in
    record {
      sound = c.signals.ensures.sound;
      each_latch = ap length c.in_ok-latches.ensures
          ∙ length-map-range_with_len (λ (s : ℕ). first_bit (drive circuit s)) (input_count circuit.drives) (latch_count circuit.drives);
      each_signal = search rules;
      widest_gate = search rules;
    }

pub returns-clause-stands : goal.returns-clause-stands
returns-clause-stands c =
    let circuit = c.args.circuit.now in
    subst (λ (bits : List Bool). StandsAfter (record { circuit = circuit; latches = bits }) []) (sym c.in_ok-latches.ensures) (stands-first circuit c.signals.ensures.sound)
