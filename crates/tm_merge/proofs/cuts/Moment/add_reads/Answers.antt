-- A gate is asked for its pins.
use Rattle.std.proofs.Common.{◌≡◌, ◌<◌, ◌∙◌, Bool, List, ℕ, map, length, sym, ap, subst, arith}
use Rattle.std.specs.Prelude.{All, IsTrue}
use Rattle.tm_circuit.specs.Plain.{Drive, gate, is_gate, drive_of, drive_in, pins_of}
use Rattle.tm_circuit.specs.Sound.{ReadsBelow}
use Rattle.tm_circuit.specs.declared.parts.Driver.{Driver}
use Rattle.tm_unroll.specs.Latches.{behind_latches}
use Rattle.tm_replay.proofs.SourceLemmas.{reads_signals}
use Rattle.tm_merge.specs.Merges.{TakesIn, TakesReads}
use Rattle.tm_merge.proofs.MergeLemmas.{if_ok}
use Rattle.tm_merge.proofs.cuts.Moment.add_reads.Goals as goal

pub add_pins-requires-clause-signals : goal.add_pins-requires-clause-signals
add_pins-requires-clause-signals c =
    let circuit = c.args.self.now.circuit.now in
    let within : c.args.gate < length circuit.drives = omega arith in
    let is : drive_in circuit.drives c.args.gate ≡ gate c.in-Gate.pins.items c.in-Gate.cover = c.driver.ensures.drive ∙ ap (λ (d : Driver). drive_of d) c.in-Gate.is in
    let below = subst (λ (d : Drive). ReadsBelow (length circuit.drives) d) is (reads_signals circuit c.signals.ensures.sound c.args.gate within) in
    subst (λ (l : List ℕ). All (λ p. p < length circuit.drives) l) (sym c.as_slice.ensures) below

pub returns-in-Gate : goal.returns-in-Gate
returns-in-Gate c =
    let m = c.args.self.now in
    let drives = m.circuit.now.drives in
    let old = c.args.merging.now in
    let new = c.add_pins.new.merging in
    let is : drive_in drives c.args.gate ≡ gate c.in-Gate.pins.items c.in-Gate.cover = c.driver.ensures.drive ∙ ap (λ (d : Driver). drive_of d) c.in-Gate.is in
    let same : c.as_slice.result.now ≡ pins_of (drive_in drives c.args.gate) = c.as_slice.ensures ∙ sym (ap (λ (d : Drive). pins_of d) is) in
    if_ok (λ (b : Bool). IsTrue b → TakesIn m (map (λ p. behind_latches drives c.args.lag p) c.as_slice.result.now) old new)
    (λ (b : Bool). IsTrue b → TakesReads m c.args.gate c.args.lag old new) c.add_pins.result
    (λ b takes yes'. record {
      gate = ap (λ (d : Drive). is_gate d) is;
      takes = subst (λ (l : List ℕ). TakesIn m (map (λ p. behind_latches drives c.args.lag p) l) old new) same (takes yes');
    }) c.add_pins.ensures
