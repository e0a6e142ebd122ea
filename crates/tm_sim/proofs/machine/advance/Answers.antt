-- A latch is a signal after the inputs, and reads a signal.
use Rattle.std.proofs.Common.{◌+◌, ℕ, false, map, ap, ◌∙◌, arith}
use Rattle.std.specs.List.{range_with_len}
use Rattle.tm_circuit.specs.Plain.{drive, latch_count}
use Rattle.tm_sim.specs.Settled.{bit_of, next_bit}
use Rattle.tm_sim.proofs.RowLemmas.{filled}
use Rattle.tm_sim.proofs.StepLemmas.{latches-inside, reads}
use Rattle.tm_sim.proofs.machine.advance.Goals as goal

pub driver-requires : goal.driver-requires
driver-requires c = omega (arith, latches-inside c.args.circuit.now)

pub next_bit-requires : goal.next_bit-requires
next_bit-requires c =
    let s = c.inputs-first.result + c.loop-place.place in
    let circuit = c.args.circuit.now in
    rw (c.requires.values, ← c.driver.ensures.drive) (reads circuit c.requires.sound s (omega (arith, latches-inside circuit)))

pub returns : goal.returns
returns c =
    let circuit = c.args.circuit.now in
    let next = λ (s : ℕ). next_bit (drive circuit s) (bit_of c.args.values.now) in
    let count = latch_count circuit.drives in
    filled next c.inputs-first.result count c.loop-place.latches false (omega arith) (λ k below. c.loop-place.invariant k (omega arith))
    ∙ ap (λ first. map next (range_with_len first count)) c.inputs-first.ensures
