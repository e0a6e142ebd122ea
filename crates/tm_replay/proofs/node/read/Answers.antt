use Rattle.std.proofs.Common.{ℕ, ◌<◌, List, length, get_or, ◌∙◌, subst, sym, ap}
use Rattle.tm_circuit.specs.Plain.{drive_of}
use Rattle.tm_replay.proofs.NodeLemmas.{read_within, latch_reads, gate_reads}
use Rattle.tm_replay.proofs.node.read.Goals as goal

pub driver-requires : goal.driver-requires
driver-requires c = (read_within c.args.circuit.now c.args.node c.args.index c.requires).0

pub overflow_sub-result : goal.overflow_sub-result
overflow_sub-result c =
    (latch_reads c.args.circuit.now c.args.node c.args.index c.in-Latch.next c.in-Latch.init (c.driver.ensures.drive ∙ ap drive_of c.in-Latch.is) c.requires).0

pub bounds-deref-index : goal.bounds-deref-index
bounds-deref-index c =
    let reads = gate_reads c.args.circuit.now c.args.node c.args.index c.in-Gate.pins.items c.in-Gate.cover (c.driver.ensures.drive ∙ ap drive_of c.in-Gate.is) c.requires in
    subst (λ (pins : List ℕ). c.args.index < length pins) (sym c.deref.ensures) reads.0

pub returns-in-Latch : goal.returns-in-Latch
returns-in-Latch c =
    (latch_reads c.args.circuit.now c.args.node c.args.index c.in-Latch.next c.in-Latch.init (c.driver.ensures.drive ∙ ap drive_of c.in-Latch.is) c.requires).1

pub returns-in-Gate : goal.returns-in-Gate
returns-in-Gate c =
    let reads = gate_reads c.args.circuit.now c.args.node c.args.index c.in-Gate.pins.items c.in-Gate.cover (c.driver.ensures.drive ∙ ap drive_of c.in-Gate.is) c.requires in
    let is = c.index-deref-index.is in
    reads.1 c.index-deref-index.result (is ∙ ap (λ (pins : List ℕ). get_or pins c.args.index c.index-deref-index.result) c.deref.ensures)
