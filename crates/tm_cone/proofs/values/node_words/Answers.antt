-- A latch has the words of its next one advance less, and a gate those of its cover.
use Rattle.std.proofs.Common.{◌≡◌, rules}
use Rattle.tm_circuit.specs.Plain.{drive_in, latch, gate}
use Rattle.tm_cone.proofs.ValueLemmas.{next_known, next_words, gate_words}
use Rattle.tm_cone.proofs.values.node_words.Goals as goal

pub index-requires : goal.index-requires
index-requires c =
    let is : drive_in c.args.circuit.now.drives c.args.node.signal ≡ latch c.in-Latch.next c.in-Latch.init = search rules in
    next_known c.args.values.now c.args.circuit.now.drives c.args.node c.in-Latch.next c.in-Latch.init is c.requires.goes_on c.requires.known

pub returns-in-Latch : goal.returns-in-Latch
returns-in-Latch c =
    let is : drive_in c.args.circuit.now.drives c.args.node.signal ≡ latch c.in-Latch.next c.in-Latch.init = search rules in
    next_words c.args.values.now c.args.circuit.now.drives c.args.node c.in-Latch.next c.in-Latch.init c.index.result.now is c.requires.goes_on c.index.ensures

pub returns-in_ok-lanes-in-Gate : goal.returns-in_ok-lanes-in-Gate
returns-in_ok-lanes-in-Gate c =
    let is : drive_in c.args.circuit.now.drives c.args.node.signal ≡ gate c.in-Gate.pins.items c.in-Gate.cover = search rules in
    gate_words c.args.values.now c.args.circuit.now.drives c.args.node c.in-Gate.pins.items c.in-Gate.cover c.as_slice-in-Gate.result.now c.cover_lanes.result is (search rules) c.cover_lanes.ensures
