-- The table goes, and its readers take it in one by one.
use Rattle.std.proofs.Common.{◌≡◌, ◌<◌, ℕ, ◌+◌, List, [], Option, None, Some, Global, length, map, take, refl, sym, ◌∙◌, ap, subst, arith}
use Rattle.std.specs.Prelude.{Contains, Vec}
use Rattle.std.proofs.lemmas.List.{length-map, take_all}
use Rattle.tm_circuit.proofs.ListLemmas.{contains-none}
use Rattle.tm_unroll.specs.declared.node.Node.{Node}
use Rattle.tm_unroll.specs.Mappings.{table_of}
use Rattle.tm_absorb.specs.declared.under_way.UnderWay.{UnderWay}
use Rattle.tm_absorb.specs.Slots.{slot_in, row_in, rows_of, present}
use Rattle.tm_absorb.proofs.SlotLemmas.{slot-within, all-contained}
use Rattle.tm_absorb.proofs.StepLemmas.{never_own}
use Rattle.tm_absorb.proofs.TakeLemmas.{taken_cases}
use Rattle.tm_absorb.proofs.ReaderLemmas.{row_read}
use Rattle.tm_absorb.proofs.TurnLemmas.{IsTakingIn, taking_in_starts, taking_in_more}
use Rattle.tm_absorb.proofs.AbsorbLemmas.{going_table, turn_sized, turn_within, turn_leaves, turn_room, absorbed_last}
use Rattle.tm_absorb.proofs.RenewLemmas.{slot_read, with_slot, without_made}
use Rattle.tm_absorb.proofs.under_way.UnderWay.absorb.Goals as goal

pub loop-reader-init : goal.loop-reader-init
loop-reader-init c =
    taking_in_starts c.args.circuit.now.drives c.args.k (table_of c.in-Some.table) [] (with_slot c.args.self.now c.gate.inside.0 c.replace.new.dest) (λ h there. contains-none h there)

pub take_in-requires-clause-sized : goal.take_in-requires-clause-sized
take_in-requires-clause-sized c =
    let circuit = c.args.circuit.now in
    let first = c.args.self.now in
    let gate = c.args.gate in
    let t = table_of c.in-Some.table in
    let start = with_slot first c.gate.inside.0 c.replace.new.dest in
    let inside = slot-within first.slots.items gate c.requires.next.goes.table c.requires.next.goes.at in
    let at : slot_in first.slots.items gate ≡ Some t =
    slot_read first.slots.items gate c.gate.inside.0 c.index_mut.result.now c.in-Some.table c.gate.view_is inside c.index_mut.ensures.value (sym c.replace.ensures.value ∙ c.in-Some.is) in
    let without = without_made gate c.gate.inside.0 first c.replace.new.dest t at c.gate.view_is c.replace.ensures.after in
    let seen = take c.loop-reader.reader-index c.deref-reader-items.result.now in
    turn_sized circuit c.args.k c.args.d c.signals-sound.ensures.sound first start c.loop-reader.self gate t seen c.requires.state c.requires.next at without c.loop-reader.invariant

pub take_in-requires-clause-within : goal.take_in-requires-clause-within
take_in-requires-clause-within c =
    let circuit = c.args.circuit.now in
    let first = c.args.self.now in
    let gate = c.args.gate in
    let t = table_of c.in-Some.table in
    let start = with_slot first c.gate.inside.0 c.replace.new.dest in
    let inside = slot-within first.slots.items gate c.requires.next.goes.table c.requires.next.goes.at in
    let at : slot_in first.slots.items gate ≡ Some t =
    slot_read first.slots.items gate c.gate.inside.0 c.index_mut.result.now c.in-Some.table c.gate.view_is inside c.index_mut.ensures.value (sym c.replace.ensures.value ∙ c.in-Some.is) in
    let without = without_made gate c.gate.inside.0 first c.replace.new.dest t at c.gate.view_is c.replace.ensures.after in
    let seen = take c.loop-reader.reader-index c.deref-reader-items.result.now in
    all-contained (λ (x : Node). x.signal < length circuit.drives) c.in-Some.table.leaves.items
    (turn_within circuit c.args.k c.args.d c.signals-sound.ensures.sound first start c.loop-reader.self gate t seen c.requires.state c.requires.next at without c.loop-reader.invariant)

pub take_in-requires-clause-leaves : goal.take_in-requires-clause-leaves
take_in-requires-clause-leaves c =
    let circuit = c.args.circuit.now in
    let first = c.args.self.now in
    let gate = c.args.gate in
    let t = table_of c.in-Some.table in
    let start = with_slot first c.gate.inside.0 c.replace.new.dest in
    let inside = slot-within first.slots.items gate c.requires.next.goes.table c.requires.next.goes.at in
    let at : slot_in first.slots.items gate ≡ Some t =
    slot_read first.slots.items gate c.gate.inside.0 c.index_mut.result.now c.in-Some.table c.gate.view_is inside c.index_mut.ensures.value (sym c.replace.ensures.value ∙ c.in-Some.is) in
    let without = without_made gate c.gate.inside.0 first c.replace.new.dest t at c.gate.view_is c.replace.ensures.after in
    let seen = take c.loop-reader.reader-index c.deref-reader-items.result.now in
    turn_leaves circuit c.args.k c.args.d c.signals-sound.ensures.sound first start c.loop-reader.self gate t seen c.requires.state c.requires.next at without c.loop-reader.invariant

pub take_in-requires-clause-room : goal.take_in-requires-clause-room
take_in-requires-clause-room c =
    let circuit = c.args.circuit.now in
    let first = c.args.self.now in
    let gate = c.args.gate in
    let t = table_of c.in-Some.table in
    let start = with_slot first c.gate.inside.0 c.replace.new.dest in
    let inside = slot-within first.slots.items gate c.requires.next.goes.table c.requires.next.goes.at in
    let at : slot_in first.slots.items gate ≡ Some t =
    slot_read first.slots.items gate c.gate.inside.0 c.index_mut.result.now c.in-Some.table c.gate.view_is inside c.index_mut.ensures.value (sym c.replace.ensures.value ∙ c.in-Some.is) in
    let without = without_made gate c.gate.inside.0 first c.replace.new.dest t at c.gate.view_is c.replace.ensures.after in
    let seen = take c.loop-reader.reader-index c.deref-reader-items.result.now in
    turn_room circuit c.args.k c.args.d c.signals-sound.ensures.sound first start c.loop-reader.self gate t seen c.requires.state c.requires.next at without c.loop-reader.invariant
    c.reader-item.result

pub loop-reader-preserved : goal.loop-reader-preserved
loop-reader-preserved c =
    let circuit = c.args.circuit.now in
    let first = c.args.self.now in
    let gate = c.args.gate in
    let t = table_of c.in-Some.table in
    let start = with_slot first c.gate.inside.0 c.replace.new.dest in
    let inside = slot-within first.slots.items gate c.requires.next.goes.table c.requires.next.goes.at in
    let at : slot_in first.slots.items gate ≡ Some t =
    slot_read first.slots.items gate c.gate.inside.0 c.index_mut.result.now c.in-Some.table c.gate.view_is inside c.index_mut.ensures.value (sym c.replace.ensures.value ∙ c.in-Some.is) in
    let without = without_made gate c.gate.inside.0 first c.replace.new.dest t at c.gate.view_is c.replace.ensures.after in
    let seen = take c.loop-reader.reader-index c.deref-reader-items.result.now in
    let goes = going_table circuit c.args.k c.args.d first gate t c.requires.next at in
    let items = c.deref-reader-items.result.now in
    taking_in_more circuit.drives c.args.k t seen (take (c.loop-reader.reader-index + 1) items) c.reader-item.result start c.loop-reader.self c.take_in.new.self
    (never_own circuit c.args.k c.args.d (present first.slots.items) t c.signals-sound.ensures.sound c.requires.state.under_way.lawful goes.table)
    (λ h there. taken_cases items c.loop-reader.reader-index c.reader-item.result h c.loop-reader-test.true c.reader-item.is there) c.loop-reader.invariant c.in_ok-take_in.ensures

pub enqueue-requires : goal.enqueue-requires
enqueue-requires c =
    let circuit = c.args.circuit.now in
    let first = c.args.self.now in
    let gate = c.args.gate in
    let t = table_of c.in-Some.table in
    let start = with_slot first c.gate.inside.0 c.replace.new.dest in
    let inside = slot-within first.slots.items gate c.requires.next.goes.table c.requires.next.goes.at in
    let at : slot_in first.slots.items gate ≡ Some t =
    slot_read first.slots.items gate c.gate.inside.0 c.index_mut.result.now c.in-Some.table c.gate.view_is inside c.index_mut.ensures.value (sym c.replace.ensures.value ∙ c.in-Some.is) in
    let without = without_made gate c.gate.inside.0 first c.replace.new.dest t at c.gate.view_is c.replace.ensures.after in
    let seen = take c.loop-reader.reader-index c.deref-reader-items.result.now in
    all-contained (λ (x : Node). x.signal < length circuit.drives) c.in-Some.table.leaves.items
    (turn_within circuit c.args.k c.args.d c.signals-sound.ensures.sound first start c.loop-reader.self gate t seen c.requires.state c.requires.next at without c.loop-reader.invariant)

pub returns : goal.returns
returns c =
    let circuit = c.args.circuit.now in
    let first = c.args.self.now in
    let gate = c.args.gate in
    let t = table_of c.in-Some.table in
    let start = with_slot first c.gate.inside.0 c.replace.new.dest in
    let inside = slot-within first.slots.items gate c.requires.next.goes.table c.requires.next.goes.at in
    let at : slot_in first.slots.items gate ≡ Some t =
    slot_read first.slots.items gate c.gate.inside.0 c.index_mut.result.now c.in-Some.table c.gate.view_is inside c.index_mut.ensures.value (sym c.replace.ensures.value ∙ c.in-Some.is) in
    let without = without_made gate c.gate.inside.0 first c.replace.new.dest t at c.gate.view_is c.replace.ensures.after in
    let seen = take c.loop-reader.reader-index c.deref-reader-items.result.now in
    let items : Vec ℕ Global → List ℕ = λ v. v.items in
    let low : c.gate.inside.0 < length first.readers.items =
    omega (arith, inside, c.gate.view_is, c.requires.state.under_way.sized, c.requires.state.under_way.rows_sized, length-map first.readers.items items) in
    let list = c.deref-reader-items.result.now in
    let row : row_in (rows_of first) gate ≡ list =
    row_read first.readers.items gate c.gate.inside.0 c.index.result.now list c.gate.view_is low c.index.ensures
    (c.deref-reader-items.ensures.value ∙ c.in_ok-readers.ensures.items ∙ c.deref.ensures.value) in
    let all : seen ≡ row_in (rows_of first) gate = take_all c.loop-reader.reader-index list c.loop-reader-test.false ∙ sym row in
    let taken = subst (λ (gates : List ℕ). IsTakingIn circuit.drives c.args.k t gates start c.loop-reader.self) all c.loop-reader.invariant in
    let last : UnderWay = record c.loop-reader.self { queue = c.enqueue.new.queue } in
    absorbed_last circuit c.args.k c.args.d c.signals-sound.ensures.sound first start c.loop-reader.self last gate t c.requires.state c.requires.next at without taken
    (record { slots = refl; readers = refl; outputs = refl; refusers = refl; keeps = c.in_ok-enqueue.ensures.keeps; queued = c.in_ok-enqueue.ensures.queued })
