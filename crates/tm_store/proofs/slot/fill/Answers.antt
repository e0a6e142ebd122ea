use Rattle.std.proofs.Common.{ap, refl}
use Rattle.std.proofs.Math.Seq.{map-set_same}
use Rattle.std.proofs.lemmas.List.Folds.{find_past}
use Rattle.std.specs.Option.{option_and_then}
use Rattle.std.specs.Prelude.{string_bytes}
use Rattle.tm_store.specs.Slot.{is_named, content_of}
use Rattle.tm_store.specs.declared.slot.Slot.{Slot}
use Rattle.tm_store.proofs.Slots.{passes_at, find_written, found-Some, found-None, is_no_other}
use Rattle.tm_store.proofs.slot.fill.Goals as goal

pub returns-in-Some-clause-found : goal.returns-in-Some-clause-found
returns-in-Some-clause-found c =
    found-Some (is_named c.args.name.now) c.args.slots.now c.in-Some.place c.index-slots-place.result c.in-Some.ensures

pub returns-in-Some-clause-written : goal.returns-in-Some-clause-written
returns-in-Some-clause-written c =
    let passes = passes_at (is_named c.args.name.now) c.args.slots.now c.in-Some.place c.index-slots-place.result c.in-Some.ensures in
    ap (option_and_then content_of) (find_written (is_named c.args.name.now) c.args.slots.now c.in-Some.place _ c.in-Some.ensures passes)

pub returns-in-Some-clause-others : goal.returns-in-Some-clause-others
returns-in-Some-clause-others c n differs =
    let passes = passes_at (is_named c.args.name.now) c.args.slots.now c.in-Some.place c.index-slots-place.result c.in-Some.ensures in
    let past = is_no_other _ c.args.name.now n passes differs in
    ap (option_and_then content_of) (find_past (is_named n) c.args.slots.now c.in-Some.place _ c.index-slots-place.result past past)

pub returns-in-Some-clause-names : goal.returns-in-Some-clause-names
returns-in-Some-clause-names c =
    map-set_same (λ (slot : Slot). string_bytes slot.name) c.args.slots.now c.in-Some.place _ c.index-slots-place.result refl

pub returns-in-None-clause-found : goal.returns-in-None-clause-found
returns-in-None-clause-found c = found-None (is_named c.args.name.now) c.args.slots.now c.in-None.ensures
