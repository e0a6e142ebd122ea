-- The slot of the reader is renewed.
use Rattle.std.proofs.Common.{◌≡◌, ◌<◌, ℕ, Bool, true, false, List, Option, None, Some, Global, length, map, set, refl, sym, ◌∙◌, ap, subst, arith}
use Rattle.std.specs.Prelude.{Contains, Vec, MatchOption}
use Rattle.std.specs.Vec.{with_item, with_items}
use Rattle.std.proofs.lemmas.List.{with_items_is}
use Rattle.std.proofs.lemmas.List.Elements.{All-contains}
use Rattle.std.proofs.lemmas.Option.{MatchOption-at_some}
use Rattle.tm_unroll.specs.declared.node.Node.{Node}
use Rattle.tm_unroll.specs.declared.node.Lut.{Lut}
use Rattle.tm_unroll.specs.Mappings.{table_of}
use Rattle.tm_absorb.specs.declared.under_way.UnderWay.{UnderWay}
use Rattle.tm_absorb.specs.Absorbing.{Reads, TakesIn}
use Rattle.tm_absorb.specs.Slots.{slot_in, IsReader}
use Rattle.tm_absorb.proofs.SlotLemmas.{all-contained}
use Rattle.tm_absorb.proofs.ReaderLemmas.{lists_of, adds_through}
use Rattle.tm_absorb.proofs.RenewLemmas.{takes_within, renewed_turn}
use Rattle.tm_absorb.proofs.under_way.UnderWay.take_in.Goals as goal

pub enqueue-requires : goal.enqueue-requires
enqueue-requires c =
    let t = table_of c.args.table.now in
    let was = table_of c.in-Some.other.now in
    let slots = c.args.self.now.slots.items in
    let at : slot_in slots c.args.reader ≡ Some was = subst (λ (s : List (Option Lut)). slot_in s c.args.reader ≡ Some was) c.deref.ensures.value c.in-Some.ensures in
    let P : Type 0 = Reads was t → ⊥ in
    let Q : Lut → Type 0 = λ lut. TakesIn c.args.k t was (table_of lut) in
    let fact : MatchOption c.in_ok-new.field-0 P Q = c.in_ok-new.ensures in
    let takes : TakesIn c.args.k t was (table_of c.in-Some-2.new) = MatchOption-at_some P Q c.in-Some-2.new c.in-Some-2.is fact in
    let n = length c.args.circuit.now.drives in
    all-contained (λ (x : Node). x.signal < n) c.in-Some-2.new.leaves.items
    (takes_within c.args.k n t was (table_of c.in-Some-2.new) (λ x leaf. c.requires.leaves c.args.reader was x at leaf)
    (λ x leaf. All-contains (λ (y : Node). y.signal < n) c.args.table.now.leaves.items x c.requires.within leaf) takes)

pub returns : goal.returns
returns c =
    let t = table_of c.args.table.now in
    let was = table_of c.in-Some.other.now in
    let slots = c.args.self.now.slots.items in
    let at : slot_in slots c.args.reader ≡ Some was = subst (λ (s : List (Option Lut)). slot_in s c.args.reader ≡ Some was) c.deref.ensures.value c.in-Some.ensures in
    let P : Type 0 = Reads was t → ⊥ in
    let Q : Lut → Type 0 = λ lut. TakesIn c.args.k t was (table_of lut) in
    let fact : MatchOption c.in_ok-new.field-0 P Q = c.in_ok-new.ensures in
    let takes : TakesIn c.args.k t was (table_of c.in-Some-2.new) = MatchOption-at_some P Q c.in-Some-2.new c.in-Some-2.is fact in
    let old = c.args.self.now in
    let rows = c.add_reader.new.readers in
    let new : UnderWay = record {
      slots = with_item old.slots c.reader.inside.0 (Some c.in-Some-2.new);
      readers = with_items old.readers rows;
      outputs = old.outputs;
      refusers = old.refusers;
      queue = c.enqueue.new.queue;
    } in
    let is : (with_items old.readers rows).items ≡ rows = with_items_is old.readers rows (omega (arith, c.add_reader.auto.readers, c.deref_mut.ensures.len)) in
    let drives = c.args.circuit.now.drives in
    let reads : IsReader drives c.args.reader t.leaves (lists_of rows) =
    subst (λ (leaves : List Node). IsReader drives c.args.reader leaves (lists_of rows)) c.as_slice.ensures c.in_ok-add_reader.ensures.reads in
    renewed_turn drives c.args.k t c.args.reader old new was c.in-Some-2.new at takes (ap (λ i. set slots i (Some c.in-Some-2.new)) c.reader.view_is)
    (adds_through c.deref_mut.result.now old.readers.items rows (with_items old.readers rows).items c.deref_mut.ensures.value is c.in_ok-add_reader.ensures.adds)
    (subst (λ (vs : List (Vec ℕ Global)). IsReader drives c.args.reader t.leaves (lists_of vs)) (sym is) reads)
    c.in_ok-enqueue.ensures.keeps c.in_ok-enqueue.ensures.queued refl refl
