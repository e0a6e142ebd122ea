-- By the output, by a reader that refuses, or by all readers.
use Rattle.std.proofs.Common.{◌≡◌, ◌<◌, ℕ, Bool, true, false, List, Option, None, Some, Global, length, map, refl, sym, ◌∙◌, ap, subst, arith}
use Rattle.std.specs.Prelude.{Contains, Vec, slice_index, MatchOption}
use Rattle.std.proofs.lemmas.Bool.{false≢true}
use Rattle.std.proofs.lemmas.List.{length-map}
use Rattle.std.proofs.lemmas.Option.{MatchOption-at_some, MatchOption-at_none}
use Rattle.tm_unroll.specs.declared.node.Lut.{Lut}
use Rattle.tm_unroll.specs.Mappings.{table_of}
use Rattle.tm_absorb.specs.Slots.{slot_in, row_in, rows_of, IsAdmittedAt, IsRefusedAt}
use Rattle.tm_absorb.proofs.SlotLemmas.{slot-within}
use Rattle.tm_absorb.proofs.ReaderLemmas.{mark_read, row_read}
use Rattle.tm_absorb.proofs.GoingLemmas.{leaves_within, output_stays, refused_stays, goes_where_admitted}
use Rattle.tm_absorb.proofs.under_way.UnderWay.can_go.Goals as goal

pub returns-then-index-clause-goes : goal.returns-then-index-clause-goes
returns-then-index-clause-goes c =
    let circuit = c.args.circuit.now in
    let w = c.args.self.now in
    let slots = w.slots.items in
    let t = table_of c.in-Some.table.now in
    let at : slot_in slots c.args.gate ≡ Some t = subst (λ (s : List (Option Lut)). slot_in s c.args.gate ≡ Some t) c.deref.ensures.value c.in-Some.ensures in
    let inside : c.args.gate < length w.outputs.items = (let low = slot-within slots c.args.gate t at in omega (arith, low, c.requires.outputs_sized, c.requires.under_way.sized)) in
    output_stays circuit c.args.k c.args.d slots (rows_of w) c.requires.under_way c.args.gate t at
    ((c.requires.outputs.each c.args.gate).0 (mark_read w.outputs.items c.args.gate c.gate.inside.0 c.index.result.now true c.gate.view_is inside c.index.ensures c.if-index.true))

pub refuser_from-requires : goal.refuser_from-requires
refuser_from-requires c = record {
  within = λ g t x at leaf. leaves_within c.args.circuit.now c.args.k c.args.d (length c.args.circuit.now.drives) c.args.self.now.slots.items (rows_of c.args.self.now) c.requires.under_way refl g t x
      (subst (λ (s : List (Option Lut)). slot_in s g ≡ Some t) c.deref-2.ensures.value at) leaf;
}

pub returns-in-Some-2-clause-goes : goal.returns-in-Some-2-clause-goes
returns-in-Some-2-clause-goes c =
    let circuit = c.args.circuit.now in
    let w = c.args.self.now in
    let slots = w.slots.items in
    let t = table_of c.in-Some.table.now in
    let at : slot_in slots c.args.gate ≡ Some t = subst (λ (s : List (Option Lut)). slot_in s c.args.gate ≡ Some t) c.deref.ensures.value c.in-Some.ensures in
    let P : Type 0 = (g : ℕ) → Contains c.deref-3.result.now g → IsAdmittedAt circuit.drives c.args.k c.deref-2.result.now t g in
    let Q : ℕ → Type 0 = λ place. IsRefusedAt circuit.drives c.args.k c.deref-2.result.now t (slice_index c.deref-3.result.now place) in
    let fact : MatchOption c.in_ok-refuser.field-0 P Q = c.in_ok-refuser.ensures in
    let h = slice_index c.deref-3.result.now c.in-Some-2.refuser in
    let refused : IsRefusedAt circuit.drives c.args.k c.deref-2.result.now t h = MatchOption-at_some P Q c.in-Some-2.refuser c.in-Some-2.is fact in
    refused_stays circuit c.args.k c.args.d slots (rows_of w) c.requires.under_way c.args.gate t at h
    (subst (λ (s : List (Option Lut)). IsRefusedAt circuit.drives c.args.k s t h) c.deref-2.ensures.value refused)

pub returns-in-None-clause-goes : goal.returns-in-None-clause-goes
returns-in-None-clause-goes c =
    let circuit = c.args.circuit.now in
    let w = c.args.self.now in
    let slots = w.slots.items in
    let t = table_of c.in-Some.table.now in
    let at : slot_in slots c.args.gate ≡ Some t = subst (λ (s : List (Option Lut)). slot_in s c.args.gate ≡ Some t) c.deref.ensures.value c.in-Some.ensures in
    let inside : c.args.gate < length w.outputs.items = (let low = slot-within slots c.args.gate t at in omega (arith, low, c.requires.outputs_sized, c.requires.under_way.sized)) in
    let P : Type 0 = (g : ℕ) → Contains c.deref-3.result.now g → IsAdmittedAt circuit.drives c.args.k c.deref-2.result.now t g in
    let Q : ℕ → Type 0 = λ place. IsRefusedAt circuit.drives c.args.k c.deref-2.result.now t (slice_index c.deref-3.result.now place) in
    let fact : MatchOption c.in_ok-refuser.field-0 P Q = c.in_ok-refuser.ensures in
    let admitted : P = MatchOption-at_none P Q c.in-None.is fact in
    let items : Vec ℕ Global → List ℕ = λ v. v.items in
    let low : c.gate.inside.0 < length w.readers.items =
    (let below = slot-within slots c.args.gate t at in omega (arith, below, c.gate.view_is, c.requires.under_way.sized, c.requires.under_way.rows_sized, length-map w.readers.items items)) in
    let row : row_in (rows_of w) c.args.gate ≡ c.deref-3.result.now =
    row_read w.readers.items c.args.gate c.gate.inside.0 c.index-2.result.now c.deref-3.result.now c.gate.view_is low c.index-2.ensures c.deref-3.ensures.value in
    goes_where_admitted circuit c.args.k c.args.d slots (rows_of w) c.requires.under_way c.args.gate t at
    (λ output. false≢true (sym (mark_read w.outputs.items c.args.gate c.gate.inside.0 c.index.result.now false c.gate.view_is inside c.index.ensures c.if-index.false)
    ∙ (c.requires.outputs.each c.args.gate).1 output))
    (λ h reader. subst (λ (s : List (Option Lut)). IsAdmittedAt circuit.drives c.args.k s t h) c.deref-2.ensures.value
    (admitted h (subst (λ (list : List ℕ). Contains list h) row reader)))
