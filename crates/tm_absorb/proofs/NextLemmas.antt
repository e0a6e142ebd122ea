-- The next table to be absorbed, and mappings under way of which only the queue and what is remembered change.
use Rattle.std.proofs.Common.{◌≡◌, ◌≢◌, ℕ, zero, suc, ◌<◌, ◌≤◌, List, ◌∷◌, length, map, Option, None, Some, Bool, Global, refl, sym, ◌∙◌, ap, subst, inl, inr, arith}
use Rattle.std.specs.Prelude.{Contains, All, Vec}
use Rattle.std.specs.declared.cmp.Ordering.{Ordering}
use Rattle.std.specs.declared.cmp.Ordering.TheVariants.{Less, Equal, Greater}
use Rattle.std.specs.Cmp.{nat_cmp_is}
use Rattle.std.specs.Ordering.{nat_cmp}
use Rattle.std.specs.BTreeSet.{BTreeSet}
use Rattle.std.specs.BTreeMap.Range.{IsLtBy}
use Rattle.std.proofs.lemmas.Bool.{cases_order}
use Rattle.std.proofs.lemmas.List.Elements.{All-contains}
use Rattle.tm_circuit.specs.Plain.{Plain}
use Rattle.tm_unroll.specs.declared.node.Lut.{Lut}
use Rattle.tm_unroll.specs.Mappings.{Table}
use Rattle.tm_absorb.specs.declared.under_way.UnderWay.{UnderWay}
use Rattle.tm_absorb.specs.Absorbing.{Absorbs, IsAbsorbable, IsFirstAbsorbable, AbsorbsFirst, IsAbsorbed}
use Rattle.tm_absorb.specs.Admitting.{CanGo}
use Rattle.tm_absorb.specs.Slots.{slot_in, present, rows_of, IsUnderWay, AreOutputMarks, IsState, KeepsTables, AreAwaited, CanGoAt, IsNextAt, HasAbsorbed}
use Rattle.tm_absorb.proofs.GoLemmas.{can_go, is_absorbable}
use Rattle.tm_absorb.proofs.GoingLemmas.{awaits_rest, next_here}
use Rattle.tm_absorb.proofs.TrailLemmas.{absorbs_more, absorbs_fewer}

-- All of some numbers are above one.
pub next_above : (g : ℕ) (keys : List ℕ) → All (IsLtBy nat_cmp g) keys → (h : ℕ) → Contains keys h → g ≤ h
next_above g keys above h there =
    let less : nat_cmp g h ≡ Less = All-contains (IsLtBy nat_cmp g) keys h above there in
    elim (cases_order g h) [
      | inl same ↦ omega arith
      | inr (inl before) ↦ omega arith
      | inr (inr after) ↦ let greater = nat_cmp_is g h Greater after in absurd (let both : Greater ≡ Less = greater ∙ less in cc)
    ]

pub keeps_more : (old between new : UnderWay) → KeepsTables old between → KeepsTables between new → KeepsTables old new
keeps_more old between new first second = record {
  slots = second.slots ∙ first.slots;
  readers = second.readers ∙ first.readers;
  outputs = second.outputs ∙ first.outputs;
  refusers = second.refusers ∙ first.refusers;
}

pub keeps_state : (c : Plain) (k d : ℕ) (old new : UnderWay) → KeepsTables old new → IsState c k d old → IsState c k d new
keeps_state c k d old new keeps state = record {
  under_way = subst (λ (slots : Vec (Option Lut) Global). IsUnderWay c k d slots.items (rows_of new)) (sym keeps.slots)
      (subst (λ (readers : Vec (Vec ℕ Global) Global). IsUnderWay c k d old.slots.items (map (λ (v : Vec ℕ Global). v.items) readers.items)) (sym keeps.readers) state.under_way);
  outputs = subst (λ (marks : Vec Bool Global). AreOutputMarks c marks.items) (sym keeps.outputs) state.outputs;
  outputs_sized = ap (λ (marks : Vec Bool Global). length marks.items) keeps.outputs ∙ state.outputs_sized;
  refusers_sized = keeps.refusers ∙ state.refusers_sized;
}

-- A gate was taken from the queue.
pub keeps_popped : (w : UnderWay) (queue : BTreeSet ℕ) → KeepsTables w (record w { queue = queue })
keeps_popped w queue = record { slots = refl; readers = refl; outputs = refl; refusers = refl }

-- The first gate of the queue was asked, and its table cannot go.
pub asked_stays : (c : Plain) (k d : ℕ) (w asked : UnderWay) (queue : BTreeSet ℕ) (g : ℕ) → IsState c k d w → AreAwaited c k w.slots.items w.queue.keys
    → w.queue.keys ≡ g ∷ queue.keys → KeepsTables (record w { queue = queue }) asked → asked.queue ≡ queue → (CanGoAt c k w.slots.items g → ⊥)
    → AreAwaited c k asked.slots.items asked.queue.keys
asked_stays c k d w asked queue g state awaited split keeps same stays =
    subst (λ (slots : Vec (Option Lut) Global). AreAwaited c k slots.items asked.queue.keys) (sym keeps.slots)
    (subst (λ (q : BTreeSet ℕ). AreAwaited c k w.slots.items q.keys) (sym same) (awaits_rest c k w.slots.items g w.queue.keys queue.keys state.under_way.own split awaited stays))

-- The first gate of the queue was asked, and its table can go.
pub asked_goes : (c : Plain) (k d : ℕ) (w asked : UnderWay) (queue : BTreeSet ℕ) (g : ℕ) → IsState c k d w → AreAwaited c k w.slots.items w.queue.keys
    → w.queue.keys ≡ g ∷ queue.keys → All (IsLtBy nat_cmp g) queue.keys → KeepsTables (record w { queue = queue }) asked → asked.queue ≡ queue → CanGoAt c k w.slots.items g
    → IsNextAt c k asked.slots.items asked.queue.keys g
asked_goes c k d w asked queue g state awaited split above keeps same goes =
    subst (λ (slots : Vec (Option Lut) Global). IsNextAt c k slots.items asked.queue.keys g) (sym keeps.slots)
    (subst (λ (q : BTreeSet ℕ). IsNextAt c k w.slots.items q.keys g) (sym same)
    (next_here c k w.slots.items g w.queue.keys queue.keys state.under_way.own split awaited (next_above g queue.keys above) goes))

-- One table more was absorbed.
pub step_more : (c : Plain) (k d times : ℕ) (given : List Table) (old new : UnderWay) (g : ℕ) → IsState c k d old → IsNextAt c k old.slots.items old.queue.keys g
    → HasAbsorbed c k d g old new → AbsorbsFirst c k times given (present old.slots.items) → AbsorbsFirst c k (suc times) given (present new.slots.items)
step_more c k d times given old new g state next absorbed so_far =
    let t = next.goes.table in
    let named : t.gate ≡ g = state.under_way.own g t next.goes.at in
    let gated = (state.under_way.lawful.each t next.goes.goes.table).gate in
    absorbs_more c k times given (present old.slots.items) (present new.slots.items) t so_far
    (record {
      absorbable = is_absorbable c k (present old.slots.items) t gated next.goes.goes;
      first = λ u is. let low = next.first u (can_go c k (present old.slots.items) u is) in omega (arith, low, named);
    })
    (absorbed.absorbs t next.goes.at)

-- There are fewer tables afterwards.
pub step_fewer : (c : Plain) (k d : ℕ) (old new : UnderWay) (g : ℕ) → IsState c k d old → IsNextAt c k old.slots.items old.queue.keys g
    → HasAbsorbed c k d g old new → length (present new.slots.items) < length (present old.slots.items)
step_fewer c k d old new g state next absorbed =
    absorbs_fewer c k d next.goes.table (present old.slots.items) (present new.slots.items) state.under_way.lawful next.goes.goes.table (absorbed.absorbs next.goes.table next.goes.at)

pub none_left : (c : Plain) (k times : ℕ) (given : List Table) (w : UnderWay) (tables : List Table) → tables ≡ present w.slots.items
    → AbsorbsFirst c k times given (present w.slots.items) → ((t : Table) → ¬ CanGo c k (present w.slots.items) t) → IsAbsorbed c k given tables
none_left c k times given w tables same so_far none =
    subst (λ (ts : List Table). IsAbsorbed c k given ts) (sym same)
    (record { times = times; absorbs = so_far; none = λ t is. none t (can_go c k (present w.slots.items) t is) })
