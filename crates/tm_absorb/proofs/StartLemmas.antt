-- A mapping under way at its start.
use Rattle.std.proofs.Common.{◌≡◌, ℕ, zero, suc, ◌+◌, ◌<◌, ◌≤◌, List, [], ◌∷◌, ◌++◌, length, length-append, map, take, get_or, Option, None, Some, Bool, Global, refl, sym, ◌∙◌, ap, subst, arith}
use Rattle.std.specs.Prelude.{Contains, All, AllPairs, Vec}
use Rattle.std.proofs.lemmas.List.{length-map, map_push, take_more}
use Rattle.tm_circuit.specs.Plain.{Plain, Drive}
use Rattle.tm_circuit.specs.Source.{IsSource}
use Rattle.tm_circuit.specs.declared.sources.Source.TheVariants.{Gate}
use Rattle.tm_circuit.proofs.ListLemmas.{contains-map, contains-unmap}
use Rattle.tm_unroll.specs.declared.node.Node.{Node}
use Rattle.tm_unroll.specs.declared.node.Lut.{Lut}
use Rattle.tm_unroll.specs.Mappings.{Table, table_of, IsLawful}
use Rattle.tm_unroll.proofs.JudgeLemmas.{gate_within}
use Rattle.tm_absorb.specs.declared.under_way.UnderWay.{UnderWay}
use Rattle.tm_absorb.specs.Admitting.{CanGo}
use Rattle.tm_absorb.specs.Slots.{slot_in, present, AreOwn, row_in, rows_of, IsReader, AreReaders, AreOutputMarks, IsUnderWay, IsState, AreAwaited}
use Rattle.tm_absorb.proofs.SlotLemmas.{all-contained, present-has, present-push, own-push}

-- The gates of the tables of a lawful mapping are signals, and so are the signals of the leaves.
pub gates_signal : (c : Plain) (k d n : ℕ) (luts : List Lut) → n ≡ length c.drives → IsLawful c k d (map table_of luts) → All (λ lut. lut.gate < n) luts
gates_signal c k d n luts same lawful = all-contained (λ (lut : Lut). lut.gate < n) luts
    (λ lut stands. let low = gate_within c.drives lut.gate (lawful.each (table_of lut) (contains-map table_of luts lut stands)).gate in omega (arith, low, same))

pub leaves_signal : (c : Plain) (k d : ℕ) (luts : List Lut) → IsLawful c k d (map table_of luts) → All (λ lut. All (λ x. x.signal < length c.drives) lut.leaves.items) luts
leaves_signal c k d luts lawful = all-contained (λ (lut : Lut). All (λ (x : Node). x.signal < length c.drives) lut.leaves.items) luts
    (λ lut stands. all-contained (λ (x : Node). x.signal < length c.drives) lut.leaves.items
    (λ x leaf. ((lawful.each (table_of lut) (contains-map table_of luts lut stands)).leaves.leaves x leaf).signal))

-- A later table has a greater gate.
read-map : (luts : List Lut) (k : ℕ) (e : Lut) → get_or (map table_of luts) k (table_of e) ≡ table_of (get_or luts k e)
read-map [] k e = refl
read-map (lut ∷ luts) zero e = refl
read-map (lut ∷ luts) (suc k) e = read-map luts k e

-- Within a list it does not matter what stands for the outside.
same-read : (luts : List Lut) (k : ℕ) (d e : Lut) → k < length luts → get_or luts k d ≡ get_or luts k e
same-read [] k d e inside = absurd (omega arith)
same-read (lut ∷ luts) zero d e inside = refl
same-read (lut ∷ luts) (suc k) d e inside = same-read luts k d e (omega arith)

pub gates_rise : (luts : List Lut) (i j : ℕ) (e : Lut) → AllPairs (λ t u. t.gate < u.gate) (map table_of luts) → i < j → j < length luts → (get_or luts i e).gate < (get_or luts j e).gate
gates_rise luts i j e ascending before inside =
    let up = ascending i j (table_of e) before (let long = length-map luts table_of in omega (arith, inside, long)) in
    omega (arith, up, ap (λ (t : Table). t.gate) (read-map luts i e), ap (λ (t : Table). t.gate) (read-map luts j e))

-- The tables so far stand in the slots of their gates, and each later one has a greater gate than there are slots.
pub record AreSlotsSoFar (luts : List Lut) (signals i : ℕ) (slots : List (Option Lut)) : Type 0 where
  pub own : AreOwn slots
  pub tables : present slots ≡ map table_of (take i luts)
  pub few : length slots ≤ signals
  pub low : (j : ℕ) (e : Lut) → i ≤ j → j < length luts → length slots ≤ (get_or luts j e).gate

pub slots_none : (luts : List Lut) (signals : ℕ) (slots : List (Option Lut)) → slots ≡ [] → AreSlotsSoFar luts signals 0 slots
slots_none luts signals slots none = record {
  own = subst AreOwn (sym none) (λ g t is. absurd cc);
  tables = ap present none;
  few = omega (arith, ap length none);
  low = λ j e later end. omega (arith, ap length none);
}

pub slots_more : (luts : List Lut) (signals i : ℕ) (lut copy : Lut) (old padded new : List (Option Lut)) → AllPairs (λ t u. t.gate < u.gate) (map table_of luts)
    → All (λ lut. lut.gate < signals) luts → i < length luts → lut ≡ get_or luts i lut → table_of copy ≡ table_of lut → AreSlotsSoFar luts signals i old
    → AreOwn padded → length padded ≡ lut.gate → present padded ≡ present old → new ≡ padded ++ Some copy ∷ [] → AreSlotsSoFar luts signals (i + 1) new
slots_more luts signals i lut copy old padded new ascending within inside at copied before own long same is =
    let gates : copy.gate ≡ lut.gate = ap (λ (t : Table). t.gate) copied in
    let longer : length new ≡ lut.gate + 1 = omega (arith, ap length is, length-append padded (Some copy ∷ []), long) in
    record {
      own = subst AreOwn (sym is) (own-push padded copy (gates ∙ sym long) own);
      tables = ap present is ∙ present-push padded copy ∙ ap (λ (ts : List Table). ts ++ table_of copy ∷ []) (same ∙ before.tables)
          ∙ ap (λ (t : Table). map table_of (take i luts) ++ t ∷ []) copied ∙ sym (map_push table_of (take i luts) lut)
          ∙ ap (map table_of) (sym (take_more luts i lut inside ∙ ap (λ (l : Lut). take i luts ++ l ∷ []) (sym at)));
      few = let low = within i lut inside in let here = ap (λ (l : Lut). l.gate) at in omega (arith, longer, low, here);
      low = λ j e later end.
          let up = gates_rise luts i j lut ascending (omega (arith, later)) end in
          let here = ap (λ (l : Lut). l.gate) at in
          let other : (get_or luts j lut).gate ≡ (get_or luts j e).gate = ap (λ (l : Lut). l.gate) (same-read luts j lut e end) in
          omega (arith, longer, up, here, other);
    }

module _ (c : Plain) (k d : ℕ) (luts : List Lut) (w : UnderWay) (lawful : IsLawful c k d (map table_of luts)) (own : AreOwn w.slots.items)
    (same : present w.slots.items ≡ map table_of luts) where
  -- a table in a slot is one of the mapping
  given : (g : ℕ) (t : Table) → slot_in w.slots.items g ≡ Some t → (lut : Lut) × Contains luts lut × (table_of lut ≡ t)
  given g t at = contains-unmap table_of luts t (subst (λ (ts : List Table). Contains ts t) same (present-has w.slots.items g t at))

  readers_start : ((lut : Lut) → Contains luts lut → IsReader c.drives lut.gate lut.leaves.items (rows_of w)) → AreReaders c.drives w.slots.items (rows_of w)
  readers_start reads g h t x at leaf source =
      let lut = given g t at in
      let named : lut.0.gate ≡ g = ap (λ (u : Table). u.gate) lut.2 ∙ own g t at in
      subst (λ b. Contains (row_in (rows_of w) h) b) named
      (reads lut.0 lut.1 h x (subst (λ (u : Table). Contains u.leaves x) (sym lut.2) leaf) source)

  pub started : length w.slots.items ≡ length c.drives → length w.readers.items ≡ length c.drives
      → ((lut : Lut) → Contains luts lut → IsReader c.drives lut.gate lut.leaves.items (rows_of w)) → length w.outputs.items ≡ length c.drives → AreOutputMarks c w.outputs.items
      → length w.refusers.items ≡ length c.drives → IsState c k d w
  started sized rows reads outputs_sized outputs refusers_sized = record {
    under_way = record {
      sized = sized;
      own = own;
      lawful = subst (λ (ts : List Table). IsLawful c k d ts) (sym same) lawful;
      rows_sized = length-map w.readers.items (λ (v : Vec ℕ Global). v.items) ∙ rows;
      readers = readers_start reads;
    };
    outputs = outputs;
    outputs_sized = outputs_sized;
    refusers_sized = refusers_sized;
  }

  pub all_wait : ((lut : Lut) → Contains luts lut → Contains w.queue.keys lut.gate) → AreAwaited c k w.slots.items w.queue.keys
  all_wait wait t goes =
      let lut = contains-unmap table_of luts t (subst (λ (ts : List Table). Contains ts t) same goes.table) in
      subst (λ (u : Table). Contains w.queue.keys u.gate) lut.2 (wait lut.0 lut.1)
