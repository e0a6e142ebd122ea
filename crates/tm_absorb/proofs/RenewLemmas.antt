-- The slots of a table that goes, and of a reader that takes it in.
use Rattle.std.proofs.Common.{◌≡◌, ◌≢◌, ◌⊎◌, ℕ, ◌<◌, List, Option, None, Some, length, set, get_or, refl, sym, ◌∙◌, ap, inl, inr, arith}
use Rattle.std.specs.Option.{option_map}
use Rattle.std.specs.Vec.{with_item}
use Rattle.std.specs.Prelude.{Contains}
use Rattle.std.proofs.lemmas.List.{length-set, get_or_read}
use Rattle.tm_circuit.specs.Plain.{Drive}
use Rattle.tm_unroll.specs.declared.node.Node.{Node}
use Rattle.tm_unroll.specs.declared.node.Lut.{Lut}
use Rattle.tm_unroll.specs.Mappings.{Table, table_of}
use Rattle.tm_absorb.specs.declared.under_way.UnderWay.{UnderWay}
use Rattle.tm_absorb.specs.Absorbing.{TakesIn}
use Rattle.tm_absorb.specs.Admitting.{IsQueued}
use Rattle.tm_absorb.specs.Slots.{slot_in, rows_of, AddsReaders, IsReader, IsRenewedAt, KeepsQueue, HadTurn}
use Rattle.tm_absorb.proofs.SlotLemmas.{slot-within, slot-set_same, slot-set_other}
use Rattle.tm_absorb.proofs.AbsorbLemmas.{IsWithout}

-- The leaves of what took a table in are signals.
pub takes_within : (k n : ℕ) (t was now : Table) → ((x : Node) → Contains was.leaves x → x.signal < n) → ((x : Node) → Contains t.leaves x → x.signal < n)
    → TakesIn k t was now → (x : Node) → Contains now.leaves x → x.signal < n
takes_within k n t was now old own takes x leaf = elim ((takes.leaves.replaces.nodes x).0 leaf) [ inl other ↦ old x other.0 | inr inside ↦ own x inside ]

pub renewed_turn : (drives : List Drive) (k : ℕ) (t : Table) (g : ℕ) (old new : UnderWay) (was : Table) (lut : Lut) → slot_in old.slots.items g ≡ Some was
    → TakesIn k t was (table_of lut) → new.slots.items ≡ set old.slots.items g (Some lut) → AddsReaders (rows_of old) (rows_of new) → IsReader drives g t.leaves (rows_of new)
    → KeepsQueue old.queue.keys new.queue.keys → IsQueued drives new.queue.keys (table_of lut) → new.outputs ≡ old.outputs → new.refusers ≡ old.refusers
    → HadTurn drives k t g old new
renewed_turn drives k t g old new was lut from takes slots adds reads keeps queued outputs refusers = record {
  sized = ap length slots ∙ length-set old.slots.items g (Some lut);
  others = λ h apart. ap (λ (s : List (Option Lut)). slot_in s h) slots ∙ slot-set_other old.slots.items g h (Some lut) apart;
  here = inr (record {
    was = was;
    now = table_of lut;
    from = from;
    to = ap (λ (s : List (Option Lut)). slot_in s g) slots ∙ slot-set_same old.slots.items g (Some lut) (slot-within old.slots.items g was from);
    takes = takes;
    queued = queued;
    reads = reads;
  });
  readers = adds;
  queue = keeps;
  outputs = outputs;
  refusers = refusers;
}

-- A slot that was read.
pub slot_read : (slots : List (Option Lut)) (g i : ℕ) (slot : Option Lut) (lut : Lut) → i ≡ g → g < length slots → slot ≡ get_or slots i slot → slot ≡ Some lut
    → slot_in slots g ≡ Some (table_of lut)
slot_read slots g i slot lut same within at value =
    let inside : i < length slots = omega (arith, within, same) in
    ap (option_map table_of) (ap (λ j. get_or slots j None) (sym same) ∙ sym (get_or_read slots i slot inside at None) ∙ value)

-- A mapping under way with another slot.
abbrev pub with_slot : UnderWay → ℕ → Option Lut → UnderWay
with_slot w i slot = record { slots = with_item w.slots i slot; readers = w.readers; outputs = w.outputs; refusers = w.refusers; queue = w.queue }

pub without_made : (g i : ℕ) (w : UnderWay) (slot : Option Lut) (t : Table) → slot_in w.slots.items g ≡ Some t → i ≡ g → slot ≡ None → IsWithout g w (with_slot w i slot)
without_made g i w slot t from same empty =
    let items = w.slots.items in
    let slots : set items i slot ≡ set items g None = ap (λ (o : Option Lut). set items i o) empty ∙ ap (λ j. set items j None) same in
    record {
      sized = length-set items i slot;
      here = ap (λ (s : List (Option Lut)). slot_in s g) slots ∙ slot-set_same items g None (slot-within items g t from);
      others = λ h apart. ap (λ (s : List (Option Lut)). slot_in s h) slots ∙ slot-set_other items g h None apart;
      readers = refl;
      queue = refl;
      outputs = refl;
      refusers = refl;
    }
