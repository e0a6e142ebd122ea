-- The tables of a mapping that is under way, each in the slot of its gate, and who looks at whom.
use Rattle.std.specs.Prelude.{◌≡◌, ◌≢◌, ◌⊎◌, ◌↔◌, ℕ, ◌<◌, ◌≤◌, Bool, true, false, List, [], ◌∷◌, length, map, Contains, All, Option, None, Some, slice_index_or, MatchBool, MatchOption}
use Rattle.std.specs.Option.{option_map}
use Rattle.tm_circuit.specs.Plain.{Plain, Drive}
use Rattle.tm_circuit.specs.Chain.{IsGate}
use Rattle.tm_circuit.specs.Source.{IsSource}
use Rattle.tm_circuit.specs.declared.sources.Source.TheVariants.{Gate}
use Rattle.tm_unroll.specs.declared.node.Node.{Node}
use Rattle.tm_unroll.specs.declared.node.Lut.{Lut}
use Rattle.tm_unroll.specs.Mappings.{Table, table_of, IsLawful}
use Rattle.tm_absorb.specs.declared.under_way.UnderWay.{UnderWay}
use Rattle.tm_absorb.specs.Absorbing.{Reads, TakesIn, Absorbs}
use Rattle.tm_absorb.specs.Admitting.{HasRoom, Admits, CanGo, IsOutputGate, IsQueued}

-- The table in the slot of a signal, where there is one.
abbrev pub slot_in : List (Option Lut) → ℕ → Option Table
slot_in slots g = option_map table_of (slice_index_or slots g None)

-- The tables in slots, in order.
abbrev pub present : List (Option Lut) → List Table
present [] = []
present (None ∷ slots) = present slots
present (Some lut ∷ slots) = table_of lut ∷ present slots

-- Each table stands in the slot of its gate.
abbrev pub AreOwn : List (Option Lut) → Type 0
AreOwn slots = (g : ℕ) (t : Table) → slot_in slots g ≡ Some t → t.gate ≡ g

-- The leaves of all tables are signals below a number.
abbrev pub AreWithin : ℕ → List (Option Lut) → Type 0
AreWithin signals slots = (g : ℕ) (t : Table) (x : Node) → slot_in slots g ≡ Some t → Contains t.leaves x → x.signal < signals

-- What stands in a list of lists at a number.
abbrev pub row_in : List (List ℕ) → ℕ → List ℕ
row_in rows g = slice_index_or rows g []

-- The readers of each gate: those whose tables have a leaf with the gate as its source are among them.
abbrev pub AreReaders : List Drive → List (Option Lut) → List (List ℕ) → Type 0
AreReaders drives slots readers = (g h : ℕ) (t : Table) (x : Node) → slot_in slots g ≡ Some t → Contains t.leaves x
    → IsSource drives x.signal (Gate h) → Contains (row_in readers h) g

-- The readers of a mapping under way, as plain lists.
abbrev pub rows_of : UnderWay → List (List ℕ)
rows_of w = map (λ list. list.items) w.readers.items

-- Readers are added: none goes.
pub record AddsReaders (old new : List (List ℕ)) : Type 0 where
  pub sized : length new ≡ length old
  pub stays : (g h : ℕ) → Contains (row_in old h) g → Contains (row_in new h) g

-- A gate is a reader of each gate that is the source of one of these leaves.
abbrev pub IsReader : List Drive → ℕ → List Node → List (List ℕ) → Type 0
IsReader drives g leaves readers =
    (h : ℕ) (x : Node) → Contains leaves x → IsSource drives x.signal (Gate h) → Contains (row_in readers h) g

-- The gates that are the sources of some leaves.
pub record HasSources (drives : List Drive) (leaves : List Node) (gates : List ℕ) : Type 0 where
  pub all : (g : ℕ) (x : Node) → Contains leaves x → IsSource drives x.signal (Gate g) → Contains gates g
  pub only : (g : ℕ) → Contains gates g → IsGate drives g

-- Marks of the gates that are the source of an output.
pub record AreOutputMarks (c : Plain) (marks : List Bool) : Type 0 where
  pub each : (g : ℕ) → (slice_index_or marks g false ≡ true) ↔ IsOutputGate c g

-- What is kept of a mapping under way.
pub record IsUnderWay (c : Plain) (k d : ℕ) (slots : List (Option Lut)) (rows : List (List ℕ)) : Type 0 where
  pub sized : length slots ≡ length c.drives
  pub own : AreOwn slots
  pub lawful : IsLawful c k d (present slots)
  pub rows_sized : length rows ≡ length c.drives
  pub readers : AreReaders c.drives slots rows

-- The table in the slot of a gate can go.
pub record CanGoAt (c : Plain) (k : ℕ) (slots : List (Option Lut)) (g : ℕ) : Type 0 where
  pub table : Table
  pub at : slot_in slots g ≡ Some table
  pub goes : CanGo c k (present slots) table

-- Each table that can go stands in the queue by its gate.
abbrev pub AreAwaited : Plain → ℕ → List (Option Lut) → List ℕ → Type 0
AreAwaited c k slots queue = (t : Table) → CanGo c k (present slots) t → Contains queue t.gate

-- The answer for the next table that can go: none where there is none, and otherwise the gate of the first one. Each other that can go
-- stands in the queue.
pub record IsNextAt (c : Plain) (k : ℕ) (slots : List (Option Lut)) (queue : List ℕ) (g : ℕ) : Type 0 where
  pub goes : CanGoAt c k slots g
  pub first : (t : Table) → CanGo c k (present slots) t → g ≤ t.gate
  pub awaited : (t : Table) → CanGo c k (present slots) t → (t.gate ≡ g) ⊎ Contains queue t.gate

abbrev pub IsNext : Plain → ℕ → List (Option Lut) → List ℕ → Option ℕ → Type 0
IsNext c k slots queue answer = MatchOption answer ((t : Table) → ¬ CanGo c k (present slots) t) (IsNextAt c k slots queue)

-- The table in a slot, where there is one, admits a table.
abbrev pub IsAdmittedAt : List Drive → ℕ → List (Option Lut) → Table → ℕ → Type 0
IsAdmittedAt drives k slots t g = (u : Table) → slot_in slots g ≡ Some u → Admits drives k t u

-- A table in a slot does not admit a table.
abbrev pub IsRefusedAt : List Drive → ℕ → List (Option Lut) → Table → ℕ → Type 0
IsRefusedAt drives k slots t g = (u : Table) × (slot_in slots g ≡ Some u) × (Admits drives k t u → ⊥)

-- The table in a slot does not read a table.
abbrev pub DoesNotReadAt : List (Option Lut) → Table → ℕ → Type 0
DoesNotReadAt slots t g = (u : Table) → slot_in slots g ≡ Some u → ¬ Reads u t

-- The table in a slot, where there is one, has room for a table.
abbrev pub HasRoomAt : ℕ → List (Option Lut) → Table → ℕ → Type 0
HasRoomAt k slots t g = (u : Table) → slot_in slots g ≡ Some u → HasRoom k t u

-- The table in a slot took another one in, and is queued; its gate is a reader of the sources of what it took in.
pub record IsRenewedAt (drives : List Drive) (k : ℕ) (readers : List (List ℕ)) (queue : List ℕ) (t : Table) (g : ℕ)
    (old new : List (Option Lut)) : Type 0 where
  pub was : Table
  pub now : Table
  pub from : slot_in old g ≡ Some was
  pub to : slot_in new g ≡ Some now
  pub takes : TakesIn k t was now
  pub queued : IsQueued drives queue now
  pub reads : IsReader drives g t.leaves readers

-- A queue loses nothing.
abbrev pub KeepsQueue : List ℕ → List ℕ → Type 0
KeepsQueue old new = (g : ℕ) → Contains old g → Contains new g

-- A slot had its turn: its table did not read another one, or took it in. All other slots stay.
pub record HadTurn (drives : List Drive) (k : ℕ) (t : Table) (g : ℕ) (old new : UnderWay) : Type 0 where
  pub sized : length new.slots.items ≡ length old.slots.items
  pub others : (h : ℕ) → h ≢ g → slot_in new.slots.items h ≡ slot_in old.slots.items h
  pub here : (DoesNotReadAt old.slots.items t g × (slot_in new.slots.items g ≡ slot_in old.slots.items g))
      ⊎ IsRenewedAt drives k (rows_of new) new.queue.keys t g old.slots.items new.slots.items
  pub readers : AddsReaders (rows_of old) (rows_of new)
  pub queue : KeepsQueue old.queue.keys new.queue.keys
  pub outputs : new.outputs ≡ old.outputs
  pub refusers : new.refusers ≡ old.refusers

-- The state of a mapping under way.
pub record IsState (c : Plain) (k d : ℕ) (w : UnderWay) : Type 0 where
  pub under_way : IsUnderWay c k d w.slots.items (rows_of w)
  pub outputs : AreOutputMarks c w.outputs.items
  pub outputs_sized : length w.outputs.items ≡ length c.drives
  pub refusers_sized : length w.refusers.items ≡ length c.drives

-- Nothing changes but for what is remembered of refusals, and the queue.
pub record KeepsTables (old new : UnderWay) : Type 0 where
  pub slots : new.slots ≡ old.slots
  pub readers : new.readers ≡ old.readers
  pub outputs : new.outputs ≡ old.outputs
  pub refusers : length new.refusers.items ≡ length old.refusers.items

-- A table was absorbed.
pub record HasAbsorbed (c : Plain) (k d : ℕ) (g : ℕ) (old new : UnderWay) : Type 0 where
  pub state : IsState c k d new
  pub awaited : AreAwaited c k new.slots.items new.queue.keys
  pub absorbs : (t : Table) → slot_in old.slots.items g ≡ Some t → Absorbs k t (present old.slots.items) (present new.slots.items)
