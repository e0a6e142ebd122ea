-- The order in which gates that wait are looked for: which gates have a place in it.
use Rattle.std.specs.Prelude.{◌≡◌, ◌==◌, ℕ, List, [], map, Contains, if◌then◌else◌}
use Rattle.std.specs.BinaryHeap.{heap_items}
use Rattle.tm_labels.specs.Ways.{no_gate, step_in}
use Rattle.tm_labels.specs.declared.order.Order.{Order}

-- The gates that have a place.
abbrev pub places_in : Order → List ℕ
places_in order = map (λ entry. entry.gate) (heap_items order.entries)

-- No gate has a place or comes before all others.
pub record IsNewOrder (lags steps : List ℕ) (order : Order) : Type 0 where
  pub places : places_in order ≡ []
  pub foreseen : order.foreseen.items ≡ lags
  pub towards : order.towards.items ≡ steps
  pub ahead : order.ahead ≡ no_gate

-- All but the places stays.
pub record KeepsWays (old new : Order) : Type 0 where
  pub foreseen : new.foreseen.items ≡ old.foreseen.items
  pub towards : new.towards.items ≡ old.towards.items
  pub ahead : new.ahead ≡ old.ahead

-- Places are added, and all else stays.
pub record AddsPlaces (old new : Order) : Type 0 where
  pub stays : (g : ℕ) → Contains (places_in old) g → Contains (places_in new) g
  pub ways : KeepsWays old new

-- The gate to which a gate leads comes before all others, or none where it leads to itself.
pub record PutsAhead (g : ℕ) (old new : Order) : Type 0 where
  pub places : places_in new ≡ places_in old
  pub ahead : new.ahead ≡ (if step_in old.towards.items g == g then no_gate else step_in old.towards.items g)
