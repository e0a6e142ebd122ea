-- the models so far have their counts
use Rattle.std.proofs.Common.{◌≡◌, ℕ, map, take, length}
use Rattle.std.specs.Prelude.{slice_index, Contains}
use Rattle.blif_flat.specs.Extent.{IsCount}
use Rattle.blif_flat.proofs.extent.all_instances.Given as goal

abbrev pub invariant-loop-model : goal.invariant-loop-model
invariant-loop-model l =
    (length l.all.items ≡ length l.graph)
    × ((m : ℕ) → Contains (take l.model-index l.order) m → IsCount (map (λ placed. placed.items) l.graph) m (slice_index l.all.items m))
