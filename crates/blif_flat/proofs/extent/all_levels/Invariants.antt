-- the models so far have their depths
use Rattle.std.proofs.Common.{◌≡◌, ℕ, map, take, length}
use Rattle.std.specs.Prelude.{slice_index, Contains}
use Rattle.blif_flat.specs.Extent.{IsDepth}
use Rattle.blif_flat.proofs.extent.all_levels.Given as goal

abbrev pub invariant-loop-model : goal.invariant-loop-model
invariant-loop-model l =
    (length l.all.items ≡ length l.graph)
    × ((m : ℕ) → Contains (take l.model-index l.order) m → IsDepth (map (λ placed. placed.items) l.graph) m (slice_index l.all.items m))
