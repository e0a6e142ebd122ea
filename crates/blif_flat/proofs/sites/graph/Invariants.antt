-- the numbers so far
use Rattle.std.proofs.Common.{◌≡◌, map, take}
use Rattle.blif_flat.proofs.sites.graph.Given as goal

abbrev pub invariant-loop-placed : goal.invariant-loop-placed
invariant-loop-placed l = map (λ placed. placed.items) l.graph.items ≡ map (λ placed. map (λ site. site.model) placed.items) (take l.placed-index l.sites)
