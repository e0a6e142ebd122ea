-- the numbers so far
use Rattle.std.proofs.Common.{◌≡◌, map, take}
use Rattle.blif_flat.proofs.sites.numbers.Given as goal

abbrev pub invariant-loop-site : goal.invariant-loop-site
invariant-loop-site l = l.numbers.items ≡ map (λ site. site.model) (take l.site-index l.sites)
