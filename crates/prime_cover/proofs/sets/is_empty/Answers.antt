use Rattle.std.proofs.Common.{◌≡◌, ◌↔◌, IsTrue, All, rules}
use Rattle.prime_cover.proofs.SetLemmas.{empty_by_all}
use Rattle.prime_cover.proofs.sets.is_empty.Goals as goal

pub returns : goal.returns
returns c =
    let tested : IsTrue c.all.result ↔ All (λ word. word ≡ 0) c.args.set.now = search rules in
    empty_by_all c.all.result c.args.set.now c.told-set c.fits-set tested
