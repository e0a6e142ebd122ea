-- Each walk can be spelled.
use Rattle.std.proofs.Common.{Vec, ℕ, Global}
use Rattle.cert_text.specs.Certificates.{HasSpellingWalk}
use Rattle.cert_text.proofs.Lists.{seen_at}
use Rattle.cert_text.proofs.writing.push_walks.Goals as goal

pub push_walk-requires : goal.push_walk-requires
push_walk-requires c =
    let spelled = seen_at HasSpellingWalk (λ (v : Vec ℕ Global). v.items) c.args.walks.now c.loop-walk.walk-index c.walk-item.result c.requires c.loop-walk-test.true c.walk-item.is in
    rw c.deref.ensures.value spelled.indices
