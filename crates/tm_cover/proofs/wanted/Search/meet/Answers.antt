-- A gate that was met before changes nothing, and any other is marked and left.
use Rattle.std.proofs.Common.{refl}
use Rattle.tm_cover.proofs.SearchLemmas.{meets_new_at, meets_again_at}
use Rattle.tm_cover.proofs.wanted.Search.meet.Goals as goal

pub returns-then-index : goal.returns-then-index
returns-then-index c =
    meets_again_at c.args.gate c.gate.inside.0 c.index.result.now c.args.self.now c.gate.view_is c.requires c.index.ensures c.if-index.true

pub returns : goal.returns
returns c =
    meets_new_at c.args.gate c.gate.inside.0 c.index.result.now c.args.self.now _ c.gate.view_is c.requires c.index.ensures c.if-index.false refl
    c.in_ok-push.ensures.items
