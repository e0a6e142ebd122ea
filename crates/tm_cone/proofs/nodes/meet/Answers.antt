-- what the set inserts is met
use Rattle.tm_unroll.specs.Nodes.{node_at}
use Rattle.tm_unroll.proofs.SearchLemmas.{node_eq, node_decides}
use Rattle.tm_cone.proofs.MeetLemmas.{meets_insert}
use Rattle.tm_cone.proofs.nodes.meet.Goals as goal

pub returns : goal.returns
returns c =
    let x = node_at c.args.advance c.args.signal in
    meets_insert c.args.met.now.keys c.insert.new.self.keys x (λ y. node_eq x y) (λ y. node_decides x y) c.in_ok-insert.ensures.keys
