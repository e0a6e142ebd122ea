use Rattle.std.proofs.Common.{◌≤◌, ◌≡◌, length, arith}
use Rattle.tm_split.specs.Making.{piece_by}
use Rattle.tm_split.proofs.Rounds.{one_pair}
use Rattle.tm_split.proofs.pieces.round.Goals as goal

pub loop-rest-preserved : goal.loop-rest-preserved
loop-rest-preserved c =
    let long : 2 ≤ length c.loop-rest.rest.now = omega arith in
    let count : c.len.result ≡ length c.loop-rest.pieces.items = omega arith in
    one_pair (piece_by c.args.join) c.args.pieces.now.items c.args.literals.now c.loop-rest.pieces.items c.push-in-len2-up.new.self.items c.loop-rest.left.items c.push.new.self.items c.loop-rest.rest.now c.first-item.result c.second-item.result c.of.result c.len.result c.loop-rest.invariant long c.first-item.is c.second-item.is count c.in_ok-push.ensures.items c.of.ensures c.in_ok-push-2.ensures.items
