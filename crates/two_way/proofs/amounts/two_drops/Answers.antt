-- Another drop is one of the list.
use Rattle.std.proofs.Common.{length, sym, ◌∙◌}
use Rattle.std.proofs.lemmas.Iterator.Adapters.{YieldsList-from_vec}
use Rattle.std.proofs.lemmas.Iterator.Consumers.{YieldsList-turn}
use Rattle.two_way.proofs.amounts.two_drops.Goals as goal

pub amount-requires-clause-low : goal.amount-requires-clause-low
amount-requires-clause-low c =
    let turn = YieldsList-turn (YieldsList-from_vec {s = c.into_iter-drop-iterator.result} c.args.drops.items c.into_iter-drop-iterator.ensures.into_iter_gives.0
    (c.into_iter-drop-iterator.ensures.into_iter_gives.1 ∙ c.args.drops.ok.0)) c.loop-drop.yielded c.loop-drop.drop-iterator c.loop-drop.yielded_by
    c.next.result c.next.new.self c.in-Some.drop c.in-Some.is c.next.ensures.steps in
    c.requires.low c.in-Some.drop (length c.loop-drop.yielded, turn.0, sym turn.1)
