use Rattle.std.proofs.Common.{◌≡◌, ◌+◌, ◌<◌, length, ◌∷◌, [], length-append, ◌∙◌, arith}
use Rattle.std.proofs.lemmas.Iterator.Adapters.{YieldsList-from_vec}
use Rattle.std.proofs.lemmas.Iterator.Consumers.{YieldsList-turn}
use Rattle.tm_shorten.proofs.PartLemmas.{marked-more, marked-less, unmarked-more, unmarked-less}
use Rattle.tm_shorten.proofs.parts.part.Goals as goal

-- another drop is there, and so another mark
pub bounds-marks-len : goal.bounds-marks-len
bounds-marks-len c =
    let turn = YieldsList-turn (YieldsList-from_vec {s = c.into_iter-drop-iterator.result} c.args.drops.items c.into_iter-drop-iterator.ensures.into_iter_gives.0
    (c.into_iter-drop-iterator.ensures.into_iter_gives.1 ∙ c.args.drops.ok.0)) c.loop-drop.yielded c.loop-drop.drop-iterator c.loop-drop.yielded_by
    c.next.result c.next.new.self c.in-Some.drop c.in-Some.is c.next.ensures.steps in
    let small : length c.loop-drop.yielded < length c.args.drops.items = turn.0 in
    omega (arith, c.len.ensures, c.len-in-loop-drop.ensures, c.loop-drop.invariant.2)

pub loop-drop-preserved-in-Continue-1 : goal.loop-drop-preserved-in-Continue-1
loop-drop-preserved-in-Continue-1 c =
    let place : c.len.result + c.len-in-loop-drop.result ≡ length c.loop-drop.yielded = omega (arith, c.len.ensures, c.len-in-loop-drop.ensures, c.loop-drop.invariant.2) in
    let test = rw place at c.if-marks-len.true in
    let more = marked-more c.args.marks.now c.loop-drop.yielded c.in-Some.drop test in
    let less = unmarked-less c.args.marks.now c.loop-drop.yielded c.in-Some.drop test in
    let kept = c.in_ok-push.ensures.items in
    (cc, cc, omega (arith, length-append c.loop-drop.yielded (c.in-Some.drop ∷ []), c.in_ok-push.ensures.len, c.loop-drop.invariant.2))

pub loop-drop-preserved : goal.loop-drop-preserved
loop-drop-preserved c =
    let turn = YieldsList-turn (YieldsList-from_vec {s = c.into_iter-drop-iterator.result} c.args.drops.items c.into_iter-drop-iterator.ensures.into_iter_gives.0
    (c.into_iter-drop-iterator.ensures.into_iter_gives.1 ∙ c.args.drops.ok.0)) c.loop-drop.yielded c.loop-drop.drop-iterator c.loop-drop.yielded_by
    c.next.result c.next.new.self c.in-Some.drop c.in-Some.is c.next.ensures.steps in
    let small : length c.loop-drop.yielded < length c.args.marks.now = omega (arith, turn.0) in
    let place : c.len.result + c.len-in-loop-drop.result ≡ length c.loop-drop.yielded = omega (arith, c.len.ensures, c.len-in-loop-drop.ensures, c.loop-drop.invariant.2) in
    let test = rw place at c.if-marks-len.false in
    let less = marked-less c.args.marks.now c.loop-drop.yielded c.in-Some.drop small test in
    let more = unmarked-more c.args.marks.now c.loop-drop.yielded c.in-Some.drop small test in
    let left = c.in_ok-push-2.ensures.items in
    (cc, cc, omega (arith, length-append c.loop-drop.yielded (c.in-Some.drop ∷ []), c.in_ok-push-2.ensures.len, c.loop-drop.invariant.2))
