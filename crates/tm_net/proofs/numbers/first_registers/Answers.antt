-- one signal more
use Rattle.std.proofs.Common.{◌≡◌, ◌+◌, ◌-◌, ◌<◌, List, ℕ, length, get_or, sym, subst, arith}
use Rattle.tm_net.proofs.NumberLemmas.{AreFirstsBelow, one_first_more, next_low}
use Rattle.tm_net.proofs.numbers.first_registers.Goals as goal

pub overflow_add-next : goal.overflow_add-next
overflow_add-next c =
    let inside : c.loop-place.place < length c.args.lows.now = omega arith in
    let low = next_low c.args.inputs c.args.lows.now c.args.ends.now c.loop-place.place (length c.args.lows.now) c.loop-place.firsts.items c.loop-place.next c.loop-place.invariant c.requires.near inside in
    let near = c.requires.near c.loop-place.place in
    let few = c.requires.few in
    let here : c.from-next.result ≡ get_or c.args.ends.now c.loop-place.place 0 - get_or c.args.lows.now c.loop-place.place 0 = c.from-next.ensures in
    omega (arith, low, near, few, here)

pub loop-place-preserved : goal.loop-place-preserved
loop-place-preserved c =
    let here : c.from-next.result ≡ get_or c.args.ends.now c.loop-place.place 0 - get_or c.args.lows.now c.loop-place.place 0 = c.from-next.ensures in
    subst (λ n. AreFirstsBelow c.args.inputs c.args.lows.now c.args.ends.now (c.loop-place.place + 1) c.push.new.self.items (c.loop-place.next + n)) (sym here)
    (subst (λ (firsts : List ℕ). AreFirstsBelow c.args.inputs c.args.lows.now c.args.ends.now (c.loop-place.place + 1) firsts
    (c.loop-place.next + (get_or c.args.ends.now c.loop-place.place 0 - get_or c.args.lows.now c.loop-place.place 0))) (sym c.in_ok-push.ensures.items)
    (one_first_more c.args.inputs c.args.lows.now c.args.ends.now c.loop-place.place c.loop-place.firsts.items c.loop-place.next c.loop-place.invariant))
