use Rattle.std.proofs.Common.{◌≡◌, ◌<◌, ◌++◌, false, length, get_or, drop, suc, add-one, append-nil, refl}
use Rattle.std.proofs.Math.Seq.{drop-cons}
use Rattle.std.specs.Option.{option_to_list}
use Rattle.std.specs.Vec.Iter.{into_iter_items}
use Rattle.tm_shorten.specs.Parts.{joined}
use Rattle.tm_shorten.proofs.PartLemmas.{joined-turn}
use Rattle.tm_shorten.proofs.parts.join.Goals as goal
use Rattle.tm_shorten.proofs.parts.join.Goals.{in-Some+in_ok-push-in-Some, in-None}

pub loop-mark-preserved : goal.loop-mark-preserved
loop-mark-preserved c =
    let marks = c.args.marks.now in
    let mark = get_or marks c.loop-mark.mark-index false in
    let grows : c.match-next_of.whole.items ≡ c.loop-mark.whole.items ++ option_to_list c.next_of.result =
    elim c.match-next_of.branch [
      | in-Some+in_ok-push-in-Some w ↦ rw (w.whole-is, w.in-Some.is) w.in_ok-push-in-Some.ensures.items
      | in-None w ↦ rw (w.whole-is, w.in-None.is, append-nil) refl
    ] in
    let inside : c.loop-mark.mark-index < length marks = c.loop-mark-test.true in
    let so_far = rw (drop-cons marks c.loop-mark.mark-index false) at c.loop-mark.invariant in
    rw add-one (joined-turn mark (drop (suc c.loop-mark.mark-index) marks) c.next_of.result c.loop-mark.whole.items c.match-next_of.whole.items
    (into_iter_items c.loop-mark.kept) (into_iter_items c.loop-mark.left) (into_iter_items c.next_of.new.kept) (into_iter_items c.next_of.new.left)
    (joined marks c.args.kept.items c.args.left.items) c.next_of.ensures grows so_far)
