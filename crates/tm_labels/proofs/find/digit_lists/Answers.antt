-- One walk more.
use Rattle.std.proofs.Common.{◌∙◌}
use Rattle.tm_labels.proofs.KnownLemmas.{lists_more}
use Rattle.tm_labels.proofs.find.digit_lists.Goals as goal

pub loop-walk-preserved : goal.loop-walk-preserved
loop-walk-preserved c =
    lists_more c.args.walks.now c.loop-walk.lists.items c.push.new.self.items c.loop-walk.walk-index c.walk-item.result c.in_ok-digits.field-0 c.loop-walk-test.true c.walk-item.is c.loop-walk.invariant
    (c.in_ok-digits.ensures ∙ c.deref.ensures.value) c.in_ok-push.ensures.items
