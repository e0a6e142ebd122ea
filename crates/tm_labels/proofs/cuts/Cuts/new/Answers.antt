-- Nothing is kept and nobody watches.
use Rattle.std.proofs.Common.{◌≡◌, [], length, map, ◌∙◌, ap, arith}
use Rattle.std.proofs.lemmas.List.{length-replicate}
use Rattle.tm_labels.proofs.WatchLemmas.{cuts_none, no_cuts, empty_more}
use Rattle.tm_labels.proofs.cuts.Cuts.new.Goals as goal

pub loop-preserved : goal.loop-preserved
loop-preserved c = (
  empty_more (λ cut. cut.items) c.loop.leaves.items c.push.new.self.items c.new.result c.loop.counter c.loop.invariant.0 c.in_ok-push.ensures.items c.new.ensures.items,
  empty_more (λ list. list.items) c.loop.watchers.items c.push-in-loop.new.self.items c.new-in-loop.result c.loop.counter c.loop.invariant.1 c.in_ok-push-2.ensures.items c.new-in-loop.ensures.items,
)

pub invariant_of-result : goal.invariant_of-result
invariant_of-result c =
    let all : c.loop.counter ≡ length c.args.circuit.now.drives = omega (arith, c.loop-test.false, c.loop.auto.counter-end, c.signals-signals.ensures.count) in
    let marks : length c.in_ok-vec.field-0.items ≡ c.loop.counter = omega (arith, c.in_ok-vec.ensures.len, c.in_ok-vec.field-0.ok.0, all, c.signals-signals.ensures.count) in
    let versions : length c.in_ok-vec-2.field-0.items ≡ c.loop.counter = omega (arith, c.in_ok-vec-2.ensures.len, c.in_ok-vec-2.field-0.ok.0, all, c.signals-signals.ensures.count) in
    cuts_none c.args.circuit.now.drives c.loop.counter (map (λ cut. cut.items) c.loop.leaves.items) c.in_ok-vec.field-0.items c.in_ok-vec-2.field-0.items (map (λ list. list.items) c.loop.watchers.items)
    all c.loop.invariant.0 c.loop.invariant.1 marks versions

pub returns-clause-none : goal.returns-clause-none
returns-clause-none c g = no_cuts g c.loop.counter (map (λ cut. cut.items) c.loop.leaves.items) c.loop.invariant.0

pub returns-clause-sized : goal.returns-clause-sized
returns-clause-sized c =
    let all : c.loop.counter ≡ length c.args.circuit.now.drives = omega (arith, c.loop-test.false, c.loop.auto.counter-end, c.signals-signals.ensures.count) in (
      ap length c.loop.invariant.0 ∙ length-replicate c.loop.counter [] ∙ all,
      omega (arith, c.in_ok-vec.ensures.len, c.in_ok-vec.field-0.ok.0, c.signals-signals.ensures.count),
    )
