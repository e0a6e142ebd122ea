-- Leaf by leaf.
use Rattle.std.proofs.Common.{◌≡◌, ◌+◌, ◌<◌, List, length, take, Global, sym, ◌∙◌, subst, arith}
use Rattle.std.specs.Prelude.{Contains, Vec}
use Rattle.std.proofs.lemmas.List.{take_all}
use Rattle.tm_circuit.proofs.ListLemmas.{contains-none}
use Rattle.tm_unroll.specs.declared.node.Node.{Node}
use Rattle.tm_unroll.proofs.JudgeLemmas.{gate_within}
use Rattle.tm_labels.specs.declared.watcher.Watcher.{Watcher}
use Rattle.tm_labels.specs.Watched.{AddsWatchers, AreWatchedAs, watchers_in, watcher}
use Rattle.tm_labels.proofs.WatchLemmas.{adds_none, adds_more, watch_more, lists_of}
use Rattle.tm_labels.proofs.watcher.watch.Goals as goal
use Rattle.tm_labels.proofs.watcher.watch.Goals.{in-Gate+in_ok-add_watcher, in_default}

pub loop-leaf-init : goal.loop-leaf-init
loop-leaf-init c = (adds_none (lists_of c.args.watchers.now), λ u y stands. absurd (contains-none y stands))

pub source-requires : goal.source-requires
source-requires c =
    subst (λ (y : Node). y.signal < length c.args.circuit.now.drives) (sym c.leaf-item.is) (c.requires.within c.loop-leaf.leaf-index c.leaf-item.result c.loop-leaf-test.true)

pub add_watcher-requires : goal.add_watcher-requires
add_watcher-requires c =
    let low = gate_within c.args.circuit.now.drives c.in-Gate.source c.in-Gate.ensures.0 in
    omega (arith, low, c.loop-leaf.auto.watchers, c.requires.sized)

pub returns-in_err-add_watcher-clause-adds : goal.returns-in_err-add_watcher-clause-adds
returns-in_err-add_watcher-clause-adds c =
    adds_more (lists_of c.args.watchers.now) (lists_of c.loop-leaf.watchers) (lists_of c.add_watcher.new.watchers) c.loop-leaf.invariant.0 c.in_err-add_watcher.ensures.adds

pub loop-leaf-preserved : goal.loop-leaf-preserved
loop-leaf-preserved c =
    let drives = c.args.circuit.now.drives in
    let y = c.leaf-item.result in
    elim c.match-source.branch [
      | in-Gate+in_ok-add_watcher w ↦
          subst (λ (vs : List (Vec Watcher Global)). AddsWatchers (lists_of c.args.watchers.now) (lists_of vs)
          × AreWatchedAs drives c.args.gate c.args.version (take (c.loop-leaf.leaf-index + 1) c.args.leaves.now) (lists_of vs)) (sym w.watchers-is)
          (watch_more drives c.args.gate c.args.version c.loop-leaf.leaf-index c.args.leaves.now y c.source.result (lists_of c.args.watchers.now) (lists_of c.loop-leaf.watchers) (lists_of w.add_watcher.new.watchers)
          c.loop-leaf-test.true c.leaf-item.is c.source.ensures c.loop-leaf.invariant.0 c.loop-leaf.invariant.1 w.in_ok-add_watcher.ensures.adds
          (λ u is. let same : w.in-Gate.source ≡ u = (let gates = sym w.in-Gate.is ∙ is in cc) in
          subst (λ v. Contains (watchers_in (lists_of w.add_watcher.new.watchers) v) (watcher c.args.gate y c.args.version)) same w.in_ok-add_watcher.ensures.watched))
      | in_default w ↦
          subst (λ (vs : List (Vec Watcher Global)). AddsWatchers (lists_of c.args.watchers.now) (lists_of vs)
          × AreWatchedAs drives c.args.gate c.args.version (take (c.loop-leaf.leaf-index + 1) c.args.leaves.now) (lists_of vs)) (sym w.watchers-is)
          (watch_more drives c.args.gate c.args.version c.loop-leaf.leaf-index c.args.leaves.now y c.source.result (lists_of c.args.watchers.now) (lists_of c.loop-leaf.watchers) (lists_of c.loop-leaf.watchers)
          c.loop-leaf-test.true c.leaf-item.is c.source.ensures c.loop-leaf.invariant.0 c.loop-leaf.invariant.1 (adds_none (lists_of c.loop-leaf.watchers))
          (λ u is. absurd (w.in_default.not-Gate u is)))
    ]

pub returns-clause-adds : goal.returns-clause-adds
returns-clause-adds c = c.loop-leaf.invariant.0

pub returns-clause-watched : goal.returns-clause-watched
returns-clause-watched c u y stands =
    c.loop-leaf.invariant.1 u y (subst (λ (ys : List Node). Contains ys y) (sym (take_all c.loop-leaf.leaf-index c.args.leaves.now c.loop-leaf-test.false)) stands)
