-- The source of one leaf more is met.
use Rattle.std.proofs.Common.{ℕ}
use Rattle.tm_circuit.specs.Source.{IsSource}
use Rattle.tm_circuit.specs.declared.sources.Source.TheVariants.{Gate}
use Rattle.tm_unroll.specs.declared.node.Node.{Node}
use Rattle.tm_unroll.proofs.EachLemmas.{stands-at}
use Rattle.tm_cover.proofs.SearchLemmas.{meets_first, meets_more, meets_all}
use Rattle.tm_cover.proofs.wanted.Search.meet_leaves.Goals as goal

pub loop-leaf-init : goal.loop-leaf-init
loop-leaf-init c = meets_first (λ (x : Node) (g : ℕ). IsSource c.args.circuit.now.drives x.signal (Gate g)) c.args.self.now

pub meet_source-requires-clause-signal : goal.meet_source-requires-clause-signal
meet_source-requires-clause-signal c =
    c.requires.signals c.leaf-item.result (stands-at c.args.leaves.now c.loop-leaf.leaf-index c.leaf-item.result c.loop-leaf-test.true c.leaf-item.is)

pub loop-leaf-preserved : goal.loop-leaf-preserved
loop-leaf-preserved c =
    meets_more (λ (x : Node) (g : ℕ). IsSource c.args.circuit.now.drives x.signal (Gate g)) c.args.leaves.now c.loop-leaf.leaf-index c.leaf-item.result
    c.args.self.now c.loop-leaf.self c.meet_source.new.self c.loop-leaf.invariant c.loop-leaf-test.true c.leaf-item.is c.in_ok-meet_source.ensures

pub returns : goal.returns
returns c =
    meets_all (λ (x : Node) (g : ℕ). IsSource c.args.circuit.now.drives x.signal (Gate g)) c.args.leaves.now c.loop-leaf.leaf-index c.args.self.now c.loop-leaf.self
    c.loop-leaf.invariant c.loop-leaf-test.false
