-- The source of one output more is met.
use Rattle.std.proofs.Common.{ℕ, List, subst}
use Rattle.tm_circuit.specs.Source.{IsSource}
use Rattle.tm_circuit.specs.declared.sources.Source.TheVariants.{Gate}
use Rattle.tm_replay.proofs.LostLemmas.{output_within}
use Rattle.tm_cover.specs.Wanted.{Meets, IsSourceAmong}
use Rattle.tm_cover.proofs.SearchLemmas.{meets_first, meets_more, meets_all}
use Rattle.tm_cover.proofs.wanted.Search.meet_outputs.Goals as goal

pub loop-output-init : goal.loop-output-init
loop-output-init c = meets_first (λ (s : ℕ) (g : ℕ). IsSource c.args.circuit.now.drives s (Gate g)) c.args.self.now

pub meet_source-requires-clause-signal : goal.meet_source-requires-clause-signal
meet_source-requires-clause-signal c =
    output_within c.args.circuit.now c.signals-sound.ensures.sound c.outputs-output-items.result.now c.loop-output.output-index c.output-item.result c.outputs-output-items.ensures c.loop-output-test.true c.output-item.is

pub loop-output-preserved : goal.loop-output-preserved
loop-output-preserved c =
    meets_more (λ (s : ℕ) (g : ℕ). IsSource c.args.circuit.now.drives s (Gate g)) c.outputs-output-items.result.now c.loop-output.output-index c.output-item.result
    c.args.self.now c.loop-output.self c.meet_source.new.self c.loop-output.invariant c.loop-output-test.true c.output-item.is c.in_ok-meet_source.ensures

pub returns : goal.returns
returns c =
    subst (λ (l : List ℕ). Meets (IsSourceAmong c.args.circuit.now.drives l) c.args.self.now c.loop-output.self) c.outputs-output-items.ensures
    (meets_all (λ (s : ℕ) (g : ℕ). IsSource c.args.circuit.now.drives s (Gate g)) c.outputs-output-items.result.now c.loop-output.output-index c.args.self.now c.loop-output.self
    c.loop-output.invariant c.loop-output-test.false)
