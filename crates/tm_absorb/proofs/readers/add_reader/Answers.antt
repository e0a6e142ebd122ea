-- Source by source.
use Rattle.std.proofs.Common.{◌≡◌, ◌<◌, ◌+◌, ℕ, List, length, map, take, sym, subst, arith}
use Rattle.std.specs.Prelude.{Contains}
use Rattle.tm_circuit.specs.Chain.{IsGate}
use Rattle.tm_circuit.proofs.ListLemmas.{contains-none}
use Rattle.tm_unroll.proofs.JudgeLemmas.{gate_within}
use Rattle.tm_absorb.specs.Slots.{HasSources, row_in}
use Rattle.tm_absorb.proofs.TakeLemmas.{taken_stands, taken_end}
use Rattle.tm_absorb.proofs.ReaderLemmas.{lists_of, adds_none, adds_more, reads_one_more}
use Rattle.tm_absorb.proofs.readers.add_reader.Goals as goal

pub loop-source-init : goal.loop-source-init
loop-source-init c = (adds_none (lists_of c.args.readers.now), λ g stands. absurd (contains-none g stands))

pub add-requires : goal.add-requires
add-requires c =
    let gates : c.as_slice-gates.result.now ≡ c.in_ok-sources.sources.items = cc in
    let stands = taken_stands c.as_slice-gates.result.now c.loop-source.source-index c.source-item.result c.loop-source-test.true c.source-item.is in
    let low = gate_within c.args.circuit.now.drives c.source-item.result (c.in_ok-sources.ensures.only c.source-item.result (subst (λ (gs : List ℕ). Contains gs c.source-item.result) gates stands)) in
    omega (arith, low, c.loop-source.auto.readers, c.requires.sized)

pub loop-source-preserved : goal.loop-source-preserved
loop-source-preserved c = (
  adds_more (lists_of c.args.readers.now) (lists_of c.loop-source.readers) (lists_of c.add.new.readers) c.loop-source.invariant.0 c.in_ok-add.ensures.adds,
  reads_one_more (lists_of c.loop-source.readers) (lists_of c.add.new.readers) c.as_slice-gates.result.now c.loop-source.source-index c.source-item.result c.args.gate
      c.in_ok-add.ensures.adds c.loop-source-test.true c.source-item.is c.loop-source.invariant.1 c.in_ok-add.ensures.reads,
)

pub returns-in_err-add-clause-adds : goal.returns-in_err-add-clause-adds
returns-in_err-add-clause-adds c =
    adds_more (lists_of c.args.readers.now) (lists_of c.loop-source.readers) (lists_of c.add.new.readers) c.loop-source.invariant.0 c.in_err-add.ensures.adds

pub returns-clause-adds : goal.returns-clause-adds
returns-clause-adds c = c.loop-source.invariant.0

pub returns-clause-reads : goal.returns-clause-reads
returns-clause-reads c h x leaf source =
    let gates : c.as_slice-gates.result.now ≡ c.in_ok-sources.sources.items = cc in
    c.loop-source.invariant.1 h (taken_end c.as_slice-gates.result.now c.loop-source.source-index h c.loop-source-test.false (rw gates (c.in_ok-sources.ensures.all h x leaf source)))
