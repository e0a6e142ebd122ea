use Rattle.std.proofs.Common.{◌≡◌, ◌∙◌, ap, arith, flat_map}
use Rattle.std.proofs.lemmas.List.{take_all}
use Rattle.tm_parts.specs.Runs.{longest_run}
use Rattle.blif_unit.specs.Fit.{names_bound}
use Rattle.blif_flat.specs.Run.{run_in}
use Rattle.blif_flat.proofs.RunLemmas.{run_part}
use Rattle.blif_flat.proofs.joiner.in_bindings.Goals as goal

pub loop-binding-preserved : goal.loop-binding-preserved
loop-binding-preserved c =
    let more = run_part names_bound c.args.bindings.now c.loop-binding.binding-index c.binding-item.result c.loop-binding-test.true c.binding-item.is in
    let formal : c.longest_run-formal.result ≡ longest_run 64 c.binding-item.result.formal = c.longest_run-formal.ensures.run ∙ ap (longest_run 64) c.bytes.ensures in
    let actual : c.longest_run-actual.result ≡ longest_run 64 c.binding-item.result.actual = c.longest_run-actual.ensures.run ∙ ap (longest_run 64) c.bytes-in-loop-binding.ensures in (
      omega (arith, more, formal, actual, c.loop-binding.invariant.0, c.max.ensures, c.max-longest.ensures),
      omega (arith, c.loop-binding.invariant.1, c.longest_run-formal.ensures.small, c.longest_run-actual.ensures.small, c.max.ensures, c.max-longest.ensures),
    )

pub returns : goal.returns
returns c = record {
  run = c.loop-binding.invariant.0 ∙ ap (λ bs. run_in (flat_map names_bound bs)) (take_all c.loop-binding.binding-index c.args.bindings.now c.loop-binding-test.false);
  small = c.loop-binding.invariant.1;
}
