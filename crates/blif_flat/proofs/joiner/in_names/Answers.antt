use Rattle.std.proofs.Common.{◌≡◌, ◌∙◌, ap, arith}
use Rattle.std.proofs.lemmas.List.{take_all}
use Rattle.tm_parts.specs.Runs.{longest_run}
use Rattle.blif_flat.specs.Run.{run_in}
use Rattle.blif_flat.proofs.RunLemmas.{run_more}
use Rattle.blif_flat.proofs.joiner.in_names.Goals as goal

pub loop-name-preserved : goal.loop-name-preserved
loop-name-preserved c =
    let more = run_more c.args.names.now c.loop-name.name-index c.name-item.result c.loop-name-test.true c.name-item.is in
    let run : c.longest_run.result ≡ longest_run 64 c.name-item.result = c.longest_run.ensures.run ∙ ap (longest_run 64) c.bytes.ensures in
    (omega (arith, more, run, c.loop-name.invariant.0, c.max-longest.ensures), omega (arith, c.loop-name.invariant.1, c.longest_run.ensures.small, c.max-longest.ensures))

pub returns : goal.returns
returns c = record {
  run = c.loop-name.invariant.0 ∙ ap run_in (take_all c.loop-name.name-index c.args.names.now c.loop-name-test.false);
  small = c.loop-name.invariant.1;
}
