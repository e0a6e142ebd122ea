-- The late ones count, and so are signals.
use Rattle.std.proofs.Common.{length, sym, ◌∙◌, ap}
use Rattle.tm_circuit.specs.Plain.{Plain}
use Rattle.tm_labels.specs.Watched.{Kept}
use Rattle.tm_labels.proofs.WorkLemmas.{late_within}
use Rattle.tm_labels.proofs.work.wake.Goals as goal

pub enter-requires-clause-gates : goal.enter-requires-clause-gates
enter-requires-clause-gates c =
    let circuit = c.circuit.ensures ∙ ap (λ (k : Kept). k.circuit) c.in_ok-late.ensures.same in
    late_within c.args.base c.args.cuts.now.circuit c.args.labels.now c.args.counts.now c.queued.result.now c.args.cuts.now.leaves c.args.gate (length c.circuit.result.now.drives) c.in_ok-late.late.items c.deref.result.now
    (c.requires.sized.1 ∙ ap (λ (p : Plain). length p.drives) (sym circuit)) c.deref.ensures.value c.in_ok-late.ensures.late
