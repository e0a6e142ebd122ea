-- At the begin each gate that counts waits.
use Rattle.std.proofs.Common.{Bool, List, [], length, map, sym, ◌∙◌, ap, subst}
use Rattle.tm_circuit.specs.Plain.{Plain}
use Rattle.tm_replay.specs.Replays.{Drop, drop_of}
use Rattle.tm_labels.specs.Marks.{MarksGates}
use Rattle.tm_labels.specs.Keeping.{IsTask, Keeps}
use Rattle.tm_labels.proofs.KeepLemmas.{begun}
use Rattle.tm_labels.proofs.work.Work.over.Goals as goal

pub invariant_of-result : goal.invariant_of-result
invariant_of-result c =
    let p = c.args.circuit.now in
    let made = c.in_ok-cuts.ensures in
    let marks = subst (λ (ms : List Bool). MarksGates p.drives ms c.in_ok-queue.queue) c.deref-3.ensures.value c.in_ok-queue.ensures in
    let counts = c.requires.sized in
    let keeps = begun c.args.base p c.args.k c.args.d c.args.target c.args.counts.items c.in_ok-queue.queue c.in_ok-labels.labels.items c.in_ok-cuts.cuts.leaves c.in_ok-cuts.cuts.stale counts c.in_ok-labels.ensures marks made.none made.stale in
    record {
      task = subst (λ (q : Plain). IsTask c.args.base q c.args.k c.args.d c.args.target) (sym made.circuit)
          (record { some = c.requires.few.0; few = c.requires.few.1; base_low = c.requires.base; near = c.requires.near; narrow = c.requires.narrow; target_low = c.requires.target });
      stale_sized = made.sized.1 ∙ ap (λ (q : Plain). length q.drives) (sym made.circuit);
      leaves_sized = made.sized.0 ∙ ap (λ (q : Plain). length q.drives) (sym made.circuit);
      keeps = subst (λ (ds : List Drop). Keeps c.args.base c.in_ok-cuts.cuts.circuit c.args.k c.args.d c.args.target c.args.counts.items c.in_ok-queue.queue c.in_ok-labels.labels.items ds c.in_ok-cuts.cuts.leaves c.in_ok-cuts.cuts.stale)
          (sym (ap (map drop_of) c.new-5.ensures.items))
          (subst (λ (q : Plain). Keeps c.args.base q c.args.k c.args.d c.args.target c.args.counts.items c.in_ok-queue.queue c.in_ok-labels.labels.items [] c.in_ok-cuts.cuts.leaves c.in_ok-cuts.cuts.stale) (sym made.circuit) keeps);
    }
