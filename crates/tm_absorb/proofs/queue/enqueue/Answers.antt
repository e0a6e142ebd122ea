use Rattle.std.proofs.Common.{◌≡◌, ℕ, List, sym, subst}
use Rattle.std.specs.Prelude.{Contains}
use Rattle.tm_absorb.specs.Slots.{HasSources}
use Rattle.tm_absorb.proofs.queue.enqueue.Goals as goal

pub returns-clause-keeps : goal.returns-clause-keeps
returns-clause-keeps c g stands = c.in_ok-add_all.ensures.keeps g (c.in_ok-add.ensures.keeps g stands)

pub returns-clause-queued : goal.returns-clause-queued
returns-clause-queued c =
    let gates : c.as_slice-gates.result.now ≡ c.in_ok-sources.sources.items = cc in
    let leaves : c.as_slice.result.now ≡ c.args.lut.now.leaves.items = cc in
    record {
      gate = c.in_ok-add_all.ensures.keeps c.args.lut.now.gate c.in_ok-add.ensures.has;
      leaves = λ g x leaf source. c.in_ok-add_all.ensures.has g (rw gates (c.in_ok-sources.ensures.all g x (rw leaves leaf) source));
    }
