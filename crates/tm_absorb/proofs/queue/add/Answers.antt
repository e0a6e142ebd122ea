use Rattle.std.proofs.Common.{List, ℕ, sym, subst}
use Rattle.std.specs.Prelude.{Contains}
use Rattle.tm_absorb.proofs.ReaderLemmas.{inserted_stays, inserted_has}
use Rattle.tm_absorb.proofs.queue.add.Goals as goal

pub returns-clause-keeps : goal.returns-clause-keeps
returns-clause-keeps c g stands =
    subst (λ (keys : List ℕ). Contains keys g) (sym c.in_ok-insert.ensures.keys) (inserted_stays c.args.queue.now.keys c.gate.inside.0 g stands)

pub returns-clause-has : goal.returns-clause-has
returns-clause-has c =
    subst (λ u. Contains c.insert.new.self.keys u) c.gate.view_is
    (subst (λ (keys : List ℕ). Contains keys c.gate.inside.0) (sym c.in_ok-insert.ensures.keys) (inserted_has c.args.queue.now.keys c.gate.inside.0))
