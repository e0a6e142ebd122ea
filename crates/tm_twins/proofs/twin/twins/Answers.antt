use Rattle.std.proofs.Common.{List, ℕ, sym, subst}
use Rattle.std.proofs.lemmas.Result.{IfOk-weaker}
use Rattle.tm_twins.specs.Twins.{AreTwins, twin_in}
use Rattle.tm_twins.specs.Classes.{AreHeads, AreLeast}
use Rattle.tm_twins.proofs.LeastLemmas.{twins_from_heads}
use Rattle.tm_twins.proofs.twin.twins.Goals as goal

pub returns-clause-twins : goal.returns-clause-twins
returns-clause-twins c =
    let drives = c.args.circuit.now.drives in
    IfOk-weaker c.leasts_of.result (λ leasts. AreLeast c.deref.result.now leasts.items c.signals.result) (λ twins. AreTwins drives (twin_in twins.items))
    (λ leasts h. twins_from_heads drives c.deref.result.now leasts.items
    (subst (λ (xs : List ℕ). AreHeads drives xs) (sym c.deref.ensures.value) c.in_ok-heads.ensures)
    (subst (λ n. AreLeast c.deref.result.now leasts.items n) c.signals.ensures.count h)) c.leasts_of.ensures
