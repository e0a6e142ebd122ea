-- no gate where none begins a longest chain, and otherwise the way on from the first that does
use Rattle.std.proofs.Common.{◌≡◌, ◌∷◌, sym, subst}
use Rattle.std.proofs.lemmas.Result.{IfOk-weaker}
use Rattle.tm_report.specs.Report.{IsFirstLongest}
use Rattle.tm_report.specs.Onward.{way_behind}
use Rattle.tm_report.proofs.Ways.{first_longest, no_longest}
use Rattle.tm_report.proofs.chain.first_chain.Goals as goal

pub returns-in-None : goal.returns-in-None
returns-in-None c =
    subst (λ xs. IsFirstLongest c.args.circuit.now xs) (sym c.new.ensures.items)
    (no_longest c.args.circuit.now c.args.onward.now c.requires.onward c.args.period c.requires.period c.in-None.ensures)

pub returns-in-Some : goal.returns-in-Some
returns-in-Some c =
    let circuit = c.args.circuit.now in
    let onward = c.args.onward.now in
    let first = c.in-Some.first in
    let longest = first_longest circuit onward c.requires.onward c.args.period first c.requires.period c.in-Some.ensures.0 c.in-Some.ensures.1 in
    IfOk-weaker c.chain_from.result (λ chain. chain.items ≡ first ∷ way_behind onward first) (λ chain. IsFirstLongest circuit chain.items)
    (λ chain is. subst (λ xs. IsFirstLongest circuit xs) (sym is) longest) c.chain_from.ensures
