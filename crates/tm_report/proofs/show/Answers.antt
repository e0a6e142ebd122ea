-- the lines are the report
use Rattle.std.proofs.Common.{◌<◌, length, map, sym, subst}
use Rattle.std.specs.Prelude.{All}
use Rattle.tm_report.specs.Report.{IsFirstLongest}
use Rattle.tm_report.specs.Onward.{IsOnward}
use Rattle.tm_report.proofs.Lines.{chain_inside, is_report}
use Rattle.tm_report.proofs.show.Goals as goal

pub head_lines-requires : goal.head_lines-requires
head_lines-requires c =
    let drives = c.args.circuit.now.drives in
    subst (λ xs. All (λ s. s < length drives) xs) (sym c.deref-2.ensures.value) (chain_inside drives c.in_ok-chain.chain.items c.in_ok-chain.ensures.longest.linked)

pub returns : goal.returns
returns c =
    let circuit = c.args.circuit.now in
    let onward = subst (λ xs. IsOnward circuit xs) (sym c.deref-3.ensures.value) c.in_ok-onward.ensures in
    let first = subst (λ xs. IsFirstLongest circuit xs) (sym c.deref-2.ensures.value) c.in_ok-chain.ensures in
    is_report circuit c.in_ok-period.period c.deref-3.result.now c.deref-2.result.now (map (λ line. line.items) c.in_ok-lines.lines.items) (map (λ line. line.items) c.push_slacks.new.lines.items)
    c.in_ok-period.ensures.sound c.in_ok-period.ensures.period onward first c.in_ok-lines.ensures c.in_ok-push_slacks.ensures
