-- The gate, the lag and the leaves, one after another.
use Rattle.std.proofs.Common.{ℕ, ◌-◌, List, map, length, take, drop, Bor, sym, ap, ap₂, ◌∙◌, arith}
use Rattle.std.specs.List.{list_all}
use Rattle.std.proofs.lemmas.Result.{err_from_is_err_and}
use Rattle.tm_unroll.specs.declared.node.Node.{Node}
use Rattle.cert_text.specs.Limits.{most_number, most_steps}
use Rattle.cert_text.specs.Words.{number_in, is_number, is_leaf, leaf_in}
use Rattle.cert_text.proofs.ReadLemmas.{refuses, word_refused, seen_word, seen_rest, no_word, table_numbers, table_gate_fails, table_lag_fails, table_leaves_fail}
use Rattle.cert_text.proofs.reading.table.Goals as goal

pub returns-in_err-gate-clause-fault : goal.returns-in_err-gate-clause-fault
returns-in_err-gate-clause-fault c =
    let p = err_from_is_err_and c.from_residual.result c.from_residual.ensures.1 in
    let words = c.args.words.now in
    rw (p.1, p.2) (word_refused words 1 no_word most_number c.args.line _ _ (omega (arith, c.requires)) (table_gate_fails (map (λ w. w.now) words)) c.in_err-gate.ensures.fault)

pub returns-in_err-lag-clause-fault : goal.returns-in_err-lag-clause-fault
returns-in_err-lag-clause-fault c =
    let p = err_from_is_err_and c.from_residual-in_err-lag.result c.from_residual-in_err-lag.ensures.1 in
    let words = c.args.words.now in
    rw (p.1, p.2) (word_refused words 2 no_word most_steps c.args.line _ _ (omega (arith, c.requires)) (table_lag_fails (map (λ w. w.now) words)) c.in_err-lag.ensures.fault)

pub returns-in_err-leaves-clause-fault : goal.returns-in_err-leaves-clause-fault
returns-in_err-leaves-clause-fault c =
    let p = err_from_is_err_and c.from_residual-in_err-leaves.result c.from_residual-in_err-leaves.ensures.1 in
    let words = c.args.words.now in
    rw (p.1, p.2) (refuses c.args.line (list_all is_leaf (map (λ (w : Bor (List ℕ)). w.now) (take (length words - 3) (drop 3 words)))) _ _
    (λ fails. table_leaves_fail (map (λ w. w.now) words) (ap (list_all is_leaf) (sym (seen_rest words 3)) ∙ fails)) c.in_err-leaves.ensures.fault)

pub returns-clause-told : goal.returns-clause-told
returns-clause-told c =
    let words = c.args.words.now in
    let gate = seen_word words 1 no_word (omega (arith, c.requires)) in
    let lag = seen_word words 2 no_word (omega (arith, c.requires)) in
    let rest = seen_rest words 3 in
    let leaves = c.in_ok-leaves.ensures.told in (
      table_numbers (map (λ w. w.now) words) (ap (is_number most_number) gate ∙ c.in_ok-gate.ensures.told.0) (ap (is_number most_steps) lag ∙ c.in_ok-lag.ensures.told.0)
          (ap (list_all is_leaf) (sym rest) ∙ leaves.0),
      ap₂ (λ (g : ℕ) (r : ℕ × List Node). record { gate = g; lag = r.0; leaves = r.1 }) (c.in_ok-gate.ensures.told.1 ∙ sym (ap number_in gate))
          (ap₂ (λ (l : ℕ) (xs : List Node). (l, xs)) (c.in_ok-lag.ensures.told.1 ∙ sym (ap number_in lag)) (leaves.1 ∙ ap (map leaf_in) rest)),
    )
