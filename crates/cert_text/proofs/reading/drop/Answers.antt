-- The gate, the lag, the arrival and the walks, one after another.
use Rattle.std.proofs.Common.{ℕ, ◌-◌, List, map, length, take, drop, Bor, sym, ap, ap₂, ◌∙◌, arith}
use Rattle.std.specs.List.{list_all}
use Rattle.std.proofs.lemmas.Result.{err_from_is_err_and}
use Rattle.cert_text.specs.Limits.{most_number, most_steps}
use Rattle.cert_text.specs.Words.{number_in, is_number, is_walk, walk_in}
use Rattle.cert_text.proofs.ReadLemmas.{refuses, word_refused, seen_word, seen_rest, no_word, drop_numbers, drop_gate_fails, drop_lag_fails, drop_arrival_fails, drop_walks_fail}
use Rattle.cert_text.proofs.reading.drop.Goals as goal

pub returns-in_err-gate-clause-fault : goal.returns-in_err-gate-clause-fault
returns-in_err-gate-clause-fault c =
    let p = err_from_is_err_and c.from_residual.result c.from_residual.ensures.1 in
    let words = c.args.words.now in
    rw (p.1, p.2) (word_refused words 1 no_word most_number c.args.line _ _ (omega (arith, c.requires)) (drop_gate_fails (map (λ w. w.now) words)) c.in_err-gate.ensures.fault)

pub returns-in_err-lag-clause-fault : goal.returns-in_err-lag-clause-fault
returns-in_err-lag-clause-fault c =
    let p = err_from_is_err_and c.from_residual-in_err-lag.result c.from_residual-in_err-lag.ensures.1 in
    let words = c.args.words.now in
    rw (p.1, p.2) (word_refused words 2 no_word most_steps c.args.line _ _ (omega (arith, c.requires)) (drop_lag_fails (map (λ w. w.now) words)) c.in_err-lag.ensures.fault)

pub returns-in_err-arrival-clause-fault : goal.returns-in_err-arrival-clause-fault
returns-in_err-arrival-clause-fault c =
    let p = err_from_is_err_and c.from_residual-in_err-arrival.result c.from_residual-in_err-arrival.ensures.1 in
    let words = c.args.words.now in
    rw (p.1, p.2) (word_refused words 3 no_word most_number c.args.line _ _ (omega (arith, c.requires)) (drop_arrival_fails (map (λ w. w.now) words)) c.in_err-arrival.ensures.fault)

pub returns-in_err-walks-clause-fault : goal.returns-in_err-walks-clause-fault
returns-in_err-walks-clause-fault c =
    let p = err_from_is_err_and c.from_residual-in_err-walks.result c.from_residual-in_err-walks.ensures.1 in
    let words = c.args.words.now in
    rw (p.1, p.2) (refuses c.args.line (list_all is_walk (map (λ (w : Bor (List ℕ)). w.now) (take (length words - 4) (drop 4 words)))) _ _
    (λ fails. drop_walks_fail (map (λ w. w.now) words) (ap (list_all is_walk) (sym (seen_rest words 4)) ∙ fails)) c.in_err-walks.ensures.fault)

pub returns-clause-told : goal.returns-clause-told
returns-clause-told c =
    let words = c.args.words.now in
    let gate = seen_word words 1 no_word (omega (arith, c.requires)) in
    let lag = seen_word words 2 no_word (omega (arith, c.requires)) in
    let arrival = seen_word words 3 no_word (omega (arith, c.requires)) in
    let rest = seen_rest words 4 in
    let walks = c.in_ok-walks.ensures.told in (
      drop_numbers (map (λ w. w.now) words) (ap (is_number most_number) gate ∙ c.in_ok-gate.ensures.told.0) (ap (is_number most_steps) lag ∙ c.in_ok-lag.ensures.told.0)
          (ap (is_number most_number) arrival ∙ c.in_ok-arrival.ensures.told.0) (ap (list_all is_walk) (sym rest) ∙ walks.0),
      ap₂ (λ (x : ℕ × ℕ) (y : ℕ × List (List ℕ)). record { gate = x.0; lag = x.1; arrival = y.0; walks = y.1 })
          (ap₂ (λ (g l : ℕ). (g, l)) (c.in_ok-gate.ensures.told.1 ∙ sym (ap number_in gate)) (c.in_ok-lag.ensures.told.1 ∙ sym (ap number_in lag)))
          (ap₂ (λ (a : ℕ) (xs : List (List ℕ)). (a, xs)) (c.in_ok-arrival.ensures.told.1 ∙ sym (ap number_in arrival)) (walks.1 ∙ ap (map walk_in) rest)),
    )
