use Rattle.std.proofs.Common.{◌≡◌, ◌+◌, get_or, drop, sym, ap, ◌∙◌, arith, ℕ, ◌||◌}
use Rattle.std.specs.List.{list_any}
use Rattle.std.proofs.lemmas.Bool.{MatchBool-at_true, MatchBool-at_false, or_parts}
use Rattle.std.proofs.lemmas.List.{take_rest, drop_all, append-nil}
use Rattle.tm_bits.specs.Tables.{bit_of}
use Rattle.prime_cover.specs.Found.{has}
use Rattle.prime_cover.proofs.NeededLemmas.{pruned_start, pruned_kept, pruned_left}
use Rattle.prime_cover.proofs.primes.needed_of.Goals as goal
use Rattle.prime_cover.proofs.primes.needed_of.Goals.{then-not-is_within+in_ok-push, else-not-is_within}

pub loop-index-init : goal.loop-index-init
loop-index-init c = rw c.new-needed.ensures.items (pruned_start c.args.cubes.now)

pub loop-index-preserved : goal.loop-index-preserved
loop-index-preserved c =
    let cubes = c.args.cubes.now in
    let needed = c.loop-index.needed.items in
    let index = c.loop-index.index in
    let cube = c.index-cubes-index.result in
    let is : get_or cubes index cube ≡ cube = sym c.index-cubes-index.is in
    let others : (row : ℕ) → bit_of c.union.result row ≡ (list_any (has row) needed || list_any (has row) (drop (index + 1) cubes))
    = λ row.
    let before : bit_of c.rows_of_some-before.result row ≡ list_any (has row) needed
    = c.rows_of_some-before.ensures row ∙ ap (list_any (has row)) c.deref.ensures.value in
    let after : bit_of c.rows_of_some-after.result row ≡ list_any (has row) (drop (index + 1) cubes)
    = c.rows_of_some-after.ensures row ∙ ap (list_any (has row)) (take_rest cubes (index + 1)) in
    c.union.ensures row ∙ ap (λ x. x || bit_of c.rows_of_some-after.result row) before ∙ ap (λ x. list_any (has row) needed || x) after in
    elim c.if-not-is_within.branch [
      | then-not-is_within+in_ok-push w ↦
          let outside = MatchBool-at_false _ _ w.if-not-is_within.true c.is_within.ensures in
          let none = or_parts (list_any (has outside.0) needed) (list_any (has outside.0) (drop (index + 1) cubes)) (sym (others outside.0) ∙ outside.2) in
          rw (w.needed-is, w.in_ok-push.ensures.items)
          (pruned_kept cubes needed index cube c.requires.width c.requires.sorted c.loop-index-test.true is c.loop-index.invariant outside.0 outside.1 none.0
          none.1)
      | else-not-is_within w ↦
          let within = MatchBool-at_true _ _ w.if-not-is_within.false c.is_within.ensures in
          rw w.needed-is
          (pruned_left cubes needed index cube c.loop-index-test.true is c.loop-index.invariant (λ row had. sym (others row) ∙ within row had))
    ]

pub returns-clause-rows : goal.returns-clause-rows
returns-clause-rows c row some =
    let none = drop_all c.loop-index.index c.args.cubes.now (omega arith) in
    rw (none, append-nil c.loop-index.needed.items) at (c.loop-index.invariant.rows row some)

pub returns-clause-own : goal.returns-clause-own
returns-clause-own c =
    let none = drop_all c.loop-index.index c.args.cubes.now (omega arith) in
    rw (none, append-nil c.loop-index.needed.items) at c.loop-index.invariant.own
