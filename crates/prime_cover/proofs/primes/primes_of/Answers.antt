use Rattle.std.proofs.Common.{◌≡◌, ◌*◌, ◌%◌, ◌^◌, sym, ◌∙◌, arith}
use Rattle.std.proofs.lemmas.Nat.{one_shl}
use Rattle.std.proofs.lemmas.Bool.{both_ways}
use Rattle.prime_cover.proofs.CoverLemmas.{found_none, found_more, found_same, found_all}
use Rattle.prime_cover.proofs.primes.primes_of.Goals as goal
use Rattle.prime_cover.proofs.primes.primes_of.Goals.{then-bit+then-not-contains+in_ok-push, else-bit, else-bit-via-then-bit+else-not-contains, else-bit-via-else-bit}

pub loop-row-init : goal.loop-row-init
loop-row-init c = rw c.new-primes.ensures.items (found_none c.args.table.now.inputs c.args.table.now.words)

pub loop-row-preserved : goal.loop-row-preserved
loop-row-preserved c =
    let table = c.args.table.now in
    let before = c.loop-row in
    elim c.if-bit.branch [
      | then-bit+then-not-contains+in_ok-push w ↦
          rw (w.primes-is, w.in_ok-push.ensures.items, w.had-is)
          (found_more table.inputs table.words before.primes.items before.had w.union-had.result before.row w.prime_with-prime.result before.invariant
          w.prime_with-prime.ensures.prime w.prime_with-prime.ensures.has w.union-had.ensures)
      | else-bit w ↦
          rw (w.primes-is, w.had-is)
          (found_same table.inputs table.words before.primes.items before.had before.row before.invariant
          (λ one.
          elim w.else-bit.branch [
            | else-bit-via-then-bit+else-not-contains w' ↦ sym w'.contains.ensures ∙ w'.if-not-contains.false
            | else-bit-via-else-bit w' ↦ absurd (both_ways c.bit.result w'.if-bit.false (c.bit.ensures ∙ one))
          ]))
    ]

pub returns-clause-ones : goal.returns-clause-ones
returns-clause-ones c =
    let table = c.args.table.now in
    let rows : 1 * 2 ^ table.inputs % 2 ^ 64 ≡ 2 ^ table.inputs = one_shl table.inputs 64 (omega arith) in
    found_all table.inputs table.words c.loop-row.primes.items c.loop-row.had c.loop-row.row table.clear (omega arith) c.loop-row.invariant
