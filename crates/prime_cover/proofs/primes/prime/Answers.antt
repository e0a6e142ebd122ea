use Rattle.std.proofs.Common.{◌≡◌, true, All, Contains, map, rules}
use Rattle.std.proofs.lemmas.List.Sorted.{IsNonDecreasingBy-from_sort_by_key, All-permutation}
use Rattle.std.proofs.lemmas.Result.{IfOk-weaker}
use Rattle.tm_bits.specs.Rows.{Rows}
use Rattle.prime_cover.specs.declared.cube.Cube.{Cube}
use Rattle.prime_cover.specs.Primes.{IsPrimeCover}
use Rattle.prime_cover.specs.Found.{row_of, IsPrimeCube}
use Rattle.prime_cover.proofs.CoverLemmas.{one_width, kept_primes, kept_ones, cover_is_prime}
use Rattle.prime_cover.proofs.primes.prime.Goals as goal

pub needed_of-requires-clause-sorted : goal.needed_of-requires-clause-sorted
needed_of-requires-clause-sorted c =
    rw c.deref.ensures.value
    (IsNonDecreasingBy-from_sort_by_key (λ (cube : Cube). cube.order) c.sort_by_key.new.self.items c.in_ok-sort_by_key.ensures.sorted (λ a r q k. search rules))

pub needed_of-requires-clause-width : goal.needed_of-requires-clause-width
needed_of-requires-clause-width c =
    let table = c.args.table.now in
    rw c.deref.ensures.value
    (one_width table.inputs table.words c.sort_by_key.new.self.items
    (All-permutation (IsPrimeCube table.inputs table.words) c.in_ok-primes.primes.items c.sort_by_key.new.self.items c.sort_by_key.ensures.permutation
    c.in_ok-primes.ensures.primes))

pub cover_of-requires : goal.cover_of-requires
cover_of-requires c =
    let table = c.args.table.now in
    let sorted = All-permutation (IsPrimeCube table.inputs table.words) c.in_ok-primes.primes.items c.sort_by_key.new.self.items c.sort_by_key.ensures.permutation c.in_ok-primes.ensures.primes in
    rw c.deref-2.ensures.value
    (one_width table.inputs table.words c.in_ok-needed.needed.items
    (kept_primes table.inputs table.words c.sort_by_key.new.self.items c.in_ok-needed.needed.items sorted (rw c.deref.ensures.value at c.in_ok-needed.ensures.kept)))

pub returns : goal.returns
returns c =
    let table = c.args.table.now in
    let primes = c.in_ok-primes.primes.items in
    let sorted = c.sort_by_key.new.self.items in
    let needed = c.in_ok-needed.needed.items in
    let kept : All (Contains sorted) needed = rw c.deref.ensures.value at c.in_ok-needed.ensures.kept in
    let are = All-permutation (IsPrimeCube table.inputs table.words) primes sorted c.sort_by_key.ensures.permutation c.in_ok-primes.ensures.primes in
    let ones = kept_ones table.words primes sorted needed c.sort_by_key.ensures.permutation c.in_ok-primes.ensures.ones (rw c.deref.ensures.value at c.in_ok-needed.ensures.rows) in
    let is = cover_is_prime table.inputs table.words needed (kept_primes table.inputs table.words sorted needed are kept) ones c.in_ok-needed.ensures.own c.in_ok-needed.ensures.ascend in
    IfOk-weaker c.cover_of.result (λ (cover : Rows). cover ≡ record { on = true; rows = map row_of c.deref-2.result.now }) (IsPrimeCover table.inputs table.words)
    (λ cover made. rw (made, c.deref-2.ensures.value) is) c.cover_of.ensures
