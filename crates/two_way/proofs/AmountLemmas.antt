-- Amounts and the numbers that stand for them are in the same order, and one step less is one step less.
use Rattle.std.proofs.Common.{◌≡◌, ℕ, suc, ◌+◌, ◌-◌, ◌<◌, ◌≤◌, true, false, ℤ, pos, negsuc, neg_ℤ, ◌-ℤ◌, ◌≤ℤ◌, ◌<ℤ◌, arith}
use Rattle.std.specs.Prelude.{int_lt, int_le, nat_lt, nat_le, nat_eq}
use Rattle.std.specs.Ordering.{int_eq}
use Rattle.std.proofs.lemmas.Int.{ints}
use Rattle.two_way.specs.Nodes.{floor}
use Rattle.two_way.specs.Amounts.{amount}

pub amount_floor : (back : ℕ) → amount back 0 ≡ floor back
amount_floor back = omega (arith, ints)

pub amount_less : (back n : ℕ) → amount back (suc n) -ℤ pos 1 ≡ amount back n
amount_less back n = omega (arith, ints)

pub same_amount : (back m n : ℕ) → amount back m ≡ amount back n → m ≡ n
same_amount back m n is = omega (arith, ints, is)

pub amount_le : (back m n : ℕ) → m ≤ n → amount back m ≤ℤ amount back n
amount_le back m n h = omega (arith, ints, h)

pub amount_le_up : (back m n : ℕ) → amount back m ≤ℤ amount back n → m ≤ n
amount_le_up back m n h = omega (arith, ints, h)

pub amount_lt : (back m n : ℕ) → m < n → amount back m <ℤ amount back n
amount_lt back m n h = omega (arith, ints, h)

pub amount_lt_up : (back m n : ℕ) → amount back m <ℤ amount back n → m < n
amount_lt_up back m n h = omega (arith, ints, h)

pub floor_le : (back n : ℕ) → floor back ≤ℤ amount back n
floor_le back n = omega (arith, ints)

pub amount_most : (back d n : ℕ) → n ≤ d + back → amount back n ≤ℤ pos d
amount_most back d n h = omega (arith, ints, h)

pub amount_most_up : (back d n : ℕ) → amount back n ≤ℤ pos d → n ≤ d + back
amount_most_up back d n h = omega (arith, ints, h)

pub need_le : (back m n : ℕ) → back - m ≤ n → neg_ℤ (pos m) ≤ℤ amount back n
need_le back m n h = omega (arith, ints, h)

pub need_le_up : (back m n : ℕ) → neg_ℤ (pos m) ≤ℤ amount back n → back - m ≤ n
need_le_up back m n h = omega (arith, ints, h)

pub need_lt : (back m n : ℕ) → n < back - m → amount back n <ℤ neg_ℤ (pos m)
need_lt back m n h = omega (arith, ints, h)

pub greatest_amount : (back d : ℕ) → amount back (d + back) ≡ pos d
greatest_amount back d = omega (arith, ints)

-- An amount that is not less than the least one has its number.

pub amount_raised : (back : ℕ) (z : ℤ) → floor back ≤ℤ z → (n : ℕ) × (z ≡ amount back n)
amount_raised back (pos n) h = (n + back, omega (arith, ints))
amount_raised back (negsuc n) h = (back - suc n, omega (arith, ints, h))

-- ---- tests

pub amount_tests_lt : (back m n : ℕ) → int_lt (amount back m) (amount back n) ≡ nat_lt m n
amount_tests_lt back m n = grind (arith, ints)

pub above_floor : (back n : ℕ) → int_lt (floor back) (amount back (suc n)) ≡ true
above_floor back n = grind (arith, ints)

pub at_floor : (back : ℕ) → int_lt (floor back) (amount back 0) ≡ false
at_floor back = grind (arith, ints)

pub not_ahead : (back n : ℕ) → int_le (amount back n) (pos 0) ≡ nat_le n back
not_ahead back n = grind (arith, ints)

pub amount_tests_eq : (back m n : ℕ) → int_eq (amount back m) (amount back n) ≡ nat_eq m n
amount_tests_eq back m n = grind (arith, ints)

pub is_floor : (back n : ℕ) → int_eq (amount back n) (floor back) ≡ nat_eq n 0
is_floor back n = grind (arith, ints)
