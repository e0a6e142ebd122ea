-- A circuit has one period, one first longest chain and one slack for each gate, and so one report.
use Rattle.std.proofs.Common.{◌≡◌, ℕ, inl, inr, true, false, Bool, List, [], ◌∷◌, length, refl, sym, ◌∙◌, ap, subst, arith}
use Rattle.std.specs.Prelude.{Contains, filter}
use Rattle.std.specs.List.{range_with_len}
use Rattle.tm_circuit.specs.Plain.{Plain, Drive, drive_in, is_gate}
use Rattle.tm_circuit.specs.Chain.{IsGate, IsPeriod}
use Rattle.tm_circuit.proofs.ListLemmas.{contains-cases, contains-none, map-agree}
use Rattle.tm_report.specs.Report.{IsNotAfter, IsFirstLongest, IsSlack, IsReport, gates_of, slack_line, lines_of}

-- what a filter keeps passes its test
kept_passes : (test : ℕ → Bool) (xs : List ℕ) (x : ℕ) → Contains (filter test xs) x → test x ≡ true
kept_passes test [] x has = absurd (contains-none x has)
kept_passes test (y ∷ xs) x has = by_test (test y) refl (λ later. kept_passes test xs x later) has
  where
    by_test : (b : Bool) → test y ≡ b → (Contains (filter test xs) x → test x ≡ true) → Contains (filter test (y ∷ xs)) x → test x ≡ true
    by_test true is rest has =
        let kept : filter test (y ∷ xs) ≡ y ∷ filter test xs = rw is refl in
        elim (contains-cases y (filter test xs) x (subst (λ ys. Contains ys x) kept has)) [
          | inl same ↦ subst (λ z. test z ≡ true) same is
          | inr later ↦ rest later
        ]
    by_test false is rest has =
        let dropped : filter test (y ∷ xs) ≡ filter test xs = rw is refl in
        rest (subst (λ ys. Contains ys x) dropped has)

-- the gates of a circuit are gates
gates_are : (drives : List Drive) (g : ℕ) → Contains (gates_of drives) g → IsGate drives g
gates_are drives g has = kept_passes (λ s. is_gate (drive_in drives s)) (range_with_len 0 (length drives)) g has

one_period : (c : Plain) (p q : ℕ) → IsPeriod c p → IsPeriod c q → p ≡ q
one_period c p q a b = omega (arith, a.greatest b.reached.0 b.reached.1, b.greatest a.reached.0 a.reached.1, a.reached.2, b.reached.2)

-- of two lists as long, neither of which comes after the other, each is the other
not_after_both : (xs ys : List ℕ) → length xs ≡ length ys → IsNotAfter xs ys → IsNotAfter ys xs → xs ≡ ys
not_after_both [] [] long a b = refl
not_after_both [] (y ∷ ys) long a b = absurd (omega arith)
not_after_both (x ∷ xs) [] long a b = absurd (omega arith)
not_after_both (x ∷ xs) (y ∷ ys) long (inl a) (inl b) = absurd (omega arith)
not_after_both (x ∷ xs) (y ∷ ys) long (inl a) (inr b) = absurd (omega (arith, b.0))
not_after_both (x ∷ xs) (y ∷ ys) long (inr a) (inl b) = absurd (omega (arith, a.0))
not_after_both (x ∷ xs) (y ∷ ys) long (inr a) (inr b) =
    let rest = not_after_both xs ys (omega arith) a.1 b.1 in
    let first = a.0 in
    cc

one_chain : (c : Plain) (xs ys : List ℕ) → IsFirstLongest c xs → IsFirstLongest c ys → xs ≡ ys
one_chain c xs ys a b =
    not_after_both xs ys (omega (arith, a.longest.greatest ys b.longest.linked, b.longest.greatest xs a.longest.linked)) (a.least ys b.longest) (b.least xs a.longest)

one_slack : (c : Plain) (p g s t : ℕ) → IsSlack c p g s → IsSlack c p g t → s ≡ t
one_slack c p g s t a b =
    omega (arith, a.greatest b.reached.0 b.reached.1 b.reached.2, b.greatest a.reached.0 a.reached.1 a.reached.2, a.reached.3, b.reached.3)

-- a circuit has at most one report
pub report_is_one : (c : Plain) (a b : List (List ℕ)) → IsReport c a → IsReport c b → a ≡ b
report_is_one c a b ra rb =
    let periods : ra.period ≡ rb.period = one_period c ra.period rb.period ra.is_period rb.is_period in
    let chains : ra.chain ≡ rb.chain = one_chain c ra.chain rb.chain ra.is_first rb.is_first in
    let slacks = map-agree (λ g. slack_line c g (ra.slack g)) (λ g. slack_line c g (rb.slack g)) (gates_of c.drives) (λ g has.
    let is = gates_are c.drives g has in
    let other : IsSlack c ra.period g (rb.slack g) = subst (λ p. IsSlack c p g (rb.slack g)) (sym periods) (rb.are_slacks g is) in
    ap (λ s. slack_line c g s) (one_slack c ra.period g (ra.slack g) (rb.slack g) (ra.are_slacks g is) other)) in
    let tails : lines_of c ra.period ra.chain ra.slack ≡ lines_of c rb.period rb.chain rb.slack =
    cc in
    ra.spelled ∙ tails ∙ sym rb.spelled
