-- The words of each place, compared on all rows.
use Rattle.std.proofs.Common.{◌≡◌, ℕ, eqb, sym, subst, arith}
use Rattle.std.specs.Int.{bit_at}
use Rattle.tm_cone.specs.Values.{HaveBits}
use Rattle.tm_cone.proofs.WordLemmas.{place_0, place_1, place_2, place_3, place_4, place_5, place_6, place_7}
use Rattle.tm_cone.proofs.words.place_words.Goals as goal

pub returns-in-0 : goal.returns-in-0
returns-in-0 c = subst (λ (p : ℕ). HaveBits _ (λ row. eqb (bit_at row p) 1)) (sym c.in-0.is) place_0

pub returns-in-1 : goal.returns-in-1
returns-in-1 c = subst (λ (p : ℕ). HaveBits _ (λ row. eqb (bit_at row p) 1)) (sym c.in-1.is) place_1

pub returns-in-2 : goal.returns-in-2
returns-in-2 c = subst (λ (p : ℕ). HaveBits _ (λ row. eqb (bit_at row p) 1)) (sym c.in-2.is) place_2

pub returns-in-3 : goal.returns-in-3
returns-in-3 c = subst (λ (p : ℕ). HaveBits _ (λ row. eqb (bit_at row p) 1)) (sym c.in-3.is) place_3

pub returns-in-4 : goal.returns-in-4
returns-in-4 c = subst (λ (p : ℕ). HaveBits _ (λ row. eqb (bit_at row p) 1)) (sym c.in-4.is) place_4

pub returns-in-5 : goal.returns-in-5
returns-in-5 c = subst (λ (p : ℕ). HaveBits _ (λ row. eqb (bit_at row p) 1)) (sym c.in-5.is) place_5

pub returns-in-6 : goal.returns-in-6
returns-in-6 c = subst (λ (p : ℕ). HaveBits _ (λ row. eqb (bit_at row p) 1)) (sym c.in-6.is) place_6

pub returns-in_default : goal.returns-in_default
returns-in_default c = let e : 7 ≡ c.args.place = omega arith in subst (λ (p : ℕ). HaveBits _ (λ row. eqb (bit_at row p) 1)) e place_7
