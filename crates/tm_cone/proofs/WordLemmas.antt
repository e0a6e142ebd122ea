-- Bits of four lanes, one lane after another.
use Rattle.std.proofs.Common.{◌≡◌, ℕ, zero, suc, ◌-◌, ◌/◌, ◌%◌, ◌<◌, Bool, true, false, not, ◌&&◌, ◌||◌, eqb, min, max, bit_and, bit_or, Fits, w64, List, [], ◌∷◌, map, length, get_or, refl, sym, ap, subst, ◌∙◌, arith, inl, inr}
use Rattle.std.specs.Int.{bit_at, bit_not}
use Rattle.std.proofs.lemmas.Nat.Bits.{bit_at_and, bit_at_or, bit_at_not, bit_at-lt}
use Rattle.std.specs.Simd.Lanes.{Each1, zip2}
use Rattle.std.proofs.lemmas.Simd.{get_or-zip2, Each1-get_or}
use Rattle.std.proofs.lemmas.List.{get_or-map}
use Rattle.std.proofs.lemmas.Bool.{cases_lt}
use Rattle.tm_bits.specs.Tables.{bit_of}
use Rattle.tm_cone.specs.Values.{HaveBits}

and_bits : (m n : ℕ) → m < 2 → n < 2 → eqb (min m n) 1 ≡ (eqb m 1 && eqb n 1)
and_bits zero zero m n = refl
and_bits zero (suc zero) m n = refl
and_bits (suc zero) zero m n = refl
and_bits (suc zero) (suc zero) m n = refl
and_bits (suc (suc m)) n h k = absurd (omega arith)
and_bits zero (suc (suc n)) h k = absurd (omega arith)
and_bits (suc zero) (suc (suc n)) h k = absurd (omega arith)

or_bits : (m n : ℕ) → m < 2 → n < 2 → eqb (max m n) 1 ≡ (eqb m 1 || eqb n 1)
or_bits zero zero m n = refl
or_bits zero (suc zero) m n = refl
or_bits (suc zero) zero m n = refl
or_bits (suc zero) (suc zero) m n = refl
or_bits (suc (suc m)) n h k = absurd (omega arith)
or_bits zero (suc (suc n)) h k = absurd (omega arith)
or_bits (suc zero) (suc (suc n)) h k = absurd (omega arith)

not_bit : (m : ℕ) → m < 2 → eqb (1 - m) 1 ≡ not (eqb m 1)
not_bit zero h = refl
not_bit (suc zero) h = refl
not_bit (suc (suc m)) h = absurd (omega arith)

-- Lanes that are worked out of two vectors lane by lane have on each row what the bits of both come to.
zip_bits : (f : ℕ → ℕ → ℕ) (g : Bool → Bool → Bool) (one other : List ℕ)
    → ((x y p : ℕ) → eqb (bit_at (f x y) p) 1 ≡ g (eqb (bit_at x p) 1) (eqb (bit_at y p) 1))
    → length one ≡ 4 → length other ≡ 4 → HaveBits (zip2 f one other) (λ row. g (bit_of one row) (bit_of other row))
zip_bits f g one other each long other_long = record {
  each = λ row low.
      let lane = row / 64 in
      let p = row % 64 in
      ap (λ w. eqb (bit_at w p) 1) (get_or-zip2 f one other lane 0 0 0 (omega arith) (omega arith)) ∙ each (get_or one lane 0) (get_or other lane 0) p;
}

pub lanes_and : (one other : List ℕ) → length one ≡ 4 → length other ≡ 4 → HaveBits (zip2 bit_and one other) (λ row. bit_of one row && bit_of other row)
lanes_and one other =
    zip_bits bit_and (λ a b. a && b) one other
    (λ x y p. ap (λ n. eqb n 1) (bit_at_and x y p) ∙ and_bits (bit_at x p) (bit_at y p) (bit_at-lt x p) (bit_at-lt y p))

pub lanes_or : (one other : List ℕ) → length one ≡ 4 → length other ≡ 4 → HaveBits (zip2 bit_or one other) (λ row. bit_of one row || bit_of other row)
lanes_or one other =
    zip_bits bit_or (λ a b. a || b) one other
    (λ x y p. ap (λ n. eqb n 1) (bit_at_or x y p) ∙ or_bits (bit_at x p) (bit_at y p) (bit_at-lt x p) (bit_at-lt y p))

pub lanes_not : (lanes : List ℕ) → length lanes ≡ 4 → Each1 (Fits w64) lanes → HaveBits (map (bit_not w64) lanes) (λ row. not (bit_of lanes row))
lanes_not lanes long fit = record {
  each = λ row low.
      let lane = row / 64 in
      let p = row % 64 in
      let x = get_or lanes lane 0 in
      let fits = Each1-get_or (Fits w64) lanes lane 0 (omega arith) fit in
      ap (λ w. eqb (bit_at w p) 1) (get_or-map (bit_not w64) lanes lane 0 0 (omega arith)) ∙ ap (λ n. eqb n 1) (bit_at_not w64 x p fits.fits (omega arith))
      ∙ not_bit (bit_at x p) (bit_at-lt x p);
}

same_bit : Bool → Bool → Bool
same_bit true b = b
same_bit false b = not b

same_bit_is : (a b : Bool) → same_bit a b ≡ true → a ≡ b
unfolding same_bit
same_bit_is true true h = refl
same_bit_is true false h = sym h
same_bit_is false true h = h
same_bit_is false false h = refl

-- Whether the words have the bits of a function on the first rows, so many.
agree_below : ℕ → List ℕ → (ℕ → Bool) → Bool
unfolding same_bit
agree_below zero words bit = true
agree_below (suc n) words bit = same_bit (bit_of words n) (bit n) && agree_below n words bit

and_left : (a b : Bool) → (a && b) ≡ true → a ≡ true
and_left true b h = refl
and_left false b h = h

and_right : (a b : Bool) → (a && b) ≡ true → b ≡ true
and_right true b h = h
and_right false b h = cc

agree_at : (n : ℕ) (words : List ℕ) (bit : ℕ → Bool) → agree_below n words bit ≡ true → (row : ℕ) → row < n → bit_of words row ≡ bit row
unfolding agree_below
agree_at zero words bit h row low = absurd (omega arith)
agree_at (suc n) words bit h row low =
    elim (cases_lt row n) [
      | inl lower ↦ agree_at n words bit (and_right (same_bit (bit_of words n) (bit n)) (agree_below n words bit) h) row lower
      | inr high ↦
          let e : n ≡ row = omega arith in
          subst (λ r. bit_of words r ≡ bit r) e (same_bit_is (bit_of words n) (bit n) (and_left (same_bit (bit_of words n) (bit n)) (agree_below n words bit) h))
    ]

agree : (words : List ℕ) (bit : ℕ → Bool) → agree_below 256 words bit ≡ true → HaveBits words bit
agree words bit h = record { each = agree_at 256 words bit h }

-- The words of each place of a row's number.
pub place_0 : HaveBits (12297829382473034410 ∷ 12297829382473034410 ∷ 12297829382473034410 ∷ 12297829382473034410 ∷ []) (λ row. eqb (bit_at row 0) 1)
unfolding agree_below same_bit
place_0 = agree _ _ refl

pub place_1 : HaveBits (14757395258967641292 ∷ 14757395258967641292 ∷ 14757395258967641292 ∷ 14757395258967641292 ∷ []) (λ row. eqb (bit_at row 1) 1)
unfolding agree_below same_bit
place_1 = agree _ _ refl

pub place_2 : HaveBits (17361641481138401520 ∷ 17361641481138401520 ∷ 17361641481138401520 ∷ 17361641481138401520 ∷ []) (λ row. eqb (bit_at row 2) 1)
unfolding agree_below same_bit
place_2 = agree _ _ refl

pub place_3 : HaveBits (18374966859414961920 ∷ 18374966859414961920 ∷ 18374966859414961920 ∷ 18374966859414961920 ∷ []) (λ row. eqb (bit_at row 3) 1)
unfolding agree_below same_bit
place_3 = agree _ _ refl

pub place_4 : HaveBits (18446462603027742720 ∷ 18446462603027742720 ∷ 18446462603027742720 ∷ 18446462603027742720 ∷ []) (λ row. eqb (bit_at row 4) 1)
unfolding agree_below same_bit
place_4 = agree _ _ refl

pub place_5 : HaveBits (18446744069414584320 ∷ 18446744069414584320 ∷ 18446744069414584320 ∷ 18446744069414584320 ∷ []) (λ row. eqb (bit_at row 5) 1)
unfolding agree_below same_bit
place_5 = agree _ _ refl

pub place_6 : HaveBits (0 ∷ 18446744073709551615 ∷ 0 ∷ 18446744073709551615 ∷ []) (λ row. eqb (bit_at row 6) 1)
unfolding agree_below same_bit
place_6 = agree _ _ refl

pub place_7 : HaveBits (0 ∷ 0 ∷ 18446744073709551615 ∷ 18446744073709551615 ∷ []) (λ row. eqb (bit_at row 7) 1)
unfolding agree_below same_bit
place_7 = agree _ _ refl

-- All rows have the bit 1, and none has it.
pub ones : HaveBits (18446744073709551615 ∷ 18446744073709551615 ∷ 18446744073709551615 ∷ 18446744073709551615 ∷ []) (λ row. true)
unfolding agree_below same_bit
ones = agree _ _ refl

pub none : HaveBits (0 ∷ 0 ∷ 0 ∷ 0 ∷ []) (λ row. false)
unfolding agree_below same_bit
none = agree _ _ refl
