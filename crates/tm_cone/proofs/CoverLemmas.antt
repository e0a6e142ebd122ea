-- How the words of a row and of a cover grow, a place and a row at a time.
use Rattle.std.proofs.Common.{◌≡◌, ℕ, ◌+◌, ◌<◌, ◌⊎◌, inl, inr, Bool, true, false, not, cond, ◌&&◌, ◌||◌, List, [], ◌∷◌, ◌++◌, length, get_or, take, refl, sym, ap, ◌∙◌, arith}
use Rattle.std.specs.List.{list_any}
use Rattle.std.proofs.lemmas.List.{take_more, take_all}
use Rattle.tm_bits.specs.declared.cover.Place.{Place}
use Rattle.tm_bits.specs.Rows.{Rows, agrees_at, row_agrees, holds}
use Rattle.tm_bits.specs.Tables.{bit_of}
use Rattle.tm_cone.specs.Values.{HaveBits, bits_in}

-- The words so far and what is left of a row and of its pins come to the whole row.
pub record AgreeSoFar (places : List Place) (pins : List (List ℕ)) (left : List Place) (left_pins : List (List ℕ)) (all : List ℕ) : Type 0 where
  pub each : (row : ℕ) → row < 256 → (bit_of all row && row_agrees left (bits_in row left_pins)) ≡ row_agrees places (bits_in row pins)

and_true : (b : Bool) → (b && true) ≡ b
and_true true = refl
and_true false = refl

and_assoc : (a b c : Bool) → ((a && b) && c) ≡ (a && (b && c))
and_assoc true b c = refl
and_assoc false b c = refl

or_false : (b : Bool) → (b || false) ≡ b
or_false true = refl
or_false false = refl

or_assoc : (a b c : Bool) → ((a || b) || c) ≡ (a || (b || c))
or_assoc true b c = refl
or_assoc false b c = refl

pub agree_starts : (places : List Place) (pins : List (List ℕ)) (left : List Place) (left_pins : List (List ℕ)) (all : List ℕ) → left ≡ places → left_pins ≡ pins
    → HaveBits all (λ row. true) → AgreeSoFar places pins left left_pins all
agree_starts places pins left left_pins all all_left all_pins ones = record {
  each = λ row low.
      ap (λ b. b && row_agrees left (bits_in row left_pins)) (ones.each row low)
      ∙ ap (λ ps. row_agrees ps (bits_in row left_pins)) all_left ∙ ap (λ ws. row_agrees places (bits_in row ws)) all_pins;
}

pub agree_more : (places : List Place) (pins : List (List ℕ)) (left rest : List Place) (left_pins rest_pins : List (List ℕ)) (p : Place) (w all more : List ℕ)
    → AgreeSoFar places pins left left_pins all → left ≡ p ∷ rest → left_pins ≡ w ∷ rest_pins
    → HaveBits more (λ row. bit_of all row && agrees_at p (bit_of w row)) → AgreeSoFar places pins rest rest_pins more
agree_more places pins left rest left_pins rest_pins p w all more so_far next next_pin has = record {
  each = λ row low.
      ap (λ b. b && row_agrees rest (bits_in row rest_pins)) (has.each row low)
      ∙ and_assoc (bit_of all row) (agrees_at p (bit_of w row)) (row_agrees rest (bits_in row rest_pins))
      ∙ ap (λ ws. bit_of all row && row_agrees (p ∷ rest) (bits_in row ws)) (sym next_pin)
      ∙ ap (λ ps. bit_of all row && row_agrees ps (bits_in row left_pins)) (sym next)
      ∙ so_far.each row low;
}

none_left : (left : List Place) (bits : List Bool) → (left ≡ []) ⊎ (bits ≡ []) → row_agrees left bits ≡ true
none_left [] bits h = refl
none_left (p ∷ left) [] h = refl
none_left (p ∷ left) (b ∷ bits) (inl h) = cc
none_left (p ∷ left) (b ∷ bits) (inr h) = cc

pub agree_ends : (places : List Place) (pins : List (List ℕ)) (left : List Place) (left_pins : List (List ℕ)) (all : List ℕ)
    → AgreeSoFar places pins left left_pins all → (left ≡ []) ⊎ (left_pins ≡ []) → HaveBits all (λ row. row_agrees places (bits_in row pins))
agree_ends places pins left left_pins all so_far ended = record {
  each = λ row low.
      sym (and_true (bit_of all row))
      ∙ ap (λ b. bit_of all row && b) (sym (none_left left (bits_in row left_pins) (elim ended [ inl e ↦ inl e | inr e ↦ inr (ap (bits_in row) e) ])))
      ∙ so_far.each row low;
}

list_any-push : {A : Type 0} (p : A → Bool) (xs : List A) (x : A) → list_any p (xs ++ x ∷ []) ≡ (list_any p xs || p x)
list_any-push p [] x = or_false (p x)
list_any-push p (y ∷ xs) x = ap (λ b. p y || b) (list_any-push p xs x) ∙ sym (or_assoc (p y) (list_any p xs) (p x))

-- Some row of the first ones agrees, so many.
pub record SomeSoFar (rows : List (List Place)) (pins : List (List ℕ)) (count : ℕ) (some : List ℕ) : Type 0 where
  pub each : (row : ℕ) → row < 256 → bit_of some row ≡ list_any (λ places. row_agrees places (bits_in row pins)) (take count rows)

pub some_starts : (rows : List (List Place)) (pins : List (List ℕ)) (some : List ℕ) → HaveBits some (λ row. false) → SomeSoFar rows pins 0 some
some_starts rows pins some none = record { each = λ row low. none.each row low }

pub some_more : (rows : List (List Place)) (pins : List (List ℕ)) (i : ℕ) (places : List Place) (some this more : List ℕ) → SomeSoFar rows pins i some
    → i < length rows → places ≡ get_or rows i places → HaveBits this (λ row. row_agrees places (bits_in row pins))
    → HaveBits more (λ row. bit_of some row || bit_of this row) → SomeSoFar rows pins (i + 1) more
some_more rows pins i places some this more so_far within is here has = record {
  each = λ row low.
      let agrees = λ (ps : List Place). row_agrees ps (bits_in row pins) in
      let one_more : take (i + 1) rows ≡ take i rows ++ places ∷ [] = take_more rows i places within ∙ ap (λ ps. take i rows ++ ps ∷ []) (sym is) in
      has.each row low ∙ ap (λ b. b || bit_of this row) (so_far.each row low) ∙ ap (λ b. list_any agrees (take i rows) || b) (here.each row low)
      ∙ sym (list_any-push agrees (take i rows) places) ∙ ap (λ ps. list_any agrees ps) (sym one_more);
}

-- With all rows an on cover holds where some row agrees, and an off cover elsewhere.
pub some_is_on : (cover : Rows) (pins : List (List ℕ)) (i : ℕ) (some : List ℕ) → SomeSoFar cover.rows pins i some → length cover.rows ≡ i → cover.on ≡ true
    → HaveBits some (λ row. holds cover (bits_in row pins))
some_is_on cover pins i some so_far all on = record {
  each = λ row low.
      let agrees = λ (ps : List Place). row_agrees ps (bits_in row pins) in
      so_far.each row low ∙ ap (λ ps. list_any agrees ps) (take_all i cover.rows (omega arith))
      ∙ sym (ap (λ b. cond b (list_any agrees cover.rows) (not (list_any agrees cover.rows))) on);
}

pub some_is_off : (cover : Rows) (pins : List (List ℕ)) (i : ℕ) (some others : List ℕ) → SomeSoFar cover.rows pins i some → length cover.rows ≡ i → cover.on ≡ false
    → HaveBits others (λ row. not (bit_of some row)) → HaveBits others (λ row. holds cover (bits_in row pins))
some_is_off cover pins i some others so_far all off has = record {
  each = λ row low.
      let agrees = λ (ps : List Place). row_agrees ps (bits_in row pins) in
      has.each row low ∙ ap not (so_far.each row low ∙ ap (λ ps. list_any agrees ps) (take_all i cover.rows (omega arith)))
      ∙ sym (ap (λ b. cond b (list_any agrees cover.rows) (not (list_any agrees cover.rows))) off);
}
