-- A row's number and the bits that it gives to the inputs determine each other.
use Rattle.std.proofs.Common.{◌≡◌, ℕ, zero, suc, ◌+◌, ◌-◌, ◌*◌, ◌/◌, ◌%◌, ◌^◌, ◌<◌, ◌≤◌, Bool, true, false, cond, eqb, List, [], ◌∷◌, ◌++◌, length, get_or, take, set, refl, sym, ap, ◌∙◌, arith}
use Rattle.std.specs.Int.{bit_at}
use Rattle.std.proofs.lemmas.Nat.{mod-pow-add, pow-add}
use Rattle.std.proofs.lemmas.Nat.Bits.{bit_at-lt, bit_at_cat_low, bit_at_cat_high, bit_at_above}
use Rattle.std.proofs.lemmas.List.{take_more, take_more_set, length_push, length-take}
use Rattle.std.proofs.Math.Pow.{pow_mono}
use Rattle.std.proofs.Math.Nat.{mod-eq_of_lt}
use Rattle.tm_bits.specs.Tables.{bit_of, bits_of, row_number, IsTableOf, AreValuesAt}

-- A row gives each input one bit.
pub length-bits_of : (inputs row : ℕ) → length (bits_of inputs row) ≡ inputs
length-bits_of zero row = refl
length-bits_of (suc inputs) row = ap suc (length-bits_of inputs row)

-- The bit that a row gives to one input.
pub get_or-bits_of : (inputs row place : ℕ) (d : Bool) → place < inputs → get_or (bits_of inputs row) place d ≡ eqb (bit_at row (inputs - 1 - place)) 1
get_or-bits_of zero row place d inside = absurd (omega arith)
get_or-bits_of (suc inputs) row zero d inside =
    let e : suc inputs - 1 - 0 ≡ inputs = omega arith in rw e
get_or-bits_of (suc inputs) row (suc place) d inside =
    let e : suc inputs - 1 - suc place ≡ inputs - 1 - place = omega arith in
    rw e (get_or-bits_of inputs row place d (omega arith))

-- A list of bits names a row of so many inputs.
pub row_number-lt : (bits : List Bool) → row_number bits < 2 ^ length bits
row_number-lt [] = omega arith
row_number-lt (true ∷ bits) = grind (arith, row_number-lt bits)
row_number-lt (false ∷ bits) = grind (arith, row_number-lt bits)

-- A bit's weight.
weight : (bit place : ℕ) → bit < 2 → cond (eqb bit 1) place 0 ≡ bit * place
weight zero place small = omega arith
weight (suc zero) place small = omega arith
weight (suc (suc bit)) place small = absurd (omega arith)

-- The number of the bits that a row gives is the row, as far as the inputs go.
row_number-bits_of_low : (inputs row : ℕ) → row_number (bits_of inputs row) ≡ row % 2 ^ inputs
row_number-bits_of_low zero row = omega arith
row_number-bits_of_low (suc inputs) row =
    let rest = row_number-bits_of_low inputs row in
    let long = length-bits_of inputs row in
    let one : 1 + inputs ≡ suc inputs = omega arith in
    let split : row % 2 ^ (1 + inputs) ≡ row / 2 ^ inputs % 2 ^ 1 * 2 ^ inputs + row % 2 ^ inputs = mod-pow-add row 1 inputs in
    let top = weight (bit_at row inputs) (2 ^ inputs) (bit_at-lt row inputs) in
    rw (long, rest, top, ← one, split) refl

-- The number of the bits that a row of the table gives is the row.
pub row_number-bits_of : (inputs row : ℕ) → row < 2 ^ inputs → row_number (bits_of inputs row) ≡ row
row_number-bits_of inputs row below = row_number-bits_of_low inputs row ∙ mod-eq_of_lt below

-- Numbers with the same low bits give their inputs the same bits.
bits_of-agree : (inputs row other : ℕ) → ((i : ℕ) → i < inputs → bit_at row i ≡ bit_at other i) → bits_of inputs row ≡ bits_of inputs other
bits_of-agree zero row other agree = refl
bits_of-agree (suc inputs) row other agree =
    let top = agree inputs (omega arith) in
    let rest = bits_of-agree inputs row other (λ i below. agree i (omega arith)) in
    cc

-- The row of some bits gives these bits.
pub bits_of-row_number : (bits : List Bool) → bits_of (length bits) (row_number bits) ≡ bits
bits_of-row_number [] = refl
bits_of-row_number (true ∷ bits) =
    let one : 2 ^ length bits + row_number bits ≡ 1 * 2 ^ length bits + row_number bits = omega arith in
    let top = bit_at_cat_high 1 (length bits) (row_number bits) (length bits) (row_number-lt bits) (omega arith) in
    let low = bits_of-agree (length bits) (1 * 2 ^ length bits + row_number bits) (row_number bits) (λ i below. bit_at_cat_low 1 (length bits) (row_number bits) i below) in
    let none : length bits - length bits ≡ 0 = omega arith in
    rw (one, top, none, low, bits_of-row_number bits) refl
bits_of-row_number (false ∷ bits) =
    let one : 0 + row_number bits ≡ row_number bits = omega arith in
    let top = bit_at_above (row_number bits) (length bits) (length bits) (row_number-lt bits) (omega arith) in
    rw (one, top, bits_of-row_number bits) refl

-- One more bit of a row.
pub row_bits_more : (inputs row place : ℕ) (bits : List Bool) (bit : Bool) → place < inputs → place < length bits → take place bits ≡ take place (bits_of inputs row) → bit ≡ eqb (bit_at row (inputs - 1 - place)) 1 → take (place + 1) (set bits place bit) ≡ take (place + 1) (bits_of inputs row)
row_bits_more inputs row place bits bit inside room before is =
    let long : place < length (bits_of inputs row) = rw length-bits_of inside in
    let written = take_more_set bits place bit room in
    let wanted = take_more (bits_of inputs row) place false long in
    let same = get_or-bits_of inputs row place false inside in
    cc

-- One more bit makes the bits before it weigh twice as much.
row_number-push : (bits : List Bool) (bit : Bool) → row_number (bits ++ bit ∷ []) ≡ 2 * row_number bits + cond bit 1 0
row_number-push [] true = refl
row_number-push [] false = refl
row_number-push (true ∷ bits) bit =
    rw (length_push bits bit, row_number-push bits bit, pow-add 2 (length bits) 1) (omega arith)
row_number-push (false ∷ bits) bit = rw (row_number-push bits bit) (omega arith)

pub row_number_more : (bits : List Bool) (i : ℕ) → i < length bits → row_number (take (i + 1) bits) ≡ 2 * row_number (take i bits) + cond (get_or bits i false) 1 0
row_number_more bits i inside = rw (take_more bits i false inside) (row_number-push (take i bits) (get_or bits i false))

-- The number of fewer than 8 bits.
pub row_number_fits : (bits : List Bool) (i : ℕ) → i < 8 → row_number (take i bits) < 128
row_number_fits bits i few =
    let below = row_number-lt (take i bits) in
    let long : length (take i bits) ≤ 7 = rw length-take (omega arith) in
    let fits : 2 ^ length (take i bits) ≤ 2 ^ 7 = pow_mono long in
    omega arith

-- The values of a table at bits, from those on its rows.
pub values_at_bits : (function : List Bool → Bool) (inputs : ℕ) (words : List ℕ) → IsTableOf function inputs words → AreValuesAt function inputs words
values_at_bits function inputs words values bits long =
    let below : row_number bits < 2 ^ inputs = rw (← long) (row_number-lt bits) in
    let back : bits_of inputs (row_number bits) ≡ bits = rw (← long) (bits_of-row_number bits) in
    sym (values (row_number bits) below ∙ ap function back)

-- And on its rows, from those at bits.
pub values_on_rows : (function : List Bool → Bool) (inputs : ℕ) (words : List ℕ) → AreValuesAt function inputs words → IsTableOf function inputs words
values_on_rows function inputs words values row below =
    let here = values (bits_of inputs row) (length-bits_of inputs row) in
    ap (bit_of words) (sym (row_number-bits_of inputs row below)) ∙ sym here
