-- Rows that lie one after another in one list of bits.
use Rattle.std.proofs.Common.{◌≡◌, ℕ, ◌+◌, ◌-◌, ◌*◌, ◌<◌, ◌≤◌, Bool, List, [], ◌∷◌, ◌++◌, map, take, drop, length, get_or, Some, refl, sym, ◌∙◌, ap, arith}
use Rattle.std.specs.Prelude.{slice_range, slice_get, Contains, All}
use Rattle.std.specs.List.{range_with_len}
use Rattle.std.proofs.Math.Nat.{mul-le-mul_left}
use Rattle.std.proofs.lemmas.Option.{slice_get-get_or}
use Rattle.std.proofs.lemmas.List.{length-take-le, length-drop, take_all, take-append-le, drop-append-le, drop_at, ext_get_or}
use Rattle.std.proofs.lemmas.List.Elements.{All-from_get_or}
use Rattle.std.proofs.lemmas.List.FromFn.{length-range_with_len, get_or-range_with_len, length-map-range_with_len, get_or-map-range_with_len, map-range_with_len_more}
use Rattle.tm_circuit.proofs.ListLemmas.{map-agree}
use Rattle.tm_sim.specs.Grid.{rows_at}

-- the numbers of a range lie in it
pub in_range : (a n x : ℕ) → Contains (range_with_len a n) x → (a ≤ x) × (x < a + n)
in_range a n x inside =
    let within : inside.0 < n = omega (arith, inside.1, length-range_with_len a n) in
    let is : a + inside.0 ≡ x = sym (get_or-range_with_len a n inside.0 x within) ∙ inside.2 in
    (omega (arith, is), omega (arith, is))

-- functions that agree on a range map it alike
pub range-agree : {X : Type 0} (f g : ℕ → X) (a n : ℕ) → ((x : ℕ) → a ≤ x → x < a + n → f x ≡ g x)
    → map f (range_with_len a n) ≡ map g (range_with_len a n)
range-agree f g a n agree =
    map-agree f g (range_with_len a n) (λ x inside. let (low, high) = in_range a n x inside in agree x low high)

-- a list is mapped from a range where each of its elements is
pub filled : {X : Type 0} (f : ℕ → X) (a n : ℕ) (xs : List X) (d : X) → length xs ≡ n → ((k : ℕ) → k < n → get_or xs k d ≡ f (a + k))
    → xs ≡ map f (range_with_len a n)
filled f a n xs d sized each =
    ext_get_or d xs (map f (range_with_len a n)) (sized ∙ sym (length-map-range_with_len f a n)) (λ k below.
    let low : k < n = omega arith in each k low ∙ sym (get_or-map-range_with_len f a n k (a + k) d low refl))

-- the row of a step
abbrev pub row_at : ℕ → List Bool → ℕ → List Bool
row_at width bits i = slice_range bits (i * width) (i * width + width)

pub rows-length : (width steps : ℕ) (bits : List Bool) → length (rows_at width steps bits) ≡ steps
rows-length width steps bits = length-map-range_with_len (row_at width bits) 0 steps

pub rows-get : (width steps : ℕ) (bits : List Bool) (step : ℕ) → step < steps
    → slice_get (rows_at width steps bits) step ≡ Some (row_at width bits step)
rows-get width steps bits step below =
    slice_get-get_or (rows_at width steps bits) step [] (omega (arith, rows-length width steps bits))
    ∙ ap Some (get_or-map-range_with_len (row_at width bits) 0 steps step step [] below (omega arith))

-- a row lies within the bits
pub row-inside : (width steps step : ℕ) → step < steps → step * width + width ≤ width * steps
row-inside width steps step below =
    let next : step + 1 ≤ steps = omega arith in omega (arith, mul-le-mul_left width next)

pub row-length : (width steps : ℕ) (bits : List Bool) (step : ℕ) → length bits ≡ width * steps → step < steps
    → length (row_at width bits step) ≡ width
row-length width steps bits step sized below =
    let inside = row-inside width steps step below in
    let rest : length (drop (step * width) bits) ≡ length bits - step * width = length-drop (step * width) bits in
    let room : step * width + width - step * width ≤ length (drop (step * width) bits) = omega arith in
    length-take-le (step * width + width - step * width) (drop (step * width) bits) room ∙ omega arith

pub rows-even : (width steps : ℕ) (bits : List Bool) → length bits ≡ width * steps
    → All (λ row. length row ≡ width) (rows_at width steps bits)
rows-even width steps bits sized =
    All-from_get_or (λ row. length row ≡ width) (rows_at width steps bits) [] (λ i inside.
    let below : i < steps = omega (arith, inside, rows-length width steps bits) in
    ap length (get_or-map-range_with_len (row_at width bits) 0 steps i i [] below (omega arith)) ∙ row-length width steps bits i sized below)

-- bits that come after a row leave it as it is
row-stays : (width steps : ℕ) (bits more : List Bool) (step : ℕ) → length bits ≡ width * steps → step < steps
    → row_at width (bits ++ more) step ≡ row_at width bits step
row-stays width steps bits more step sized below =
    let inside = row-inside width steps step below in
    let rest : length (drop (step * width) bits) ≡ length bits - step * width = length-drop (step * width) bits in
    ap (take (step * width + width - step * width)) (drop-append-le (step * width) bits more (omega arith))
    ∙ take-append-le (step * width + width - step * width) (drop (step * width) bits) more (omega arith)

-- the last row is the bits at the end
row-last : (width steps : ℕ) (bits row : List Bool) → length bits ≡ width * steps → length row ≡ width
    → row_at width (bits ++ row) steps ≡ row
row-last width steps bits row sized wide =
    ap (take (steps * width + width - steps * width)) (drop_at bits row (steps * width) (omega arith))
    ∙ take_all (steps * width + width - steps * width) row (omega arith)

-- one row more
pub rows-more : (width steps : ℕ) (bits row : List Bool) → length bits ≡ width * steps → length row ≡ width
    → rows_at width (steps + 1) (bits ++ row) ≡ rows_at width steps bits ++ row ∷ []
rows-more width steps bits row sized wide =
    map-range_with_len_more (row_at width (bits ++ row)) 0 steps steps (omega arith)
    ∙ ap (λ rows. rows ++ row_at width (bits ++ row) steps ∷ []) (range-agree (row_at width (bits ++ row)) (row_at width bits) 0 steps (λ i low high. row-stays width steps bits row i sized (omega arith)))
    ∙ ap (λ last. rows_at width steps bits ++ last ∷ []) (row-last width steps bits row sized wide)
