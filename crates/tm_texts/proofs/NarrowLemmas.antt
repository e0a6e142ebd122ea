-- A circuit of narrow gates keeps its drives where it is split.
use Rattle.std.proofs.Common.{◌≡◌, ℕ, suc, ◌+◌, ◌-◌, ◌≤◌, false, cond, ltb, List, [], ◌∷◌, ◌++◌, map, length, take, refl, ◌∙◌, ap, arith}
use Rattle.std.specs.Prelude.{sum_by}
use Rattle.std.proofs.lemmas.Bool.{le-ltb}
use Rattle.std.proofs.lemmas.List.Sums.{sum_by-cons, sum_by-take-le}
use Rattle.tm_circuit.specs.Plain.{Plain, Drive, input, latch, gate, pins_of, widest}
use Rattle.tm_split.specs.Pieces.{pieces_of}
use Rattle.tm_split.specs.Subject.{extra, first_number, number, gates_of, drives_for, in_places, drives_at, subject_of}

-- no gate is made of a narrow one
extra_none : (k : ℕ) (d : Drive) → length (pins_of d) ≤ k → extra k d ≡ 0
extra_none k input narrow = refl
extra_none k (latch next init) narrow = refl
extra_none k (gate pins cover) narrow = ap (λ b. cond b (length (pieces_of pins cover) - 1) 0) (le-ltb k (length pins) narrow)

extras_none : (k : ℕ) (ds : List Drive) → widest ds ≤ k → sum_by (extra k) ds ≡ 0
extras_none k [] narrow = refl
extras_none k (d ∷ ds) narrow =
    let here : extra k d ≡ 0 = extra_none k d (omega (arith, narrow)) in
    let rest : sum_by (extra k) ds ≡ 0 = extras_none k ds (omega (arith, narrow)) in
    let both = sum_by-cons (extra k) d ds in
    omega (arith, here, rest, both)

number_kept : (k : ℕ) (ds : List Drive) → widest ds ≤ k → (s : ℕ) → number k ds s ≡ s
number_kept k ds narrow s =
    let all = extras_none k ds narrow in
    let some = sum_by-take-le (extra k) ds (suc s) in
    omega (arith, all, some)

map_kept : (f : ℕ → ℕ) (xs : List ℕ) → ((x : ℕ) → f x ≡ x) → map f xs ≡ xs
map_kept f [] same = refl
map_kept f (x ∷ xs) same = rw (same x, map_kept f xs same) refl

drive_kept : (k : ℕ) (f : ℕ → ℕ) (first : ℕ) (d : Drive) → ((x : ℕ) → f x ≡ x) → length (pins_of d) ≤ k → drives_for k f first d ≡ d ∷ []
drive_kept k f first input same narrow = refl
drive_kept k f first (latch next init) same narrow = ap (λ n. latch n init ∷ []) (same next)
drive_kept k f first (gate pins cover) same narrow =
    ap (λ b. cond b (gates_of cover.on f first (pieces_of pins cover)) (gate (map f pins) cover ∷ [])) (le-ltb k (length pins) narrow)
    ∙ ap (λ ps. gate ps cover ∷ []) (map_kept f pins same)

places_kept : (k : ℕ) (c : Plain) (s : ℕ) (ds : List Drive) → ((x : ℕ) → number k c.drives x ≡ x) → widest ds ≤ k
    → in_places (drives_at k c) s ds ≡ ds
places_kept k c s [] same narrow = refl
places_kept k c s (d ∷ ds) same narrow =
    let here : drives_at k c s d ≡ d ∷ [] = drive_kept k (number k c.drives) (first_number k c.drives s) d same (omega (arith, narrow)) in
    let rest : in_places (drives_at k c) (suc s) ds ≡ ds = places_kept k c (suc s) ds same (omega (arith, narrow)) in
    ap (λ xs. xs ++ in_places (drives_at k c) (suc s) ds) here ∙ ap (λ xs. d ∷ xs) rest

pub drives_kept : (k : ℕ) (c : Plain) → widest c.drives ≤ k → (subject_of k c).drives ≡ c.drives
unfolding subject_of
drives_kept k c narrow = places_kept k c 0 c.drives (number_kept k c.drives narrow) narrow
