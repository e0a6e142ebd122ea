-- Which signal of the subject circuit stands where.
use Rattle.std.proofs.Common.{◌≡◌, ℕ, zero, suc, ◌+◌, ◌-◌, ◌<◌, ◌≤◌, inl, inr, List, [], ◌∷◌, ◌++◌, length, take, get_or, Some, slice_get, refl, sym, ◌∙◌, ap, subst, arith}
use Rattle.std.specs.Prelude.{All, sum_by}
use Rattle.std.proofs.lemmas.Bool.{cases_lt}
use Rattle.std.proofs.lemmas.List.{take-take, get_or_append_left, get_or-append-add}
use Rattle.std.proofs.lemmas.List.Elements.{All-nil, All-append}
use Rattle.std.proofs.lemmas.List.Sums.{sum_by-cons, sum_by-take-le, get_or-le-sum_by}
use Rattle.std.proofs.lemmas.Option.{get_or_from_slice_get, slice_get_within}
use Rattle.tm_circuit.specs.Plain.{Drive}
use Rattle.tm_split.specs.Subject.{extra, first_number, number, in_places}
use Rattle.tm_split.proofs.Numbers.{first_next, first_within}

slice_get_zero : {X : Type 0} (x y : X) (xs : List X) → slice_get (x ∷ xs) 0 ≡ Some y → x ≡ y
slice_get_zero x y xs is = cc

-- The signals in the place of a signal, each at its number.
pub places_at : {X : Type 0} (at : ℕ → Drive → List X) (more : Drive → ℕ) → ((t : ℕ) (d : Drive) → length (at t d) ≡ suc (more d))
    → (t : ℕ) (ds : List Drive) (s i : ℕ) (d : Drive) (x : X) → slice_get ds s ≡ Some d → i < suc (more d)
    → get_or (in_places at t ds) ((s + sum_by more (take s ds)) + i) x ≡ get_or (at (t + s) d) i x
places_at {X} at more each t [] s i d x is within =
    let inside : s < 0 = slice_get_within [] s d is in
    absurd (omega arith)
places_at {X} at more each t (e ∷ ds) zero i d x is within =
    let same : e ≡ d = get_or_from_slice_get (e ∷ ds) 0 d d is in
    let size : length (at t e) ≡ suc (more e) = each t e in
    let inside : i < length (at t e) = subst (λ (m : ℕ). i < m) (ap (λ f. suc (more f)) (sym same) ∙ sym size) within in
    let index : (0 + sum_by more (take 0 (e ∷ ds))) + i ≡ i = omega arith in
    let place : t ≡ t + 0 = omega arith in
    ap (λ n. get_or (at t e ++ in_places at (suc t) ds) n x) index
    ∙ (get_or_append_left (at t e) (in_places at (suc t) ds) x i inside
    ∙ (ap (λ n. get_or (at n e) i x) place ∙ ap (λ f. get_or (at (t + 0) f) i x) same))
places_at {X} at more each t (e ∷ ds) (suc s) i d x is within =
    let size : length (at t e) ≡ suc (more e) = each t e in
    let sum : sum_by more (e ∷ take s ds) ≡ more e + sum_by more (take s ds) = sum_by-cons more e (take s ds) in
    let index : (suc s + sum_by more (e ∷ take s ds)) + i ≡ length (at t e) + ((s + sum_by more (take s ds)) + i) = omega arith in
    let place : suc t + s ≡ t + suc s = omega arith in
    let later : slice_get ds s ≡ Some d = is in
    ap (λ n. get_or (at t e ++ in_places at (suc t) ds) n x) index
    ∙ (get_or-append-add (at t e) (in_places at (suc t) ds) ((s + sum_by more (take s ds)) + i) x
    ∙ (places_at at more each (suc t) ds s i d x later within
    ∙ ap (λ n. get_or (at n d) i x) place))

-- A number stands in the place of some signal.
pub record IsAt (more : Drive → ℕ) (ds : List Drive) (n s i : ℕ) (d : Drive) : Type 0 where
  pub drive : slice_get ds s ≡ Some d
  pub within : i < suc (more d)
  pub index : n ≡ (s + sum_by more (take s ds)) + i

pub located : (more : Drive → ℕ) (ds : List Drive) (n : ℕ) → n < length ds + sum_by more ds
    → (s : ℕ) × ((i : ℕ) × ((d : Drive) × IsAt more ds n s i d))
located more [] n inside = absurd (omega arith)
located more (e ∷ ds) n inside =
    elim (cases_lt n (suc (more e))) [
      | inl here ↦ (0, (n, (e, record { drive = refl; within = here; index = omega arith })))
      | inr later ↦
          let sum : sum_by more (e ∷ ds) ≡ more e + sum_by more ds = sum_by-cons more e ds in
          let (s, (i, (d, is))) = located more ds (n - suc (more e)) (omega arith) in
          let taken : sum_by more (e ∷ take s ds) ≡ more e + sum_by more (take s ds) = sum_by-cons more e (take s ds) in
          let index : n - suc (more e) ≡ (s + sum_by more (take s ds)) + i = is.index in
          (suc s, (i, (d, record { drive = is.drive; within = is.within; index = omega arith })))
    ]

-- What holds of all that stands in each place holds of all places.
pub all_places : {X : Type 0} (P : X → Type 0) (at : ℕ → Drive → List X) (t : ℕ) (ds : List Drive)
    → ((s : ℕ) (d : Drive) → slice_get ds s ≡ Some d → All P (at (t + s) d)) → All P (in_places at t ds)
all_places {X} P at t [] each = All-nil P
all_places {X} P at t (e ∷ ds) each =
    let here : t + 0 ≡ t = omega arith in
    let later : (s : ℕ) (d : Drive) → slice_get ds s ≡ Some d → All P (at (suc t + s) d) = λ s d is.
    let place : t + suc s ≡ suc t + s = omega arith in
    subst (λ (n : ℕ). All P (at n d)) place (each (suc s) d is) in
    All-append P (at t e) (in_places at (suc t) ds) (subst (λ (n : ℕ). All P (at n e)) here (each 0 e refl)) (all_places P at (suc t) ds later)

-- ---- numbers in order

pub slice_get_at : {X : Type 0} (xs : List X) (s : ℕ) → s < length xs → (x : X) × (slice_get xs s ≡ Some x)
slice_get_at {X} [] s within = absurd (omega arith)
slice_get_at {X} (x ∷ xs) zero within = (x, refl)
slice_get_at {X} (x ∷ xs) (suc s) within =
    let (y, is) = slice_get_at xs s (omega arith) in
    (y, is)

pub number_below : (k : ℕ) (drives : List Drive) (s : ℕ) → s < length drives → number k drives s < first_number k drives (length drives)
number_below k drives s within =
    let (d, is) = slice_get_at drives s within in
    let (step, itself) = first_next k drives s d is in
    let bounded : first_number k drives (suc s) ≤ first_number k drives (length drives) = first_within k drives (suc s) (omega arith) in
    omega arith

take_sum_le : (more : Drive → ℕ) (ds : List Drive) (m n : ℕ) → m ≤ n → sum_by more (take m ds) ≤ sum_by more (take n ds)
take_sum_le more ds m n less =
    let inner : take m (take n ds) ≡ take m ds = take-take m n ds less in
    let least : sum_by more (take m (take n ds)) ≤ sum_by more (take n ds) = sum_by-take-le more (take n ds) m in
    subst (λ (es : List Drive). sum_by more es ≤ sum_by more (take n ds)) inner least

-- Numbers rise with the signals.
pub number_rises : (k : ℕ) (drives : List Drive) (s t : ℕ) → s < t → number k drives s < number k drives t
number_rises k drives s t less =
    let sums : sum_by (extra k) (take (suc s) drives) ≤ sum_by (extra k) (take (suc t) drives) = take_sum_le (extra k) drives (suc s) (suc t) (omega arith) in
    omega arith

-- Past the last signal too.
pub number_past : (k : ℕ) (drives : List Drive) (s : ℕ) → length drives ≤ s → first_number k drives (length drives) ≤ number k drives s
number_past k drives s past =
    let sums : sum_by (extra k) (take (length drives) drives) ≤ sum_by (extra k) (take (suc s) drives) = take_sum_le (extra k) drives (length drives) (suc s) (omega arith) in
    omega arith

pub extra_within : (k : ℕ) (drives : List Drive) (s : ℕ) (d : Drive) → slice_get drives s ≡ Some d → extra k d ≤ sum_by (extra k) drives
extra_within k drives s d is =
    let within : s < length drives = slice_get_within drives s d is in
    let here : get_or drives s d ≡ d = get_or_from_slice_get drives s d d is in
    subst (λ (e : Drive). extra k e ≤ sum_by (extra k) drives) here (get_or-le-sum_by (extra k) drives s d within)
