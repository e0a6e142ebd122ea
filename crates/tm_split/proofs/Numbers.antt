-- How many signals stand in each place, and the numbers of signals.
use Rattle.std.proofs.Common.{◌≡◌, ℕ, suc, ◌+◌, ◌-◌, ◌^◌, ◌<◌, ◌≤◌, Bool, true, false, ◌||◌, cond, eqb, ltb, min, inl, inr, List, [], ◌∷◌, ◌++◌, map, length, take, get_or, Some, slice_get, refl, sym, ◌∙◌, ap, subst, length-append, add-one, arith}
use Rattle.std.specs.Prelude.{All, sum_by, slice_index}
use Rattle.std.specs.List.{list_any}
use Rattle.std.proofs.lemmas.List.{take_all, get_or_push, get_or_append_left, length_push}
use Rattle.std.proofs.lemmas.List.Folds.{list_any_at, list_any_more}
use Rattle.std.proofs.lemmas.List.Sums.{sum_by-cons, sum_by_more, sum_by-take-le}
use Rattle.std.proofs.lemmas.Option.{get_or_from_slice_get, slice_get_within}
use Rattle.std.proofs.lemmas.Bool.{ne_eqb, eq-eqb, lt-ltb, cases_lt}
use Rattle.tm_bits.specs.declared.cover.Place.{Place}
use Rattle.tm_bits.specs.Rows.{Rows, HasWidth}
use Rattle.tm_circuit.specs.Plain.{Plain, Drive, input, latch, gate}
use Rattle.tm_split.specs.declared.piece.Piece.{Piece}
use Rattle.tm_split.specs.Pieces.{pieces_of, pieces_of_rows}
use Rattle.tm_split.specs.Names.{piece_names}
use Rattle.tm_split.specs.Counts.{literal_count, literal_total, IsCountOf, AreNumbers}
use Rattle.tm_split.specs.Subject.{extra, first_number, number, gates_of, drives_for, names_for, in_places, drives_at, subject_of}
use Rattle.tm_split.proofs.Whole.{total, pieces_count}
use Rattle.tm_split.proofs.Literals.{rows_of_literals, bare_rows, total_rows}

-- ---- new gates by literals

less_two : (bare : Bool) (sum : ℕ) → cond bare 0 (sum - 2) ≡ cond bare 0 sum - 2
less_two true sum = refl
less_two false sum = refl

pub pieces_total : (pins : List ℕ) (rows : List (List Place)) → All (λ row. length row ≡ length pins) rows
    → length (pieces_of_rows (rows_of_literals pins rows)) - 1 ≡ literal_total rows - 2
pieces_total pins rows wide =
    let test : List (List Place) → Bool = λ rs. list_any (λ row. eqb (literal_count row) 0) rs in
    (pieces_count (rows_of_literals pins rows)).0
    ∙ (ap (λ b. cond b 0 (total (rows_of_literals pins rows) - 2)) (bare_rows pins rows wide)
    ∙ (ap (λ n. cond (test rows) 0 (n - 2)) (total_rows pins rows wide)
    ∙ less_two (test rows) (sum_by literal_count rows)))

pub total_of_bare : (rows : List (List Place)) (i : ℕ) (row : List Place) → i < length rows → row ≡ get_or rows i row
    → literal_count row ≡ 0 → literal_total rows ≡ 0
total_of_bare rows i row within is none =
    let test : List Place → Bool = λ r. eqb (literal_count r) 0 in
    let here : eqb (literal_count (get_or rows i row)) 0 ≡ true = ap test (sym is) ∙ eq-eqb (literal_count row) 0 none in
    ap (λ b. cond b 0 (sum_by literal_count rows)) (list_any_at test rows i row within here)

pub total_of_all : (rows : List (List Place)) (i : ℕ) → length rows ≤ i
    → list_any (λ row. eqb (literal_count row) 0) (take i rows) ≡ false
    → literal_total rows ≡ sum_by literal_count (take i rows)
total_of_all rows i all none =
    let test : List (List Place) → Bool = λ rs. list_any (λ row. eqb (literal_count row) 0) rs in
    ap (λ rs. cond (test rs) 0 (sum_by literal_count rs)) (sym (take_all i rows all)) ∙ ap (λ b. cond b 0 (sum_by literal_count (take i rows))) none

-- One more row, which has literals.
pub none_bare_more : (rows : List (List Place)) (i : ℕ) (row : List Place) → i < length rows → row ≡ get_or rows i row
    → (literal_count row ≡ 0 → ⊥) → list_any (λ r. eqb (literal_count r) 0) (take i rows) ≡ false
    → list_any (λ r. eqb (literal_count r) 0) (take (i + 1) rows) ≡ false
none_bare_more rows i row within is some none =
    let test : List Place → Bool = λ r. eqb (literal_count r) 0 in
    let here : test (get_or rows i row) ≡ false = ap test (sym is) ∙ ne_eqb (literal_count row) 0 some in
    list_any_more test rows i row within ∙ (ap (λ b. b || test (get_or rows i row)) none ∙ here)

pub sum_more : (rows : List (List Place)) (i : ℕ) (row : List Place) → i < length rows → row ≡ get_or rows i row
    → sum_by literal_count (take (i + 1) rows) ≡ sum_by literal_count (take i rows) + literal_count row
sum_more rows i row within is =
    sum_by_more literal_count rows i row within ∙ ap (λ r. sum_by literal_count (take i rows) + literal_count r) (sym is)

-- ---- how many stand in the place of a signal

pub length-gates_of : (on : Bool) (number : ℕ → ℕ) (first : ℕ) (pieces : List Piece)
    → length (gates_of on number first pieces) ≡ length pieces
length-gates_of on number first [] = refl
length-gates_of on number first (piece ∷ rest) = ap (λ n. suc n) (length-gates_of on number first rest)

pub length-piece_names : (name joiner : List ℕ) (n : ℕ) (pieces : List Piece) → length (piece_names name joiner n pieces) ≡ length pieces
length-piece_names name joiner n [] = refl
length-piece_names name joiner n (piece ∷ rest) = ap (λ m. suc m) (length-piece_names name joiner (suc n) rest)

pub some_pieces : (pins : List ℕ) (cover : Rows) → 0 < length (pieces_of pins cover)
some_pieces pins cover = (pieces_count (rows_of_literals pins cover.rows)).1

by_test : {X : Type 0} (wide : Bool) (xs ys : List X) (n : ℕ) → length xs ≡ n → 0 < n → length ys ≡ 1
    → length (cond wide xs ys) ≡ suc (cond wide (n - 1) 0)
by_test true xs ys n long some one = omega arith
by_test false xs ys n long some one = one

pub length-drives_for : (k : ℕ) (number : ℕ → ℕ) (first : ℕ) (d : Drive) → length (drives_for k number first d) ≡ suc (extra k d)
length-drives_for k number first input = refl
length-drives_for k number first (latch next init) = refl
length-drives_for k number first (gate pins cover) =
    by_test (ltb k (length pins)) (gates_of cover.on number first (pieces_of pins cover)) (gate (map number pins) cover ∷ []) (length (pieces_of pins cover)) (length-gates_of cover.on number first (pieces_of pins cover)) (some_pieces pins cover) refl

pub length-names_for : (k : ℕ) (name joiner : List ℕ) (d : Drive) → length (names_for k name joiner d) ≡ suc (extra k d)
length-names_for k name joiner input = refl
length-names_for k name joiner (latch next init) = refl
length-names_for k name joiner (gate pins cover) =
    by_test (ltb k (length pins)) (piece_names name joiner 1 (pieces_of pins cover)) (name ∷ []) (length (pieces_of pins cover)) (length-piece_names name joiner 1 (pieces_of pins cover)) (some_pieces pins cover) refl

-- ---- all places

pub length-in_places : {X : Type 0} (at : ℕ → Drive → List X) (more : Drive → ℕ) → ((s : ℕ) (d : Drive) → length (at s d) ≡ suc (more d))
    → (s : ℕ) (ds : List Drive) → length (in_places at s ds) ≡ length ds + sum_by more ds
length-in_places at more each s [] = refl
length-in_places at more each s (d ∷ ds) =
    let here : length (at s d) ≡ suc (more d) = each s d in
    let rest : length (in_places at (suc s) ds) ≡ length ds + sum_by more ds = length-in_places at more each (suc s) ds in
    let both : length (at s d ++ in_places at (suc s) ds) ≡ length (at s d) + length (in_places at (suc s) ds) = length-append (at s d) (in_places at (suc s) ds) in
    let sum : sum_by more (d ∷ ds) ≡ more d + sum_by more ds = sum_by-cons more d ds in
    omega arith

pub length-subject_of : (k : ℕ) (c : Plain) → length (subject_of k c).drives ≡ first_number k c.drives (length c.drives)
unfolding subject_of
length-subject_of k c =
    let all : take (length c.drives) c.drives ≡ c.drives = take_all (length c.drives) c.drives (omega arith) in
    length-in_places (drives_at k c) (extra k) (λ s d. length-drives_for k (number k c.drives) (first_number k c.drives s) d) 0 c.drives
    ∙ ap (λ ds. length c.drives + sum_by (extra k) ds) (sym all)

-- ---- numbers one by one

pub first_next : (k : ℕ) (drives : List Drive) (s : ℕ) (d : Drive) → slice_get drives s ≡ Some d
    → (first_number k drives (suc s) ≡ suc (number k drives s)) × (number k drives s ≡ first_number k drives s + extra k d)
first_next k drives s d is =
    let within : s < length drives = slice_get_within drives s d is in
    let here : get_or drives s d ≡ d = get_or_from_slice_get drives s d d is in
    let one : s + 1 ≡ suc s = omega arith in
    let more : sum_by (extra k) (take (suc s) drives) ≡ sum_by (extra k) (take s drives) + extra k d =
    ap (λ n. sum_by (extra k) (take n drives)) (sym one) ∙ (sum_by_more (extra k) drives s d within ∙ ap (λ e. sum_by (extra k) (take s drives) + extra k e) here) in
    (omega arith, omega arith)

pub first_within : (k : ℕ) (drives : List Drive) (s : ℕ) → s ≤ length drives → first_number k drives s ≤ first_number k drives (length drives)
first_within k drives s within =
    let some : sum_by (extra k) (take s drives) ≤ sum_by (extra k) drives = sum_by-take-le (extra k) drives s in
    let all : sum_by (extra k) (take (length drives) drives) ≡ sum_by (extra k) drives = ap (λ ds. sum_by (extra k) ds) (take_all (length drives) drives (omega arith)) in
    omega arith

-- ---- the loop that counts

pub first_none : (k : ℕ) (drives : List Drive) → first_number k drives 0 ≡ 0
first_none k drives = refl

pub counted_more : (k : ℕ) (drives : List Drive) (s total once more next : ℕ) (d : Drive) → slice_get drives s ≡ Some d
    → IsCountOf total (first_number k drives s) → IsCountOf more (extra k d)
    → once ≡ min (total + 1) (2 ^ 64 - 1) → next ≡ min (once + more) (2 ^ 64 - 1)
    → IsCountOf next (first_number k drives (s + 1))
counted_more k drives s total once more next d is count here one two =
    let (step, own) = first_next k drives s d is in
    let same : first_number k drives (s + 1) ≡ first_number k drives (suc s) = ap (λ n. first_number k drives n) (add-one s) in
    omega arith

-- ---- the loop that numbers

pub record IsNumbering (k : ℕ) (drives : List Drive) (s upto : ℕ) (numbers : List ℕ) : Type 0 where
  pub next : upto ≡ first_number k drives s
  pub sized : length numbers ≡ s
  pub each : (t : ℕ) → t < s → slice_index numbers t ≡ number k drives t

numbered_each : (k : ℕ) (drives : List Drive) (s own : ℕ) (numbers : List ℕ) → length numbers ≡ s → own ≡ number k drives s
    → ((t : ℕ) → t < s → slice_index numbers t ≡ number k drives t)
    → (t : ℕ) → t < s + 1 → slice_index (numbers ++ own ∷ []) t ≡ number k drives t
numbered_each k drives s own numbers sized is each t below =
    elim (cases_lt t s) [
      | inl earlier ↦
          let inside : t < length numbers = omega arith in
          get_or_append_left numbers (own ∷ []) 0 t inside ∙ each t earlier
      | inr late ↦
          let same : t ≡ s = omega arith in
          let here : get_or (numbers ++ own ∷ []) s 0 ≡ own = get_or_push numbers own 0 s sized in
          ap (λ u. get_or (numbers ++ own ∷ []) u 0) same ∙ (here ∙ (is ∙ ap (λ u. number k drives u) (sym same)))
    ]

-- What the count of one signal's new gates is, where the whole fits.
pub numbered_more : (k : ℕ) (drives : List Drive) (s next more own next' : ℕ) (d : Drive) (numbers numbers' : List ℕ)
    → IsNumbering k drives s next numbers → slice_get drives s ≡ Some d → first_number k drives (length drives) ≤ 100000
    → IsCountOf more (extra k d) → own ≡ next + more → numbers' ≡ numbers ++ own ∷ [] → next' ≡ own + 1
    → IsNumbering k drives (s + 1) next' numbers'
numbered_more k drives s next more own next' d numbers numbers' is here few count sum push after =
    let within : s < length drives = slice_get_within drives s d here in
    let (step, itself) = first_next k drives s d here in
    let bounded : first_number k drives (suc s) ≤ first_number k drives (length drives) = first_within k drives (suc s) (omega arith) in
    let at : next ≡ first_number k drives s = is.next in
    let exact : own ≡ number k drives s = omega arith in
    let same : first_number k drives (s + 1) ≡ first_number k drives (suc s) = ap (λ n. first_number k drives n) (add-one s) in
    let sized : length numbers ≡ s = is.sized in
    let longer : length (numbers ++ own ∷ []) ≡ length numbers + 1 = length_push numbers own in
    record {
      next = omega arith;
      sized = ap (λ (ns : List ℕ). length ns) push ∙ (longer ∙ ap (λ n. n + 1) sized);
      each = subst (λ (ns : List ℕ). (t : ℕ) → t < s + 1 → slice_index ns t ≡ number k drives t) (sym push) (numbered_each k drives s own numbers sized exact is.each);
    }

-- The sums that the loop makes fit.
pub numbered_fits : (k : ℕ) (drives : List Drive) (s next more : ℕ) (d : Drive) (numbers : List ℕ)
    → IsNumbering k drives s next numbers → slice_get drives s ≡ Some d → first_number k drives (length drives) ≤ 100000
    → IsCountOf more (extra k d) → next + more < 100000
numbered_fits k drives s next more d numbers is here few count =
    let within : s < length drives = slice_get_within drives s d here in
    let (step, itself) = first_next k drives s d here in
    let bounded : first_number k drives (suc s) ≤ first_number k drives (length drives) = first_within k drives (suc s) (omega arith) in
    let at : next ≡ first_number k drives s = is.next in
    omega arith

pub numbered_all : (k : ℕ) (drives : List Drive) (s next : ℕ) (numbers : List ℕ) → IsNumbering k drives s next numbers
    → s ≡ length drives → AreNumbers k drives numbers
numbered_all k drives s next numbers is all = record {
  all = is.sized ∙ all;
  each = λ t within. is.each t (omega arith);
}

-- ---- the count of one gate

pub extra_of_gate : (k : ℕ) (pins slice : List ℕ) (cover : Rows) (rows : List (List Place)) (sum result : ℕ) → slice ≡ pins → k < length slice
    → HasWidth cover (length pins) → rows ≡ cover.rows → sum ≡ min (literal_total rows) (2 ^ 64 - 1) → result ≡ sum - 2
    → IsCountOf result (extra k (gate pins cover))
extra_of_gate k pins slice cover rows sum result same more wide are is less =
    let longer : k < length pins = omega (arith, ap (λ (ps : List ℕ). length ps) same) in
    let counted : extra k (gate pins cover) ≡ literal_total cover.rows - 2 =
    ap (λ b. cond b (length (pieces_of pins cover) - 1) 0) (lt-ltb k (length pins) longer) ∙ pieces_total pins cover.rows wide in
    let total_is : literal_total rows ≡ literal_total cover.rows = ap (λ rs. literal_total rs) are in
    omega arith
