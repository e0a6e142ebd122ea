-- The drives of the subject circuit are in range and narrow.
use Rattle.std.proofs.Common.{◌≡◌, ℕ, suc, ◌+◌, ◌-◌, ◌<◌, ◌≤◌, Bool, true, false, cond, ltb, List, [], ◌∷◌, map, length, Some, slice_get, refl, sym, ap, subst, arith}
use Rattle.std.specs.Prelude.{All, if◌then◌else◌}
use Rattle.std.proofs.lemmas.Bool.{ltb-false}
use Rattle.std.proofs.lemmas.List.{length-map}
use Rattle.std.proofs.lemmas.List.Elements.{All-nil, All-cons, All-map, All-weaker, All-get_or}
use Rattle.std.proofs.lemmas.Option.{get_or_from_slice_get, slice_get_within}
use Rattle.tm_bits.specs.declared.cover.Place.TheVariants.{Any}
use Rattle.tm_bits.specs.Rows.{Rows, HasWidth}
use Rattle.tm_bits.specs.Tables.{place_of}
use Rattle.tm_circuit.specs.Plain.{Plain, Drive, input, latch, gate, pins_of}
use Rattle.tm_circuit.specs.Sound.{ReadsBelow, FitsPins}
use Rattle.tm_split.specs.declared.piece.Wire.{Wire}
use Rattle.tm_split.specs.declared.piece.Wire.TheVariants.{Pin, Made}
use Rattle.tm_split.specs.declared.piece.Piece.{Piece}
use Rattle.tm_split.specs.declared.piece.Piece.TheVariants.{NoRow, BareRow, Alone, Both, Either}
use Rattle.tm_split.specs.Pieces.{is_empty, pieces_of}
use Rattle.tm_split.specs.Subject.{extra, first_number, number, wire_number, piece_drive, gates_of, drives_for, in_places, drives_at, subject_of}
use Rattle.tm_split.specs.Making.{IsWireOf, IsWired, AreWired}
use Rattle.tm_split.proofs.Whole.{pieces_wired}
use Rattle.tm_split.proofs.Literals.{rows_of_literals, rows_wired_by}
use Rattle.tm_split.proofs.Numbers.{first_next, first_within, length-subject_of, some_pieces}
use Rattle.tm_split.proofs.Places.{all_places, number_below}

-- A drive reads signals below a bound, fits its pins, and has at most k pins.
pub record IsFine (bound k : ℕ) (d : Drive) : Type 0 where
  pub reads : ReadsBelow bound d
  pub fits : FitsPins d
  pub narrow : length (pins_of d) ≤ k

wire_below : (f : ℕ → ℕ) (first signals n bound : ℕ) (w : Wire) → ((s : ℕ) → s < signals → f s < bound) → first + n ≤ bound
    → IsWireOf signals n w → wire_number f first w < bound
wire_below f first signals n bound (Pin s) below room is = below s is
wire_below f first signals n bound (Made m) below room is = omega arith

one_below : (bound x : ℕ) → x < bound → All (λ p. p < bound) (x ∷ [])
one_below bound x below = All-cons (λ p. p < bound) x [] below (All-nil (λ p. p < bound))

two_below : (bound x y : ℕ) → x < bound → y < bound → All (λ p. p < bound) (x ∷ y ∷ [])
two_below bound x y below_x below_y = All-cons (λ p. p < bound) x (y ∷ []) below_x (one_below bound y below_y)

has_length : (n : ℕ) → {X : Type 0} (row : List X) → length row ≡ n → All (λ r. length r ≡ n) (row ∷ [])
has_length n {X} row is = All-cons (λ (r : List X). length r ≡ n) row [] is (All-nil (λ (r : List X). length r ≡ n))

piece_fine : (free on : Bool) (f : ℕ → ℕ) (first signals n bound k : ℕ) (piece : Piece) → ((s : ℕ) → s < signals → f s < bound)
    → first + n ≤ bound → 2 ≤ k → IsWired free signals n piece → IsFine bound k (piece_drive on f first piece)
piece_fine free on f first signals n bound k NoRow below room two is = record {
  reads = All-nil (λ p. p < bound);
  fits = (omega arith, λ i d inside. absurd (omega arith));
  narrow = omega arith;
}
piece_fine free on f first signals n bound k BareRow below room two is = record {
  reads = All-nil (λ p. p < bound);
  fits = (omega arith, has_length 0 [] refl);
  narrow = omega arith;
}
piece_fine free on f first signals n bound k (Alone a) below room two is = record {
  reads = one_below bound (wire_number f first a.wire) (wire_below f first signals n bound a.wire below room is);
  fits = (omega arith, has_length 1 (place_of a.positive ∷ []) refl);
  narrow = omega arith;
}
piece_fine free on f first signals n bound k (Both a b) below room two is = record {
  reads = two_below bound (wire_number f first a.wire) (wire_number f first b.wire) (wire_below f first signals n bound a.wire below room is.0) (wire_below f first signals n bound b.wire below room is.1);
  fits = (omega arith, has_length 2 (place_of a.positive ∷ place_of b.positive ∷ []) refl);
  narrow = omega arith;
}
piece_fine free on f first signals n bound k (Either a b) below room two is = record {
  reads = two_below bound (wire_number f first a.wire) (wire_number f first b.wire) (wire_below f first signals n bound a.wire below room is.0) (wire_below f first signals n bound b.wire below room is.1);
  fits = (omega arith, All-cons (λ r. length r ≡ 2) (place_of a.positive ∷ Any ∷ []) ((Any ∷ place_of b.positive ∷ []) ∷ []) refl (has_length 2 (Any ∷ place_of b.positive ∷ []) refl));
  narrow = omega arith;
}

pub gates_fine : (free on : Bool) (f : ℕ → ℕ) (first signals n bound k : ℕ) (pieces : List Piece) → ((s : ℕ) → s < signals → f s < bound)
    → first + (n + length pieces) ≤ bound → 2 ≤ k → AreWired free signals n pieces → All (IsFine bound k) (gates_of on f first pieces)
gates_fine free on f first signals n bound k [] below room two are = All-nil (IsFine bound k)
gates_fine free on f first signals n bound k (piece ∷ rest) below room two are =
    All-cons (IsFine bound k) (piece_drive (if is_empty rest then on else true) f first piece) (gates_of on f first rest)
    (piece_fine free (if is_empty rest then on else true) f first signals n bound k piece below (omega arith) two are.0)
    (gates_fine free on f first signals (suc n) bound k rest below (omega arith) two are.1)

-- What a test picks.
pub all_by_test : {X : Type 0} (P : X → Type 0) (test : Bool) (xs ys : List X) → (test ≡ true → All P xs) → (test ≡ false → All P ys)
    → All P (cond test xs ys)
all_by_test P true xs ys yes_all no_all = yes_all refl
all_by_test P false xs ys yes_all no_all = no_all refl

-- The pieces of a wide gate have room.
pub wide_room : (k : ℕ) (drives : List Drive) (s : ℕ) (pins : List ℕ) (cover : Rows) → slice_get drives s ≡ Some (gate pins cover)
    → ltb k (length pins) ≡ true
    → first_number k drives s + length (pieces_of pins cover) ≤ first_number k drives (length drives)
wide_room k drives s pins cover is wide =
    let within : s < length drives = slice_get_within drives s (gate pins cover) is in
    let (step, itself) = first_next k drives s (gate pins cover) is in
    let more : extra k (gate pins cover) ≡ length (pieces_of pins cover) - 1 = ap (λ b. cond b (length (pieces_of pins cover) - 1) 0) wide in
    let some : 0 < length (pieces_of pins cover) = some_pieces pins cover in
    let bounded : first_number k drives (suc s) ≤ first_number k drives (length drives) = first_within k drives (suc s) (omega arith) in
    omega arith

pub drives_fine : (k : ℕ) (drives : List Drive) (s : ℕ) (d : Drive) → 2 ≤ k → slice_get drives s ≡ Some d
    → ReadsBelow (length drives) d → FitsPins d
    → All (IsFine (first_number k drives (length drives)) k) (drives_for k (number k drives) (first_number k drives s) d)
drives_fine k drives s input two is reads fits =
    let bound : ℕ = first_number k drives (length drives) in
    All-cons (IsFine bound k) input [] (record { reads = tt; fits = tt; narrow = omega arith }) (All-nil (IsFine bound k))
drives_fine k drives s (latch next init) two is reads fits =
    let bound : ℕ = first_number k drives (length drives) in
    All-cons (IsFine bound k) (latch (number k drives next) init) [] (record { reads = number_below k drives next reads; fits = tt; narrow = omega arith }) (All-nil (IsFine bound k))
drives_fine k drives s (gate pins cover) two is reads fits =
    let bound : ℕ = first_number k drives (length drives) in
    let below : (t : ℕ) → t < length drives → number k drives t < first_number k drives (length drives) = number_below k drives in
    let many : length (map (number k drives) pins) ≡ length pins = length-map pins (number k drives) in
    let wired : AreWired (is_empty (rows_of_literals pins cover.rows)) (length drives) 0 (pieces_of pins cover) = pieces_wired (λ s. s < length drives) (rows_of_literals pins cover.rows) (rows_wired_by (λ s. s < length drives) pins cover.rows reads) in
    all_by_test (IsFine bound k) (ltb k (length pins)) (gates_of cover.on (number k drives) (first_number k drives s) (pieces_of pins cover)) (gate (map (number k drives) pins) cover ∷ [])
    (λ wide.
    let room : first_number k drives s + length (pieces_of pins cover) ≤ first_number k drives (length drives) = wide_room k drives s pins cover is wide in
    gates_fine (is_empty (rows_of_literals pins cover.rows)) cover.on (number k drives) (first_number k drives s) (length drives) 0 bound k (pieces_of pins cover) below (omega arith) two wired)
    (λ kept.
    let few : length pins ≤ k = ltb-false k (length pins) kept in
    All-cons (IsFine bound k) (gate (map (number k drives) pins) cover) [] (record {
      reads = All-map (λ p. p < bound) (number k drives) pins (All-weaker (λ p. p < length drives) (λ p. number k drives p < bound) below pins reads);
      fits = (omega arith, subst (λ (n : ℕ). HasWidth cover n) (sym many) fits.1);
      narrow = omega arith;
    }) (All-nil (IsFine bound k)))

pub subject_fine : (k : ℕ) (c : Plain) → 2 ≤ k → All (ReadsBelow (length c.drives)) c.drives → All FitsPins c.drives
    → All (IsFine (length (subject_of k c).drives) k) (subject_of k c).drives
unfolding subject_of
subject_fine k c two reads fits =
    let each : (s : ℕ) (d : Drive) → slice_get c.drives s ≡ Some d → All (IsFine (first_number k c.drives (length c.drives)) k) (drives_at k c (0 + s) d) = λ s d is.
    let within : s < length c.drives = slice_get_within c.drives s d is in
    let here = get_or_from_slice_get c.drives s d d is in
    let reads_here : ReadsBelow (length c.drives) d = subst (λ (e : Drive). ReadsBelow (length c.drives) e) here (All-get_or (ReadsBelow (length c.drives)) c.drives s d within reads) in
    let fits_here : FitsPins d = subst (λ (e : Drive). FitsPins e) here (All-get_or FitsPins c.drives s d within fits) in
    let place : s ≡ 0 + s = omega arith in
    subst (λ (n : ℕ). All (IsFine (first_number k c.drives (length c.drives)) k) (drives_at k c n d)) place (drives_fine k c.drives s d two is reads_here fits_here) in
    subst (λ (n : ℕ). All (IsFine n k) (in_places (drives_at k c) 0 c.drives)) (sym (length-subject_of k c)) (all_places (IsFine (first_number k c.drives (length c.drives)) k) (drives_at k c) 0 c.drives each)
