-- No gates of the subject circuit read one another in a circle.
use Rattle.std.proofs.Common.{◌≡◌, ℕ, zero, suc, ◌+◌, ◌-◌, ◌*◌, ◌<◌, ◌≤◌, ◌⊎◌, inl, inr, Bool, true, false, cond, ltb, List, [], ◌∷◌, ◌++◌, map, length, take, get_or, Some, slice_get, Contains, refl, sym, ◌∙◌, ap, subst, arith}
use Rattle.std.specs.Prelude.{sum_by, if◌then◌else◌}
use Rattle.std.proofs.Math.Nat.{mul-le-mul_left}
use Rattle.std.proofs.lemmas.Bool.{cases_lt}
use Rattle.std.proofs.lemmas.List.{get_or_past, take_all}
use Rattle.std.proofs.lemmas.List.Elements.{All-contains, All-contains_itself, All-get_or}
use Rattle.std.proofs.lemmas.Option.{get_or_from_slice_get, slice_get_within}
use Rattle.tm_bits.specs.Rows.{Rows}
use Rattle.tm_circuit.specs.Plain.{Plain, Drive, input, latch, gate, drive_in, pins_of}
use Rattle.tm_circuit.specs.Chain.{IsChain, HasCircle, RisesTo, rank}
use Rattle.tm_circuit.specs.Sound.{IsSound, ReadsBelow}
use Rattle.tm_circuit.proofs.PeriodLemmas.{ranked-no_circle}
use Rattle.tm_split.specs.declared.piece.Wire.{Wire}
use Rattle.tm_split.specs.declared.piece.Wire.TheVariants.{Pin, Made}
use Rattle.tm_split.specs.declared.piece.Piece.{Piece}
use Rattle.tm_split.specs.declared.piece.Piece.TheVariants.{NoRow, BareRow, Alone, Both, Either}
use Rattle.tm_split.specs.Pieces.{is_empty, pieces_of, wires_of}
use Rattle.tm_split.specs.Subject.{extra, first_number, number, wire_number, piece_drive, gates_of, drives_for, in_places, drives_at, subject_of}
use Rattle.tm_split.specs.Making.{IsWireBy, IsWiredBy, AreWiredBy}
use Rattle.tm_split.proofs.Whole.{pieces_wired}
use Rattle.tm_split.proofs.Literals.{rows_of_literals, rows_wired_by}
use Rattle.tm_split.proofs.Numbers.{first_next, length-drives_for, length-in_places, length-subject_of, some_pieces}
use Rattle.tm_split.proofs.Places.{IsAt, located, places_at, slice_get_at, extra_within}

-- ---- what stands at a number

-- The drive at a number of the subject circuit.
pub drive_at : (k : ℕ) (c : Plain) (s i n : ℕ) (d : Drive) → IsAt (extra k) c.drives n s i d
    → drive_in (subject_of k c).drives n ≡ get_or (drives_at k c s d) i (latch n false)
unfolding subject_of
drive_at k c s i n d at =
    let sizes : (t : ℕ) (e : Drive) → length (drives_at k c t e) ≡ suc (extra k e) = λ t e. length-drives_for k (number k c.drives) (first_number k c.drives t) e in
    let there : get_or (in_places (drives_at k c) 0 c.drives) ((s + sum_by (extra k) (take s c.drives)) + i) (latch n false) ≡ get_or (drives_at k c (0 + s) d) i (latch n false) =
    places_at (drives_at k c) (extra k) sizes 0 c.drives s i d (latch n false) at.drive at.within in
    let place : 0 + s ≡ s = omega arith in
    ap (λ m. get_or (in_places (drives_at k c) 0 c.drives) m (latch n false)) at.index ∙ (there ∙ ap (λ m. get_or (drives_at k c m d) i (latch n false)) place)

pub gates_at : (free on : Bool) (f : ℕ → ℕ) (first : ℕ) (P : ℕ → Type 0) (n : ℕ) (pieces : List Piece) (i : ℕ) (x : Drive) → AreWiredBy free P n pieces
    → i < length pieces
    → (piece : Piece) × ((polarity : Bool) × ((get_or (gates_of on f first pieces) i x ≡ piece_drive polarity f first piece) × IsWiredBy free P (n + i) piece))
gates_at free on f first P n [] i x are within = absurd (omega arith)
gates_at free on f first P n (piece ∷ rest) zero x are within =
    let same : n ≡ n + 0 = omega arith in
    (piece, (if is_empty rest then on else true, (refl, subst (λ (m : ℕ). IsWiredBy free P m piece) same are.0)))
gates_at free on f first P n (piece ∷ rest) (suc i) x are within =
    let same : suc n + i ≡ n + suc i = omega arith in
    let (found, (polarity, (is, wired))) = gates_at free on f first P (suc n) rest i x are.1 (omega arith) in
    (found, (polarity, (is, subst (λ (m : ℕ). IsWiredBy free P m found) same wired)))

-- ---- ranks

abbrev steps : ℕ → ℕ → List ℕ
steps from zero = []
steps from (suc n) = from ∷ steps (suc from) n

length-steps : (from n : ℕ) → length (steps from n) ≡ n
length-steps from zero = refl
length-steps from (suc n) = ap (λ m. suc m) (length-steps (suc from) n)

steps_at : (from n i x : ℕ) → i < n → get_or (steps from n) i x ≡ from + i
steps_at from zero i x within = absurd (omega arith)
steps_at from (suc n) zero x within = omega arith
steps_at from (suc n) (suc i) x within =
    let rest : get_or (steps (suc from) n) i x ≡ suc from + i = steps_at (suc from) n i x (omega arith) in
    omega arith

-- Ranks of old signals spread out, so that the new gates of each find room before it.
abbrev ranks_at : ℕ → (ℕ → ℕ) → ℕ → ℕ → Drive → List ℕ
ranks_at k rank room s d = steps (room * rank s) (suc (extra k d))

abbrev new_rank : ℕ → (ℕ → ℕ) → ℕ → List Drive → ℕ → ℕ
new_rank k rank room drives n = get_or (in_places (ranks_at k rank room) 0 drives) n 0

rank_at : (k : ℕ) (rank : ℕ → ℕ) (room : ℕ) (drives : List Drive) (n s i : ℕ) (d : Drive) → IsAt (extra k) drives n s i d
    → new_rank k rank room drives n ≡ room * rank s + i
rank_at k rank room drives n s i d at =
    let sizes : (t : ℕ) (e : Drive) → length (ranks_at k rank room t e) ≡ suc (extra k e) = λ t e. length-steps (room * rank t) (suc (extra k e)) in
    let there : get_or (in_places (ranks_at k rank room) 0 drives) ((s + sum_by (extra k) (take s drives)) + i) 0 ≡ get_or (ranks_at k rank room (0 + s) d) i 0 =
    places_at (ranks_at k rank room) (extra k) sizes 0 drives s i d 0 at.drive at.within in
    let place : 0 + s ≡ s = omega arith in
    ap (λ m. get_or (in_places (ranks_at k rank room) 0 drives) m 0) at.index
    ∙ (there ∙ (ap (λ m. get_or (ranks_at k rank room m d) i 0) place ∙ steps_at (room * rank s) (suc (extra k d)) i 0 at.within))

-- An old signal stands at its number.
pub own_at : (k : ℕ) (drives : List Drive) (s : ℕ) (d : Drive) → slice_get drives s ≡ Some d
    → IsAt (extra k) drives (number k drives s) s (extra k d) d
own_at k drives s d is =
    let (step, itself) = first_next k drives s d is in
    record { drive = is; within = omega arith; index = itself }

-- A signal of lower rank has a lower new rank, even with all room taken.
lower_rank : (k : ℕ) (rank : ℕ → ℕ) (drives : List Drive) (p s i : ℕ) → p < length drives → rank p < rank s
    → new_rank k rank (suc (sum_by (extra k) drives)) drives (number k drives p) < suc (sum_by (extra k) drives) * rank s + i
lower_rank k rank drives p s i within less =
    let room : ℕ = suc (sum_by (extra k) drives) in
    let (e, is) = slice_get_at drives p within in
    let here : new_rank k rank (suc (sum_by (extra k) drives)) drives (number k drives p) ≡ suc (sum_by (extra k) drives) * rank p + extra k e = rank_at k rank (suc (sum_by (extra k) drives)) drives (number k drives p) p (extra k e) e (own_at k drives p e is) in
    let few : extra k e ≤ sum_by (extra k) drives = extra_within k drives p e is in
    let next : suc (rank p) ≤ rank s = less in
    let most : suc (sum_by (extra k) drives) * suc (rank p) ≤ suc (sum_by (extra k) drives) * rank s = mul-le-mul_left (suc (sum_by (extra k) drives)) next in
    let spread : suc (sum_by (extra k) drives) * suc (rank p) ≡ suc (sum_by (extra k) drives) * rank p + suc (sum_by (extra k) drives) = omega arith in
    omega arith

-- ---- pins

contains_none : (p : ℕ) → Contains [] p → ⊥
contains_none p (k, inside, is) = omega arith

contains_cons : (x : ℕ) (xs : List ℕ) (p : ℕ) → Contains (x ∷ xs) p → (x ≡ p) ⊎ Contains xs p
contains_cons x xs p (zero, inside, is) = inl is
contains_cons x xs p (suc k, inside, is) = inr (k, omega arith, is)

contains_map : (f : ℕ → ℕ) (xs : List ℕ) (y : ℕ) → Contains (map f xs) y → (x : ℕ) × (Contains xs x × (f x ≡ y))
contains_map f [] y has = absurd (contains_none y has)
contains_map f (x ∷ xs) y has =
    elim (contains_cons (f x) (map f xs) y has) [
      | inl here ↦ (x, ((0, omega arith, refl), here))
      | inr later ↦
          let (z, ((k, inside, is), same)) = contains_map f xs y later in
          (z, ((suc k, omega arith, is), same))
    ]

one_lower : (r : ℕ → ℕ) (bound x p : ℕ) → r x < bound → Contains (x ∷ []) p → r p < bound
one_lower r bound x p less has =
    elim (contains_cons x [] p has) [
      | inl here ↦ subst (λ (q : ℕ). r q < bound) here less
      | inr later ↦ absurd (contains_none p later)
    ]

two_lower : (r : ℕ → ℕ) (bound x y p : ℕ) → r x < bound → r y < bound → Contains (x ∷ y ∷ []) p → r p < bound
two_lower r bound x y p less_x less_y has =
    elim (contains_cons x (y ∷ []) p has) [
      | inl here ↦ subst (λ (q : ℕ). r q < bound) here less_x
      | inr later ↦ one_lower r bound y p less_y later
    ]

piece_lower : (free : Bool) (r f : ℕ → ℕ) (first : ℕ) (P : ℕ → Type 0) (n bound : ℕ) (piece : Piece)
    → ((w : Wire) → IsWireBy P n w → r (wire_number f first w) < bound) → IsWiredBy free P n piece
    → (p : ℕ) → Contains (map (wire_number f first) (wires_of piece)) p → r p < bound
piece_lower free r f first P n bound NoRow lower is p has = absurd (contains_none p has)
piece_lower free r f first P n bound BareRow lower is p has = absurd (contains_none p has)
piece_lower free r f first P n bound (Alone a) lower is p has = one_lower r bound (wire_number f first a.wire) p (lower a.wire is) has
piece_lower free r f first P n bound (Both a b) lower is p has =
    two_lower r bound (wire_number f first a.wire) (wire_number f first b.wire) p (lower a.wire is.0) (lower b.wire is.1) has
piece_lower free r f first P n bound (Either a b) lower is p has =
    two_lower r bound (wire_number f first a.wire) (wire_number f first b.wire) p (lower a.wire is.0) (lower b.wire is.1) has

-- ---- each signal

-- What is known of the signal in whose place a number stands.
pub record IsPlace (k : ℕ) (rank : ℕ → ℕ) (drives : List Drive) (n s i : ℕ) (d : Drive) : Type 0 where
  pub at : IsAt (extra k) drives n s i d
  pub reads : ReadsBelow (length drives) d
  pub rises : RisesTo rank s d

rises_by_test : (r : ℕ → ℕ) (n : ℕ) (test : Bool) (xs ys : List Drive) (i : ℕ) (x : Drive)
    → (test ≡ true → RisesTo r n (get_or xs i x)) → (test ≡ false → RisesTo r n (get_or ys i x))
    → RisesTo r n (get_or (cond test xs ys) i x)
rises_by_test r n true xs ys i x wide kept = wide refl
rises_by_test r n false xs ys i x wide kept = kept refl

pin_rank : (k : ℕ) (rank : ℕ → ℕ) (drives : List Drive) (n s i : ℕ) (pins : List ℕ) (cover : Rows) (p : ℕ)
    → IsPlace k rank drives n s i (gate pins cover) → Contains pins p
    → new_rank k rank (suc (sum_by (extra k) drives)) drives (number k drives p) < new_rank k rank (suc (sum_by (extra k) drives)) drives n
pin_rank k rank drives n s i pins cover p is has =
    let here : new_rank k rank (suc (sum_by (extra k) drives)) drives n ≡ suc (sum_by (extra k) drives) * rank s + i = rank_at k rank (suc (sum_by (extra k) drives)) drives n s i (gate pins cover) is.at in
    let below : p < length drives = All-contains (λ q. q < length drives) pins p is.reads has in
    let less : rank p < rank s = is.rises p has in
    let low : new_rank k rank (suc (sum_by (extra k) drives)) drives (number k drives p) < suc (sum_by (extra k) drives) * rank s + i = lower_rank k rank drives p s i below less in
    omega arith

rises_kept : (k : ℕ) (rank : ℕ → ℕ) (drives : List Drive) (n s i : ℕ) (pins : List ℕ) (cover : Rows) → IsPlace k rank drives n s i (gate pins cover)
    → ltb k (length pins) ≡ false
    → RisesTo (new_rank k rank (suc (sum_by (extra k) drives)) drives) n (get_or (gate (map (number k drives) pins) cover ∷ []) i (latch n false))
rises_kept k rank drives n s zero pins cover is kept =
    λ p has.
    let (q, (among, same)) = contains_map (number k drives) pins p has in
    subst (λ (m : ℕ). new_rank k rank (suc (sum_by (extra k) drives)) drives m < new_rank k rank (suc (sum_by (extra k) drives)) drives n) same (pin_rank k rank drives n s 0 pins cover q is among)
rises_kept k rank drives n s (suc i) pins cover is kept =
    let within : suc i < suc (extra k (gate pins cover)) = is.at.within in
    let none : extra k (gate pins cover) ≡ 0 = ap (λ b. cond b (length (pieces_of pins cover) - 1) 0) kept in
    absurd (omega arith)

wire_rank : (k : ℕ) (rank : ℕ → ℕ) (drives : List Drive) (n s i : ℕ) (pins : List ℕ) (cover : Rows) (w : Wire)
    → IsPlace k rank drives n s i (gate pins cover) → IsWireBy (λ p. Contains pins p) i w
    → new_rank k rank (suc (sum_by (extra k) drives)) drives (wire_number (number k drives) (first_number k drives s) w) < new_rank k rank (suc (sum_by (extra k) drives)) drives n
wire_rank k rank drives n s i pins cover (Pin p) is of = pin_rank k rank drives n s i pins cover p is of
wire_rank k rank drives n s i pins cover (Made j) is of =
    let here : new_rank k rank (suc (sum_by (extra k) drives)) drives n ≡ suc (sum_by (extra k) drives) * rank s + i = rank_at k rank (suc (sum_by (extra k) drives)) drives n s i (gate pins cover) is.at in
    let within : i < suc (extra k (gate pins cover)) = is.at.within in
    let earlier : IsAt (extra k) drives (first_number k drives s + j) s j (gate pins cover) = record { drive = is.at.drive; within = omega arith; index = refl } in
    let there : new_rank k rank (suc (sum_by (extra k) drives)) drives (first_number k drives s + j) ≡ suc (sum_by (extra k) drives) * rank s + j = rank_at k rank (suc (sum_by (extra k) drives)) drives (first_number k drives s + j) s j (gate pins cover) earlier in
    omega arith

rises_wide : (k : ℕ) (rank : ℕ → ℕ) (drives : List Drive) (n s i : ℕ) (pins : List ℕ) (cover : Rows) → IsPlace k rank drives n s i (gate pins cover)
    → ltb k (length pins) ≡ true
    → RisesTo (new_rank k rank (suc (sum_by (extra k) drives)) drives) n (get_or (gates_of cover.on (number k drives) (first_number k drives s) (pieces_of pins cover)) i (latch n false))
rises_wide k rank drives n s i pins cover is wide =
    let r : ℕ → ℕ = λ m. new_rank k rank (suc (sum_by (extra k) drives)) drives m in
    let within : i < suc (extra k (gate pins cover)) = is.at.within in
    let more : extra k (gate pins cover) ≡ length (pieces_of pins cover) - 1 = ap (λ b. cond b (length (pieces_of pins cover) - 1) 0) wide in
    let some : 0 < length (pieces_of pins cover) = some_pieces pins cover in
    let free : Bool = is_empty (rows_of_literals pins cover.rows) in
    let wired : AreWiredBy (is_empty (rows_of_literals pins cover.rows)) (λ p. Contains pins p) 0 (pieces_of pins cover) =
    pieces_wired (λ p. Contains pins p) (rows_of_literals pins cover.rows) (rows_wired_by (λ p. Contains pins p) pins cover.rows (All-contains_itself pins)) in
    let (piece, (polarity, (found, reads))) = gates_at free cover.on (number k drives) (first_number k drives s) (λ p. Contains pins p) 0 (pieces_of pins cover) i (latch n false) wired (omega arith) in
    let same : 0 + i ≡ i = omega arith in
    let reads_here : IsWiredBy (is_empty (rows_of_literals pins cover.rows)) (λ p. Contains pins p) i piece = subst (λ (m : ℕ). IsWiredBy (is_empty (rows_of_literals pins cover.rows)) (λ p. Contains pins p) m piece) same reads in
    let lower : (w : Wire) → IsWireBy (λ p. Contains pins p) i w → r (wire_number (number k drives) (first_number k drives s) w) < r n = λ w of. wire_rank k rank drives n s i pins cover w is of in
    subst (λ (e : Drive). RisesTo r n e) (sym found) (λ p has. piece_lower free r (number k drives) (first_number k drives s) (λ q. Contains pins q) i (r n) piece lower reads_here p has)

rises_for : (k : ℕ) (rank : ℕ → ℕ) (drives : List Drive) (n s i : ℕ) (d : Drive) → IsPlace k rank drives n s i d
    → RisesTo (new_rank k rank (suc (sum_by (extra k) drives)) drives) n (get_or (drives_for k (number k drives) (first_number k drives s) d) i (latch n false))
rises_for k rank drives n s zero input is =
    let here : new_rank k rank (suc (sum_by (extra k) drives)) drives n ≡ suc (sum_by (extra k) drives) * rank s + 0 = rank_at k rank (suc (sum_by (extra k) drives)) drives n s 0 input is.at in
    let low : rank s ≡ 0 = is.rises in
    let none : suc (sum_by (extra k) drives) * rank s ≡ suc (sum_by (extra k) drives) * 0 = ap (λ m. suc (sum_by (extra k) drives) * m) low in
    omega arith
rises_for k rank drives n s (suc i) input is =
    let within : suc i < suc 0 = is.at.within in
    absurd (omega arith)
rises_for k rank drives n s zero (latch next init) is =
    let here : new_rank k rank (suc (sum_by (extra k) drives)) drives n ≡ suc (sum_by (extra k) drives) * rank s + 0 = rank_at k rank (suc (sum_by (extra k) drives)) drives n s 0 (latch next init) is.at in
    let low : rank s ≡ 0 = is.rises in
    let none : suc (sum_by (extra k) drives) * rank s ≡ suc (sum_by (extra k) drives) * 0 = ap (λ m. suc (sum_by (extra k) drives) * m) low in
    omega arith
rises_for k rank drives n s (suc i) (latch next init) is =
    let within : suc i < suc 0 = is.at.within in
    absurd (omega arith)
rises_for k rank drives n s i (gate pins cover) is =
    rises_by_test (new_rank k rank (suc (sum_by (extra k) drives)) drives) n (ltb k (length pins)) (gates_of cover.on (number k drives) (first_number k drives s) (pieces_of pins cover)) (gate (map (number k drives) pins) cover ∷ []) i (latch n false)
    (λ wide. rises_wide k rank drives n s i pins cover is wide)
    (λ kept. rises_kept k rank drives n s i pins cover is kept)

pub new_ranks_rise : (k : ℕ) (c : Plain) → IsSound c → (n : ℕ)
    → RisesTo (new_rank k (rank c) (suc (sum_by (extra k) c.drives)) c.drives) n (drive_in (subject_of k c).drives n)
new_ranks_rise k c sound n =
    let size : length (subject_of k c).drives ≡ length c.drives + sum_by (extra k) c.drives = length-subject_of k c ∙ ap (λ ds. length c.drives + sum_by (extra k) ds) (take_all (length c.drives) c.drives (omega arith)) in
    elim (cases_lt n (length (subject_of k c).drives)) [
      | inl inside ↦
          let (s, (i, (d, at))) = located (extra k) c.drives n (omega arith) in
          let within : s < length c.drives = slice_get_within c.drives s d at.drive in
          let here : drive_in c.drives s ≡ d = get_or_from_slice_get c.drives s d (latch s false) at.drive in
          let reads : ReadsBelow (length c.drives) d = subst (λ (e : Drive). ReadsBelow (length c.drives) e) here (All-get_or (ReadsBelow (length c.drives)) c.drives s (latch s false) within sound.range.reads) in
          let rises : RisesTo (rank c) s d = subst (λ (e : Drive). RisesTo (rank c) s e) here (sound.ranked.rises s) in
          subst (λ (e : Drive). RisesTo (new_rank k (rank c) (suc (sum_by (extra k) c.drives)) c.drives) n e) (sym (drive_at k c s i n d at))
          (rises_for k (rank c) c.drives n s i d (record { at = at; reads = reads; rises = rises }))
      | inr past ↦
          let none : drive_in (subject_of k c).drives n ≡ latch n false = get_or_past (subject_of k c).drives n (latch n false) past in
          let long : length (in_places (ranks_at k (rank c) (suc (sum_by (extra k) c.drives))) 0 c.drives) ≡ length c.drives + sum_by (extra k) c.drives =
          length-in_places (ranks_at k (rank c) (suc (sum_by (extra k) c.drives))) (extra k) (λ t e. length-steps (suc (sum_by (extra k) c.drives) * rank c t) (suc (extra k e))) 0 c.drives in
          let zero_rank : new_rank k (rank c) (suc (sum_by (extra k) c.drives)) c.drives n ≡ 0 = get_or_past (in_places (ranks_at k (rank c) (suc (sum_by (extra k) c.drives))) 0 c.drives) n 0 (omega arith) in
          subst (λ (e : Drive). RisesTo (new_rank k (rank c) (suc (sum_by (extra k) c.drives)) c.drives) n e) (sym none) zero_rank
    ]

pub subject_no_circle : (k : ℕ) (c : Plain) → IsSound c → HasCircle (subject_of k c).drives → ⊥
subject_no_circle k c sound =
    ranked-no_circle (subject_of k c).drives (new_rank k (rank c) (suc (sum_by (extra k) c.drives)) c.drives) (record { rises = new_ranks_rise k c sound })
