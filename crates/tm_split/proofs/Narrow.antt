-- A circuit without wide gates is its own subject circuit.
use Rattle.std.proofs.Common.{◌≡◌, ℕ, zero, suc, ◌+◌, ◌-◌, ◌<◌, ◌≤◌, Bool, true, false, cond, List, [], ◌∷◌, ◌++◌, map, length, get_or, drop, take, refl, sym, ◌∙◌, ap, subst, arith}
use Rattle.std.specs.Prelude.{All, sum_by, nat_lt}
use Rattle.std.proofs.lemmas.Bool.{le-ltb}
use Rattle.std.proofs.lemmas.List.{drop_all, drop_more, map-id}
use Rattle.std.proofs.lemmas.List.Sums.{sum_by-cons}
use Rattle.tm_circuit.specs.Plain.{Plain, Drive, input, latch, gate, pins_of, greatest, widest}
use Rattle.tm_circuit.specs.Sound.{IsSound}
use Rattle.tm_parts.specs.Runs.{joiner_of}
use Rattle.tm_split.specs.Names.{tilde, piece_names}
use Rattle.tm_split.specs.Pieces.{pieces_of}
use Rattle.tm_split.specs.Subject.{extra, first_number, number, gates_of, drives_for, names_for, in_places, drives_at, names_at, subject_of}

module _ (k : ℕ) where
  -- No drive of a list has more than K pins.
  abbrev AreNarrow : List Drive → Type 0
  AreNarrow ds = widest ds ≤ k

  narrow_first : (d : Drive) (ds : List Drive) → AreNarrow (d ∷ ds) → length (pins_of d) ≤ k
  narrow_first d ds h = omega arith

  narrow_rest : (d : Drive) (ds : List Drive) → AreNarrow (d ∷ ds) → AreNarrow ds
  narrow_rest d ds h = omega arith

  none_made : (d : Drive) → length (pins_of d) ≤ k → extra k d ≡ 0
  none_made input h = refl
  none_made (latch next init) h = refl
  none_made (gate pins cover) h = ap (λ b. cond b (length (pieces_of pins cover) - 1) 0) (le-ltb k (length pins) h)

  none_before : (ds : List Drive) (n : ℕ) → AreNarrow ds → sum_by (extra k) (take n ds) ≡ 0
  none_before ds zero h = refl
  none_before [] (suc n) h = refl
  none_before (d ∷ ds) (suc n) h =
      sum_by-cons (extra k) d (take n ds) ∙ omega (arith, none_made d (narrow_first d ds h), none_before ds n (narrow_rest d ds h))

  module _ (c : Plain) (narrow : AreNarrow c.drives) where
    own_number : (s : ℕ) → number k c.drives s ≡ s
    own_number s = omega (arith, none_before c.drives (suc s) narrow)

    own_numbers : (pins : List ℕ) → map (number k c.drives) pins ≡ pins
    own_numbers [] = refl
    own_numbers (p ∷ ps) = ap (λ q. q ∷ map (number k c.drives) ps) (own_number p) ∙ ap (λ qs. p ∷ qs) (own_numbers ps)

    own_drive : (s : ℕ) (d : Drive) → length (pins_of d) ≤ k → drives_at k c s d ≡ d ∷ []
    own_drive s input h = refl
    own_drive s (latch next init) h = ap (λ n. latch n init ∷ []) (own_number next)
    own_drive s (gate pins cover) h =
        ap (λ b. cond b (gates_of cover.on (number k c.drives) (first_number k c.drives s) (pieces_of pins cover)) (gate (map (number k c.drives) pins) cover ∷ []))
        (le-ltb k (length pins) h)
        ∙ ap (λ ps. gate ps cover ∷ []) (own_numbers pins)

    own_drives : (s : ℕ) (ds : List Drive) → AreNarrow ds → in_places (drives_at k c) s ds ≡ ds
    own_drives s [] h = refl
    own_drives s (d ∷ ds) h =
        ap (λ here. here ++ in_places (drives_at k c) (suc s) ds) (own_drive s d (narrow_first d ds h))
        ∙ ap (λ rest. d ∷ rest) (own_drives (suc s) ds (narrow_rest d ds h))

    own_name : (s : ℕ) (d : Drive) → length (pins_of d) ≤ k → names_at k c s d ≡ get_or c.names s [] ∷ []
    own_name s input h = refl
    own_name s (latch next init) h = refl
    own_name s (gate pins cover) h =
        ap (λ b. cond b (piece_names (get_or c.names s []) (joiner_of tilde c) 1 (pieces_of pins cover)) (get_or c.names s [] ∷ []))
        (le-ltb k (length pins) h)

    own_names : (s : ℕ) (ds : List Drive) → AreNarrow ds → s + length ds ≡ length c.names → in_places (names_at k c) s ds ≡ drop s c.names
    own_names s [] h all = sym (drop_all s c.names (omega arith))
    own_names s (d ∷ ds) h all =
        ap (λ here. here ++ in_places (names_at k c) (suc s) ds) (own_name s d (narrow_first d ds h))
        ∙ (ap (λ rest. get_or c.names s [] ∷ rest) (own_names (suc s) ds (narrow_rest d ds h) (omega arith))
        ∙ sym (subst (λ n. drop s c.names ≡ get_or c.names s [] ∷ drop n c.names) {x = s + 1} {y = suc s} (omega arith) (drop_more c.names s [] (omega arith))))

  pub narrow_subject : (c : Plain) → IsSound c → widest c.drives ≤ k → subject_of k c ≡ c
  unfolding subject_of
  narrow_subject c sound narrow =
      ap (λ ns. record { model = c.model; clock = c.clock; names = ns; drives = in_places (drives_at k c) 0 c.drives; outputs = map (number k c.drives) c.outputs })
      (own_names c narrow 0 c.drives narrow (omega (arith, sound.named)))
      ∙ (ap (λ ds. record { model = c.model; clock = c.clock; names = c.names; drives = ds; outputs = map (number k c.drives) c.outputs })
      (own_drives c narrow 0 c.drives narrow)
      ∙ ap (λ os. record { model = c.model; clock = c.clock; names = c.names; drives = c.drives; outputs = os }) (own_numbers c narrow c.outputs))
