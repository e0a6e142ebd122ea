-- Words of a line, seen as lists of bytes.
use Rattle.std.proofs.Common.{◌≡◌, ◌-◌, take, ℕ, Bool, true, false, not, ◌||◌, ◌&&◌, List, [], ◌∷◌, length, refl, sym, ap, bytes_eq}
use Rattle.std.specs.Borrow.{Bor}
use Rattle.std.proofs.lemmas.List.{length-map, take-map}
use Rattle.std.proofs.Common.{Option, None, Some, codes, ◌++◌, option_to_list, slice_get}
use Rattle.std.specs.List.{list_any, list_all}
use Rattle.std.specs.Option.{option_or}
use Rattle.std.proofs.lemmas.Slice.Eq.{bytes_eq-Decides}
use Rattle.blif_unit.proofs.NameLemmas.{list_any-map}
use Rattle.blif_models.specs.Words.{texts, differ_from, bit_in}
use Rattle.blif_models.specs.Statement.{but_last, is_bit, differ}

pub length_texts : (ws : List (Bor (List ℕ))) → length (texts ws) ≡ length ws
length_texts ws = length-map ws (λ w. w.now)

pub texts-take : (n : ℕ) (ws : List (Bor (List ℕ))) → texts (take n ws) ≡ take n (texts ws)
texts-take n ws = sym (take-map (λ w. w.now) n ws)

pub texts-before : (n : ℕ) (ws : List (Bor (List ℕ))) → n ≡ length ws - 1 → texts (take n ws) ≡ but_last (texts ws)
texts-before n ws e = rw (length_texts ws, ← e) (texts-take n ws)

-- some word is another than the clock's, read through the slices
pub differ_from_texts : (clock : List ℕ) (ws : List (Bor (List ℕ)))
    → list_any (λ w. not (bytes_eq clock w.now)) ws ≡ differ_from (Some clock) (texts ws)
differ_from_texts clock ws = sym (list_any-map (λ w. w.now) (λ n. not (bytes_eq clock n)) ws)

pub bytes_eq-refl : (n : List ℕ) → bytes_eq n n ≡ true
bytes_eq-refl n = (bytes_eq-Decides n n).1 refl

-- names that differ from their first are those that differ from the clock seen first
pub differ_first : (clock : Option (List ℕ)) (ws : List (List ℕ))
    → differ (option_to_list clock ++ ws) ≡ differ_from (option_or clock (slice_get ws 0)) ws
differ_first None [] = refl
differ_first None (n ∷ ns) = sym (ap (λ b. not b || list_any (λ m. not (bytes_eq n m)) ns) (bytes_eq-refl n))
differ_first (Some clock) ws = refl

pub bit_in_some : (w : List ℕ) (b : Bool) → bit_in w ≡ Some b → (is_bit w ≡ true) × (b ≡ bytes_eq w (codes "1"))
bit_in_some w b e = by_test (is_bit w) refl
  where
    by_test : (t : Bool) → is_bit w ≡ t → (is_bit w ≡ true) × (b ≡ bytes_eq w (codes "1"))
    by_test true is = (is, let h = rw is at e in cc)
    by_test false is = let h = rw is at e in cc

-- each word passes a test, read through the slices
pub list_all-texts : (p : List ℕ → Bool) (ws : List (Bor (List ℕ))) → list_all p (texts ws) ≡ list_all (λ w. p w.now) ws
list_all-texts p [] = refl
list_all-texts p (w ∷ ws) = ap (λ b. p w.now && b) (list_all-texts p ws)
