-- Tables in slots.
use Rattle.std.proofs.Common.{◌≡◌, ◌≢◌, ℕ, zero, suc, ◌+◌, ◌<◌, ◌≤◌, List, [], ◌∷◌, ◌++◌, length, map, get_or, set, Option, None, Some, refl, sym, ◌∙◌, ap, subst, inl, inr, arith, zero-add}
use Rattle.std.specs.Prelude.{◌⊎◌, Contains, All, AllPairs, slice_index_or}
use Rattle.std.specs.Option.{option_map}
use Rattle.std.proofs.lemmas.List.{get_or-set_same, get_or-set_other}
use Rattle.std.proofs.lemmas.List.Kept.{AllPairs-cons}
use Rattle.tm_circuit.proofs.ListLemmas.{contains-first, contains-rest, contains-cases, contains-none}
use Rattle.tm_unroll.specs.declared.node.Lut.{Lut}
use Rattle.tm_unroll.specs.Mappings.{Table, table_of}
use Rattle.tm_absorb.specs.Slots.{slot_in, present, AreOwn}

-- What is read within a list stands in it.
pub contains-read : {A : Type 0} (xs : List A) (k : ℕ) (d : A) → k < length xs → Contains xs (slice_index_or xs k d)
contains-read [] k d inside = absurd (omega arith)
contains-read (x ∷ xs) zero d inside = contains-first x xs
contains-read (x ∷ xs) (suc k) d inside = contains-rest x xs (slice_index_or xs k d) (contains-read xs k d (omega arith))

-- What holds of all that stands in a list holds of each element.
pub all-contained : {A : Type 0} (P : A → Type 0) (xs : List A) → ((x : A) → Contains xs x → P x) → All P xs
all-contained P xs each k d inside = each (slice_index_or xs k d) (contains-read xs k d inside)

-- A table in a slot is present.
pub present-has : (slots : List (Option Lut)) (g : ℕ) (t : Table) → slot_in slots g ≡ Some t → Contains (present slots) t
present-has [] g t is = absurd cc
present-has (None ∷ slots) zero t is = absurd cc
present-has (Some lut ∷ slots) zero t is =
    let same : table_of lut ≡ t = cc in subst (λ (u : Table). Contains (present (Some lut ∷ slots)) u) same (contains-first (table_of lut) (present slots))
present-has (None ∷ slots) (suc g) t is = present-has slots g t is
present-has (Some lut ∷ slots) (suc g) t is = contains-rest (table_of lut) (present slots) t (present-has slots g t is)

-- A table that is present stands in a slot.
pub present-at : (slots : List (Option Lut)) (t : Table) → Contains (present slots) t → (g : ℕ) × (slot_in slots g ≡ Some t)
present-at [] t stands = absurd (contains-none t stands)
present-at (None ∷ slots) t stands = let later = present-at slots t stands in (suc later.0, later.1)
present-at (Some lut ∷ slots) t stands =
    elim (contains-cases (table_of lut) (present slots) t stands) [
      | inl first ↦ (zero, ap Some first)
      | inr rest ↦ let later = present-at slots t rest in (suc later.0, later.1)
    ]

-- A table that is present stands in the slot of its gate.
pub present-own : (slots : List (Option Lut)) (t : Table) → AreOwn slots → Contains (present slots) t → slot_in slots t.gate ≡ Some t
present-own slots t own stands =
    let at = present-at slots t stands in
    subst (λ g. slot_in slots g ≡ Some t) (sym (own at.0 t at.1)) at.1

-- What stands in slots ascends.
ascends_from : (slots : List (Option Lut)) (base : ℕ) → ((g : ℕ) (t : Table) → slot_in slots g ≡ Some t → t.gate ≡ base + g)
    → AllPairs (λ t u. t.gate < u.gate) (present slots)
ascends_from [] base own = λ i j d before inside. absurd (omega arith)
ascends_from (None ∷ slots) base own = ascends_from slots (suc base) (λ g t is. let at = own (suc g) t is in omega (arith, at))
ascends_from (Some lut ∷ slots) base own =
    AllPairs-cons (λ (t u : Table). t.gate < u.gate) (table_of lut) (present slots)
    (all-contained (λ (u : Table). lut.gate < u.gate) (present slots) (λ u stands.
    let at = present-at slots u stands in
    let later = own (suc at.0) u at.1 in
    let first = own zero (table_of lut) refl in
    omega (arith, later, first)))
    (ascends_from slots (suc base) (λ g t is. let at = own (suc g) t is in omega (arith, at)))

pub present-ascends : (slots : List (Option Lut)) → AreOwn slots → AllPairs (λ t u. t.gate < u.gate) (present slots)
present-ascends slots own = ascends_from slots 0 (λ g t is. own g t is ∙ sym (zero-add g))

-- A slot that has a table is one of the slots.
pub slot-within : (slots : List (Option Lut)) (g : ℕ) (t : Table) → slot_in slots g ≡ Some t → g < length slots
slot-within [] g t is = absurd cc
slot-within (slot ∷ slots) zero t is = omega arith
slot-within (slot ∷ slots) (suc g) t is = let inside = slot-within slots g t is in omega arith

-- A slot that is written, and the others.
pub slot-set_same : (slots : List (Option Lut)) (g : ℕ) (slot : Option Lut) → g < length slots → slot_in (set slots g slot) g ≡ option_map table_of slot
slot-set_same slots g slot inside = ap (option_map table_of) (get_or-set_same slots g slot None inside)

pub slot-set_other : (slots : List (Option Lut)) (g h : ℕ) (slot : Option Lut) → h ≢ g → slot_in (set slots g slot) h ≡ slot_in slots h
slot-set_other slots g h slot apart = ap (option_map table_of) (get_or-set_other slots g h slot None apart)

-- Slots with one more at the end.
pub present-push : (slots : List (Option Lut)) (lut : Lut) → present (slots ++ Some lut ∷ []) ≡ present slots ++ table_of lut ∷ []
present-push [] lut = refl
present-push (None ∷ slots) lut = present-push slots lut
present-push (Some first ∷ slots) lut = ap (λ (ts : List Table). table_of first ∷ ts) (present-push slots lut)

pub present-pad : (slots : List (Option Lut)) → present (slots ++ None ∷ []) ≡ present slots
present-pad [] = refl
present-pad (None ∷ slots) = present-pad slots
present-pad (Some first ∷ slots) = ap (λ (ts : List Table). table_of first ∷ ts) (present-pad slots)

-- What stands in slots with one more at the end.
pub slot-push : (slots : List (Option Lut)) (slot : Option Lut) (g : ℕ) (t : Table) → slot_in (slots ++ slot ∷ []) g ≡ Some t
    → (slot_in slots g ≡ Some t) ⊎ ((g ≡ length slots) × (option_map table_of slot ≡ Some t))
slot-push [] slot zero t is = inr (refl, is)
slot-push [] slot (suc g) t is = absurd cc
slot-push (first ∷ slots) slot zero t is = inl is
slot-push (first ∷ slots) slot (suc g) t is = elim (slot-push slots slot g t is) [ inl before ↦ inl before | inr here ↦ inr (omega (arith, here.0), here.1) ]

pub own-pad : (slots : List (Option Lut)) → AreOwn slots → AreOwn (slots ++ None ∷ [])
own-pad slots own g t is = elim (slot-push slots None g t is) [ inl before ↦ own g t before | inr here ↦ absurd (let never : None ≡ Some t = here.1 in cc) ]

pub own-push : (slots : List (Option Lut)) (lut : Lut) → lut.gate ≡ length slots → AreOwn slots → AreOwn (slots ++ Some lut ∷ [])
own-push slots lut place own g t is =
    elim (slot-push slots (Some lut) g t is) [
      | inl before ↦ own g t before
      | inr here ↦ let same : table_of lut ≡ t = (let e : Some (table_of lut) ≡ Some t = here.1 in cc) in sym (ap (λ (u : Table). u.gate) same) ∙ place ∙ sym here.0
    ]
