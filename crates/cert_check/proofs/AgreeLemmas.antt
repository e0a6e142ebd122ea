-- Drives and circuits that agree, place by place.
use Rattle.std.proofs.Common.{◌≡◌, ℕ, zero, suc, ◌+◌, ◌^◌, ◌<◌, Bool, false, List, [], ◌∷◌, length, All, Some, slice_get, refl, sym, ◌∙◌, ap, subst, get_or, below_more, arith}
use Rattle.std.specs.Prelude.{◌↔◌, IsTrue}
use Rattle.std.specs.List.{AllZip}
use Rattle.std.proofs.lemmas.Bool.{both_ways}
use Rattle.std.proofs.lemmas.Option.{slice_get_read, slice_get_within, get_or_from_slice_get}
use Rattle.tm_bits.specs.Rows.{Rows, holds}
use Rattle.tm_bits.specs.Tables.{bit_of, bits_of, row_number, IsTableOf, AreValuesAt}
use Rattle.tm_bits.proofs.RowNumbers.{row_number-lt, length-bits_of}
use Rattle.tm_circuit.specs.Plain.{Drive, input, latch, gate, drive_in}
use Rattle.tm_circuit.specs.Sound.{FitsPins}
use Rattle.tm_mapped.proofs.ListLemmas.{drive-rest}
use Rattle.cert_check.specs.Agreement.{HaveSameValues, DrivesAgree}

-- ---- drives

pub agree_itself : (d : Drive) → DrivesAgree d d
agree_itself input = tt
agree_itself (latch next init) = (refl, refl)
agree_itself (gate pins cover) = (refl, λ bits long. refl)

pub agree_same : (d e : Drive) → d ≡ e → DrivesAgree d e
agree_same d e same = subst (λ x. DrivesAgree d x) same (agree_itself d)

pub agree_with_input : (d : Drive) → DrivesAgree input d → d ≡ input
agree_with_input input agree = refl
agree_with_input (latch next init) agree = absurd agree
agree_with_input (gate pins cover) agree = absurd agree

pub agree_with_latch : (next : ℕ) (init : Bool) (d : Drive) → DrivesAgree (latch next init) d → d ≡ latch next init
agree_with_latch next init input agree = absurd agree
agree_with_latch next init (latch n i) agree = let e = agree.0 in let f = agree.1 in cc
agree_with_latch next init (gate pins cover) agree = absurd agree

-- A gate that agrees with one.
pub record IsGateLike (pins : List ℕ) (cover : Rows) (d : Drive) : Type 0 where
  pub other : Rows
  pub is : d ≡ gate pins other
  pub values : HaveSameValues (length pins) cover other

pub agree_with_gate : (pins : List ℕ) (cover : Rows) (d : Drive) → DrivesAgree (gate pins cover) d → IsGateLike pins cover d
agree_with_gate pins cover input agree = absurd agree
agree_with_gate pins cover (latch next init) agree = absurd agree
agree_with_gate pins cover (gate own other) agree = record { other = other; is = ap (λ ps. gate ps other) (sym agree.0); values = agree.1 }

-- ---- lists

-- Drives that agree one by one agree at every number: past the end both are the same latch.
zip_at : (xs ys : List Drive) (e : Drive) → AllZip DrivesAgree xs ys → (i : ℕ) → DrivesAgree (get_or xs i e) (get_or ys i e)
zip_at [] [] e zip i = agree_itself e
zip_at [] (y ∷ ys) e zip i = absurd zip
zip_at (x ∷ xs) [] e zip i = absurd zip
zip_at (x ∷ xs) (y ∷ ys) e zip zero = zip.0
zip_at (x ∷ xs) (y ∷ ys) e zip (suc i) = zip_at xs ys e zip.1 i

pub drives_at : (xs ys : List Drive) → AllZip DrivesAgree xs ys → (i : ℕ) → DrivesAgree (drive_in xs i) (drive_in ys i)
drives_at xs ys zip i = zip_at xs ys (latch i false) zip i

pub drives_zip : (xs ys : List Drive) → length xs ≡ length ys → ((i : ℕ) → i < length xs → DrivesAgree (drive_in xs i) (drive_in ys i)) → AllZip DrivesAgree xs ys
drives_zip [] [] long each = tt
drives_zip [] (y ∷ ys) long each = absurd (omega arith)
drives_zip (x ∷ xs) [] long each = absurd (omega arith)
drives_zip (x ∷ xs) (y ∷ ys) long each = (
  each zero (omega arith),
  drives_zip xs ys (omega arith) (λ i within.
      subst (λ d. DrivesAgree d (drive_in ys i)) (drive-rest x xs i within)
      (subst (λ d. DrivesAgree (drive_in (x ∷ xs) (suc i)) d) (drive-rest y ys i (omega arith)) (each (suc i) (omega arith)))),
)

-- Lists that are as long and have the same at each place are one.
pub same_by_places : {X : Type 0} (xs ys : List X) → length xs ≡ length ys → ((i : ℕ) → i < length xs → slice_get xs i ≡ slice_get ys i) → xs ≡ ys
same_by_places [] [] long each = refl
same_by_places [] (y ∷ ys) long each = absurd (omega arith)
same_by_places (x ∷ xs) [] long each = absurd (omega arith)
same_by_places (x ∷ xs) (y ∷ ys) long each =
    let first : Some x ≡ Some y = each zero (omega arith) in
    let rest = same_by_places xs ys (omega arith) (λ i within. each (suc i) (omega arith)) in
    cc

-- ---- places of lists

pub read_same : {X : Type 0} (xs ys : List X) (i : ℕ) (x y : X) → xs ≡ ys → i < length xs → x ≡ get_or xs i x → y ≡ get_or ys i y → x ≡ y
read_same {X} xs ys i x y same within at_x at_y =
    let read_x : slice_get xs i ≡ Some x = slice_get_read xs (length xs) i x refl within at_x in
    let read_y : slice_get ys i ≡ Some y = slice_get_read ys (length xs) i y (ap (λ (zs : List X). length zs) same) within at_y in
    let read : slice_get xs i ≡ slice_get ys i = ap (λ (zs : List X). slice_get zs i) same in
    cc

pub places_more : {X : Type 0} (xs ys : List X) (i : ℕ) (x y : X) → ((k : ℕ) → k < i → slice_get xs k ≡ slice_get ys k) → i < length xs → length xs ≡ length ys
    → x ≡ get_or xs i x → y ≡ get_or ys i y → x ≡ y → (k : ℕ) → k < i + 1 → slice_get xs k ≡ slice_get ys k
places_more xs ys i x y before within long at_x at_y same =
    below_more _ i before (slice_get_read xs (length xs) i x refl within at_x ∙ (ap Some same ∙ sym (slice_get_read ys (length xs) i y long within at_y)))

-- ---- covers and gates

pub values_from_bits : (one other : Rows) (pins inputs : ℕ) (words words' : List ℕ) (b : Bool) → inputs ≡ pins → AreValuesAt (holds one) pins words
    → AreValuesAt (holds other) pins words' → IsTableOf (holds one) pins words → IsTableOf (holds other) pins words'
    → IsTrue b ↔ ((row : ℕ) → row < 2 ^ inputs → bit_of words row ≡ bit_of words' row) → IsTrue b ↔ HaveSameValues pins one other
values_from_bits one other pins inputs words words' b many at_one at_other on_one on_other same = (
  λ yes bits long.
      let low : row_number bits < 2 ^ inputs = subst (λ n. row_number bits < 2 ^ n) (long ∙ sym many) (row_number-lt bits) in
      at_one bits long ∙ (same.0 yes (row_number bits) low ∙ sym (at_other bits long)),
  λ values. same.1 (λ row low.
      let low' : row < 2 ^ pins = subst (λ n. row < 2 ^ n) many low in
      on_one row low' ∙ (values (bits_of pins row) (length-bits_of pins row) ∙ sym (on_other row low'))),
)

pub gate_agrees : (pins own : List ℕ) (cover other : Rows) (e : Drive) (b : Bool) → e ≡ gate own other → pins ≡ own
    → IsTrue b ↔ HaveSameValues (length pins) cover other → IsTrue b ↔ DrivesAgree (gate pins cover) e
gate_agrees pins own cover other e b is same values = (
  λ yes. subst (λ d. DrivesAgree (gate pins cover) d) (sym is) (same, values.0 yes),
  λ agree. values.1 ((subst (λ d. DrivesAgree (gate pins cover) d) is agree).1),
)

pub gate_differs : (pins own : List ℕ) (cover other : Rows) (e : Drive) (b : Bool) → e ≡ gate own other → (pins ≡ own → ⊥) → b ≡ false
    → IsTrue b ↔ DrivesAgree (gate pins cover) e
gate_differs pins own cover other e b is differs off = (
  λ yes. absurd (both_ways b off yes),
  λ agree. absurd (differs ((subst (λ d. DrivesAgree (gate pins cover) d) is agree).0)),
)

pub fits_at : (drives : List Drive) (s : ℕ) (d : Drive) → All FitsPins drives → slice_get drives s ≡ Some d → FitsPins d
fits_at drives s d all at =
    subst FitsPins (get_or_from_slice_get drives s d (latch s false) at) (all s (latch s false) (slice_get_within drives s d at))
