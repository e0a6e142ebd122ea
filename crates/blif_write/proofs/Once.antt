-- Statements spell one circuit: what a signal reads is found by its name, and no two names are the same.
use Rattle.std.proofs.Common.{◌≡◌, ◌≢◌, ℕ, zero, suc, ◌<◌, List, [], ◌∷◌, length, get_or, map, Some, refl, sym, ap, ◌∙◌, subst, inl, inr, arith}
use Rattle.std.specs.Prelude.{slice_get}
use Rattle.std.specs.List.{AllByRecursion}
use Rattle.std.proofs.lemmas.Bool.{cases_lt}
use Rattle.std.proofs.lemmas.Option.{slice_get-get_or, slice_get_within, get_or_from_slice_get}
use Rattle.std.proofs.lemmas.List.Elements.{recursion_from_All}
use Rattle.tm_circuit.specs.Plain.{Plain, Drive}
use Rattle.tm_circuit.specs.Plain as plain
use Rattle.tm_circuit.specs.Sound.{IsSound, ReadsBelow}
use Rattle.blif_read.specs.Unit.{Model}
use Rattle.blif_read.specs.Circuit.{reading, IsSpelled}
use Rattle.blif_write.proofs.Faults.{AreApart}

pub apart_get : (names : List (List ℕ)) (i j : ℕ) → AreApart names → i < j → j < length names → get_or names i [] ≢ get_or names j []
apart_get [] i j h below inside = absurd (omega arith)
apart_get (n ∷ names) i zero h below inside = absurd (omega arith)
apart_get (n ∷ names) zero (suc j) h below inside = at names j h.0 (omega arith)
  where
    at : (ms : List (List ℕ)) (k : ℕ) → AllByRecursion (λ m. n ≢ m) ms → k < length ms → n ≢ get_or ms k []
    at [] k g inside' = absurd (omega arith)
    at (m ∷ ms) zero g inside' = g.0
    at (m ∷ ms) (suc k) g inside' = at ms k g.1 (omega arith)
apart_get (n ∷ names) (suc i) (suc j) h below inside = apart_get names i j h.1 (omega arith) (omega arith)

-- A name is found at one place.
found_once : (names : List (List ℕ)) (i j : ℕ) → AreApart names → i < length names → slice_get names j ≡ slice_get names i → j ≡ i
found_once names i j h inside e =
    let here : slice_get names j ≡ Some (get_or names i []) = e ∙ slice_get-get_or names i [] inside in
    let within : j < length names = slice_get_within names j (get_or names i []) here in
    let same : get_or names j [] ≡ get_or names i [] = get_or_from_slice_get names j (get_or names i []) [] here in
    elim (cases_lt i j) [
      | inl below ↦ absurd (apart_get names i j h below within (sym same))
      | inr past ↦ elim (cases_lt j i) [ inl below ↦ absurd (apart_get names j i h below inside same) | inr past' ↦ omega arith ]
    ]

all_found : (names : List (List ℕ)) (ss ts : List ℕ) → AreApart names → AllByRecursion (λ s. s < length names) ss → map (λ t. slice_get names t) ts ≡ map (λ s. slice_get names s) ss → ts ≡ ss
all_found names [] [] h inside e = refl
all_found names [] (t ∷ ts) h inside e = absurd (cc)
all_found names (s ∷ ss) [] h inside e = absurd (cc)
all_found names (s ∷ ss) (t ∷ ts) h inside e =
    let first : slice_get names t ≡ slice_get names s = cc in
    let others : map (λ u. slice_get names u) ts ≡ map (λ u. slice_get names u) ss = cc in
    let x : t ≡ s = found_once names s t h inside.0 first in
    let xs : ts ≡ ss = all_found names ss ts h inside.1 others in
    ap (λ u. u ∷ ts) x ∙ ap (λ us. s ∷ us) xs

drive_once : (names : List (List ℕ)) (d e : Drive) → AreApart names → ReadsBelow (length names) d → reading names e ≡ reading names d → e ≡ d
drive_once names plain.input plain.input h r same = refl
drive_once names plain.input (plain.latch next init) h r same = absurd (cc)
drive_once names plain.input (plain.gate pins cover) h r same = absurd (cc)
drive_once names (plain.latch next init) plain.input h r same = absurd (cc)
drive_once names (plain.latch next init) (plain.gate pins cover) h r same = absurd (cc)
drive_once names (plain.latch next init) (plain.latch other start) h r same =
    let first : slice_get names other ≡ slice_get names next = cc in
    let value : start ≡ init = cc in
    ap (λ n. plain.latch n start) (found_once names next other h r first) ∙ ap (λ b. plain.latch next b) value
drive_once names (plain.gate pins cover) plain.input h r same = absurd (cc)
drive_once names (plain.gate pins cover) (plain.latch next init) h r same = absurd (cc)
drive_once names (plain.gate pins cover) (plain.gate others rows) h r same =
    let first : map (slice_get names) others ≡ map (slice_get names) pins = cc in
    let value : rows ≡ cover = cc in
    ap (λ ps. plain.gate ps rows) (all_found names pins others h (recursion_from_All (λ p. p < length names) pins r) first) ∙ ap (λ v. plain.gate pins v) value

drives_once : (names : List (List ℕ)) (ds es : List Drive) → AreApart names → AllByRecursion (ReadsBelow (length names)) ds → map (reading names) es ≡ map (reading names) ds → es ≡ ds
drives_once names [] [] h r same = refl
drives_once names [] (e ∷ es) h r same = absurd (cc)
drives_once names (d ∷ ds) [] h r same = absurd (cc)
drives_once names (d ∷ ds) (e ∷ es) h r same =
    let first : reading names e ≡ reading names d = cc in
    let others : map (reading names) es ≡ map (reading names) ds = cc in
    ap (λ x. x ∷ es) (drive_once names d e h r.0 first) ∙ ap (λ xs. d ∷ xs) (drives_once names ds es h r.1 others)

same_parts : (c other : Plain) → other.model ≡ c.model → other.clock ≡ c.clock → other.names ≡ c.names → other.drives ≡ c.drives → other.outputs ≡ c.outputs → other ≡ c
same_parts c other m k n d o = λ i. record { model = m i; clock = k i; names = n i; drives = d i; outputs = o i }

-- A model spells one circuit with names apart.
pub spelled_once : (m : Model) (c other : Plain) → IsSound c → AreApart c.names → IsSpelled m c → IsSpelled m other → other ≡ c
spelled_once m c other sound apart one two =
    let names : other.names ≡ c.names = two.names ∙ sym one.names in
    let reads : map (reading c.names) other.drives ≡ map (reading c.names) c.drives = ap (λ ns. map (reading ns) other.drives) (sym names) ∙ two.drives ∙ sym one.drives in
    let P : ℕ → Type 0 = λ n. AllByRecursion (ReadsBelow n) c.drives in
    let Q : ℕ → Type 0 = λ n. AllByRecursion (λ s. s < n) c.outputs in
    let drives : other.drives ≡ c.drives = drives_once c.names c.drives other.drives apart (subst P (sym sound.named) (recursion_from_All (ReadsBelow (length c.drives)) c.drives sound.range.reads)) reads in
    let shows : map (slice_get c.names) other.outputs ≡ map (slice_get c.names) c.outputs = ap (λ ns. map (slice_get ns) other.outputs) (sym names) ∙ two.outputs ∙ sym one.outputs in
    let outputs : other.outputs ≡ c.outputs = all_found c.names c.outputs other.outputs apart (subst Q (sym sound.named) (recursion_from_All (λ s. s < length c.drives) c.outputs sound.range.outputs)) shows in
    same_parts c other (two.model ∙ sym one.model) (two.clock ∙ sym one.clock) names drives outputs
