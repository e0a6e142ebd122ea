-- Drives that are the same but for their covers: kinds, pins, numbers and chains.
use Rattle.std.proofs.Common.{◌≡◌, ℕ, ◌≤◌, Bool, false, cond, inl, inr, List, [], ◌∷◌, map, length, refl, sym, ◌∙◌, ap, subst, arith}
use Rattle.std.specs.Prelude.{count_by}
use Rattle.std.specs.List.{AllZip}
use Rattle.std.proofs.lemmas.Bool.{cases_lt}
use Rattle.std.proofs.lemmas.List.{get_or_past}
use Rattle.std.proofs.lemmas.List.Elements.{AllZip-get_or, length_all_zip}
use Rattle.std.proofs.lemmas.List.Sums.{sum_by-cons}
use Rattle.tm_bits.specs.Rows.{Rows}
use Rattle.tm_circuit.specs.Plain.{Drive, input, latch, gate, drive_in, is_input, is_latch, is_gate, pins_of, greatest, widest}
use Rattle.tm_circuit.specs.Chain.{IsPinOfFirst, IsChain}
use Rattle.tm_prime.specs.Covers.{IsPrimeOf, IsPrimeDrive}

-- ---- one drive

-- What holds of inputs, of latches, and of gates with one list of pins, where one's cover is a prime cover of the other's table,
-- holds of a drive and the same with a prime cover.
pub by_kind : (P : Drive → Drive → Type 0) → P input input → ((next : ℕ) (init : Bool) → P (latch next init) (latch next init))
    → ((pins : List ℕ) (cover prime : Rows) → IsPrimeOf (length pins) cover prime → P (gate pins cover) (gate pins prime))
    → (d e : Drive) → IsPrimeDrive d e → P d e
by_kind P at_input at_latch at_gate input input is = at_input
by_kind P at_input at_latch at_gate input (latch next init) is = absurd is
by_kind P at_input at_latch at_gate input (gate pins cover) is = absurd is
by_kind P at_input at_latch at_gate (latch next init) input is = absurd is
by_kind P at_input at_latch at_gate (latch next init) (latch next' init') is =
    subst (λ n. P (latch next init) (latch n init')) is.0 (subst (λ b. P (latch next init) (latch next b)) is.1 (at_latch next init))
by_kind P at_input at_latch at_gate (latch next init) (gate pins cover) is = absurd is
by_kind P at_input at_latch at_gate (gate pins cover) input is = absurd is
by_kind P at_input at_latch at_gate (gate pins cover) (latch next init) is = absurd is
by_kind P at_input at_latch at_gate (gate pins cover) (gate pins' cover') is =
    subst (λ ps. P (gate pins cover) (gate ps cover')) is.0 (at_gate pins cover cover' is.1)

pub same_input : (d e : Drive) → IsPrimeDrive d e → is_input d ≡ is_input e
same_input = by_kind (λ d e. is_input d ≡ is_input e) refl (λ next init. refl) (λ pins cover prime is. refl)

pub same_latch : (d e : Drive) → IsPrimeDrive d e → is_latch d ≡ is_latch e
same_latch = by_kind (λ d e. is_latch d ≡ is_latch e) refl (λ next init. refl) (λ pins cover prime is. refl)

pub same_gate : (d e : Drive) → IsPrimeDrive d e → is_gate d ≡ is_gate e
same_gate = by_kind (λ d e. is_gate d ≡ is_gate e) refl (λ next init. refl) (λ pins cover prime is. refl)

pub same_pins : (d e : Drive) → IsPrimeDrive d e → pins_of d ≡ pins_of e
same_pins = by_kind (λ d e. pins_of d ≡ pins_of e) refl (λ next init. refl) (λ pins cover prime is. refl)

-- ---- all drives

pub each_prime : (ds es : List Drive) → AllZip IsPrimeDrive ds es → (s : ℕ) → IsPrimeDrive (drive_in ds s) (drive_in es s)
each_prime ds es all s =
    elim (cases_lt s (length ds)) [
      | inl within ↦ AllZip-get_or IsPrimeDrive ds es s (latch s false) (latch s false) all within
      | inr past ↦
          let as_long : length ds ≡ length es = length_all_zip IsPrimeDrive ds es all in
          let past' : length es ≤ s = omega arith in
          let here : drive_in ds s ≡ latch s false = get_or_past ds s (latch s false) past in
          let there : drive_in es s ≡ latch s false = get_or_past es s (latch s false) past' in
          subst (λ (d : Drive). IsPrimeDrive d (drive_in es s)) (sym here) (subst (λ (e : Drive). IsPrimeDrive (latch s false) e) (sym there) (refl, refl))
    ]

pub count_same : (test : Drive → Bool) → ((d e : Drive) → IsPrimeDrive d e → test d ≡ test e) → (ds es : List Drive)
    → AllZip IsPrimeDrive ds es → count_by test ds ≡ count_by test es
count_same test same [] [] all = refl
count_same test same [] (e ∷ es) all = absurd all
count_same test same (d ∷ ds) [] all = absurd all
count_same test same (d ∷ ds) (e ∷ es) all =
    let here = ap (λ b. cond {A = ℕ} b 1 0) (same d e all.0) in
    let rest = count_same test same ds es all.1 in
    let one = sum_by-cons (λ (x : Drive). cond (test x) 1 0) d ds in
    let other = sum_by-cons (λ (x : Drive). cond (test x) 1 0) e es in
    omega arith

widths_same : (ds es : List Drive) → AllZip IsPrimeDrive ds es → map (λ d. length (pins_of d)) ds ≡ map (λ d. length (pins_of d)) es
widths_same [] [] all = refl
widths_same [] (e ∷ es) all = absurd all
widths_same (d ∷ ds) [] all = absurd all
widths_same (d ∷ ds) (e ∷ es) all =
    let here : length (pins_of d) ≡ length (pins_of e) = ap length (same_pins d e all.0) in
    let rest : map (λ d. length (pins_of d)) ds ≡ map (λ d. length (pins_of d)) es = widths_same ds es all.1 in
    cc

pub widest_same : (ds es : List Drive) → AllZip IsPrimeDrive ds es → widest ds ≡ widest es
widest_same ds es all = ap greatest (widths_same ds es all)

-- ---- chains

pin_of_first : (ds es : List Drive) → ((s : ℕ) → pins_of (drive_in ds s) ≡ pins_of (drive_in es s)) → (a : ℕ) (rest : List ℕ)
    → IsPinOfFirst ds a rest → IsPinOfFirst es a rest
pin_of_first ds es pins a [] is = tt
pin_of_first ds es pins a (b ∷ rest) is = rw (← pins b) is

chain_in : (ds es : List Drive) → ((s : ℕ) → is_gate (drive_in ds s) ≡ is_gate (drive_in es s))
    → ((s : ℕ) → pins_of (drive_in ds s) ≡ pins_of (drive_in es s)) → (chain : List ℕ) → IsChain ds chain → IsChain es chain
chain_in ds es gates pins [] is = tt
chain_in ds es gates pins (a ∷ rest) is =
    (sym (gates a) ∙ is.0, pin_of_first ds es pins a rest is.1, chain_in ds es gates pins rest is.2)

pub chain_to : (ds es : List Drive) → AllZip IsPrimeDrive ds es → (chain : List ℕ) → IsChain ds chain → IsChain es chain
chain_to ds es all =
    chain_in ds es (λ s. same_gate (drive_in ds s) (drive_in es s) (each_prime ds es all s)) (λ s. same_pins (drive_in ds s) (drive_in es s) (each_prime ds es all s))

pub chain_back : (ds es : List Drive) → AllZip IsPrimeDrive ds es → (chain : List ℕ) → IsChain es chain → IsChain ds chain
chain_back ds es all =
    chain_in es ds (λ s. sym (same_gate (drive_in ds s) (drive_in es s) (each_prime ds es all s))) (λ s. sym (same_pins (drive_in ds s) (drive_in es s) (each_prime ds es all s)))
