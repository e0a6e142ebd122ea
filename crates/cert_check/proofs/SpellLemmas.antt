-- An accepted certificate can be spelled.
use Rattle.std.proofs.Common.{◌≡◌, ℕ, zero, suc, ◌+◌, ◌-◌, ◌*◌, ◌<◌, ◌≤◌, ◌⊎◌, inl, inr, List, [], ◌∷◌, length, get_or, All, Option, None, Some, refl, sym, ◌∙◌, subst, arith}
use Rattle.std.proofs.Math.Nat.{mul-le-mul}
use Rattle.std.specs.Prelude.{Contains, nat_lt, ◌≢◌}
use Rattle.std.proofs.lemmas.Bool.{cond_both, cases_eq}
use Rattle.std.proofs.lemmas.List.{get_or-set_same, get_or-set_other}
use Rattle.std.proofs.lemmas.List.Elements.{Contains-get_or}
use Rattle.tm_bits.specs.Limits.{most_inputs}
use Rattle.tm_circuit.specs.Plain.{Plain, Drive, input, latch, gate, drive_in, gate_count, widest}
use Rattle.tm_circuit.specs.Sound.{IsSound}
use Rattle.tm_circuit.proofs.KindLemmas.{kinds-length}
use Rattle.tm_circuit.proofs.ListLemmas.{contains-cases, contains-none}
use Rattle.tm_unroll.specs.Mappings.{Table, IsLeafOf, IsLawful, IsLawfulTable}
use Rattle.tm_unroll.specs.Chains.{IsPeriodOf, IsChain}
use Rattle.tm_unroll.proofs.ListLemmas.{fits, apart_from_pairs}
use Rattle.tm_unroll.proofs.JudgeLemmas.{gate_within, passes_few}
use Rattle.tm_unroll.proofs.FaultLemmas.{lawful_passes}
use Rattle.tm_unroll.proofs.ChainLemmas.{no_repeats}
use Rattle.tm_replay.specs.declared.label.Label.{Label}
use Rattle.tm_replay.specs.Labels.{label, label_in, below_lag, next_below, first_label, first_labels}
use Rattle.tm_replay.specs.Replays.{Drop, IsLawfulDrop, lowered, Replays}
use Rattle.tm_replay.specs.Bounds.{HasDigitWalks}
use Rattle.tm_replay.proofs.RefutationLemmas.{label_first, has_place}
use Rattle.tm_replay.proofs.DigitLemmas.{digit_walks}
use Rattle.cert_text.specs.Certificates.{Certificate, HasSpellingLeaf, HasSpellingTable, HasSpellingWalk, HasSpellingWalks, HasSpellingDrop, HasSpelling}
use Rattle.cert_text.specs.Limits.{most_number, most_drops}
use Rattle.cert_check.specs.Accepted.{ShowLeast, IsJudgedCircuit, IsAccepted}
use Rattle.cert_check.proofs.ClaimLemmas.{judged_sound, judged_long, judged_wide, exact, short}

-- What holds of each item of a list.
all_of : {X : Type 0} (P : X → Type 0) (xs : List X) → ((x : X) → Contains xs x → P x) → All P xs
all_of P xs each = λ i e within. each (get_or xs i e) (Contains-get_or xs i e within)

not_empty : {X : Type 0} (xs : List X) → xs ≢ [] → 0 < length xs
not_empty [] some = absurd (some refl)
not_empty (x ∷ xs) some = omega arith

-- ---- drops

-- The lags of labels are within a bound.
abbrev LagsWithin : ℕ → List (Option Label) → Type 0
LagsWithin d labels = (s : ℕ) (x : Label) → label_in labels s ≡ Some x → x.lag ≤ d

abbrev LagWithin : ℕ → Option Label → Type 0
LagWithin d None = Unit {0}
LagWithin d (Some x) = x.lag ≤ d

of_some : (d : ℕ) (o : Option Label) (x : Label) → LagWithin d o → o ≡ Some x → x.lag ≤ d
of_some d o x within is = subst (λ (p : Option Label). LagWithin d p) is within

first_within : (d target : ℕ) (e : Drive) → LagWithin d (first_label d target e)
first_within d target input = tt
first_within d target (latch next init) = tt
first_within d zero (gate pins cover) = tt
first_within d (suc less) (gate pins cover) = omega arith

next_within : (d target lag arrival : ℕ) → lag ≤ d → LagWithin d (next_below target (label lag arrival))
next_within d target lag arrival low =
    cond_both (nat_lt arrival target) (Some (label lag (arrival + 1))) (below_lag lag) (λ (o : Option Label). LagWithin d o) (λ in_time. low) (λ late. below lag low)
  where
    below : (l : ℕ) → l ≤ d → LagWithin d (below_lag l)
    below zero low = tt
    below (suc less) low = omega arith

lowered_within : (d target : ℕ) (labels : List (Option Label)) (drop : Drop) → LagsWithin d labels → drop.gate < length labels → drop.lag ≤ d
    → LagsWithin d (lowered target labels drop)
lowered_within d target labels drop all within low s x has =
    elim (cases_eq s drop.gate) [
      | inl here ↦
          let new = get_or-set_same labels drop.gate (next_below target (label drop.lag drop.arrival)) None within in
          let at : label_in (lowered target labels drop) drop.gate ≡ Some x = subst (λ g. label_in (lowered target labels drop) g ≡ Some x) here has in
          of_some d (next_below target (label drop.lag drop.arrival)) x (next_within d target drop.lag drop.arrival low) (sym new ∙ at)
      | inr other ↦
          all s x (sym (get_or-set_other labels drop.gate s (next_below target (label drop.lag drop.arrival)) None other) ∙ has)
    ]

-- The numbers of a drop.
record IsBounded (c : Plain) (d target : ℕ) (drop : Drop) : Type 0 where
  gate : drop.gate < length c.drives
  lag : drop.lag ≤ d
  arrival : drop.arrival ≤ target

drop_bounded : (c : Plain) (k d target : ℕ) (labels : List (Option Label)) (drop : Drop) → LagsWithin d labels → IsLawfulDrop 0 c k target labels drop
    → IsBounded c d target drop
drop_bounded c k d target labels drop all is = record {
  gate = gate_within c.drives drop.gate is.order.gate;
  lag = all drop.gate (label drop.lag is.order.arrived) is.order.now;
  arrival = is.order.most;
}

drops_bounded : (c : Plain) (k d target : ℕ) (labels : List (Option Label)) (drops : List Drop) → LagsWithin d labels → Replays 0 c k target labels drops
    → (drop : Drop) → Contains drops drop → IsBounded c d target drop
drops_bounded c k d target labels [] all replays drop stands = absurd (contains-none drop stands)
drops_bounded c k d target labels (first ∷ drops) all replays drop stands =
    let here = drop_bounded c k d target labels first all replays.0 in
    elim (contains-cases first drops drop stands) [
      | inl is ↦ subst (λ (x : Drop). IsBounded c d target x) is here
      | inr later ↦
          let place = has_place labels first.gate (label first.lag replays.0.order.arrived) replays.0.order.now in
          drops_bounded c k d target (lowered target labels first) drops (lowered_within d target labels first all place here.lag) replays.1 drop later
    ]

walks_spelled : (k : ℕ) (drop : Drop) → k ≤ most_inputs → HasDigitWalks k drop → HasSpellingWalks drop.walks
walks_spelled k drop few digits = record {
  some = not_empty drop.walks digits.some;
  each = all_of HasSpellingWalk drop.walks (λ w stands. record {
    some = not_empty w (digits.no_empty w stands);
    indices = λ i e within. let low = digits.digits w stands i e within in omega (arith, low, few);
  });
}

drops_spelled : (c : Plain) (k d period : ℕ) (drops : List Drop) → IsSound c → length c.drives ≤ 100000 → widest c.drives ≤ k → 1 ≤ k → k ≤ most_inputs → d ≤ 8
    → period ≤ most_number → ShowLeast period c k d drops → All HasSpellingDrop drops
drops_spelled c k d zero drops sound small wide some few near low show = all_of HasSpellingDrop drops (λ drop stands. absurd (contains-none drop (subst (λ (ds : List Drop). Contains ds drop) show stands)))
drops_spelled c k d (suc target) drops sound small wide some few near low show =
    all_of HasSpellingDrop drops (λ drop stands.
    let all : LagsWithin d (first_labels c.drives d target) = λ s x has. of_some d (first_label d target (drive_in c.drives s)) x (first_within d target (drive_in c.drives s)) (sym (label_first d target c.drives s) ∙ has) in
    let is = drops_bounded c k d target (first_labels c.drives d target) drops all show.replays drop stands in
    let in_gates = is.gate in
    let in_lags = is.lag in
    let in_time = is.arrival in
    record {
      gate = omega (arith, in_gates, small);
      lag = omega (arith, in_lags, near);
      arrival = omega (arith, in_time, low);
      walks = walks_spelled k drop few (digit_walks 0 c k d target drops sound wide some show.replays drop stands);
    })

-- ---- tables

leaf_low : (e : Drive) (lag advance : ℕ) → IsLeafOf 0 e lag advance → advance ≤ lag
leaf_low input lag advance is = omega arith
leaf_low (latch next init) lag advance is = omega arith
leaf_low (gate pins cover) lag advance is = is

table_spelled : (c : Plain) (k d : ℕ) (tables : List Table) (t : Table) → length c.drives ≤ 100000 → d ≤ 8 → IsLawfulTable 0 c.drives k d tables t → HasSpellingTable t
table_spelled c k d tables t small near is =
    let in_gates = gate_within c.drives t.gate is.gate in
    let in_lags = is.lag in
    record {
      gate = omega (arith, in_gates, small);
      lag = omega (arith, in_lags, near);
      leaves = all_of HasSpellingLeaf t.leaves (λ x stands.
          let leaf = is.leaves.leaves x stands in
          let signal = leaf.signal in
          let advance = leaf_low (drive_in c.drives x.signal) t.lag x.advance leaf.kind in
          record { signal = omega (arith, signal, small); advance = omega (arith, advance, in_lags, near) });
    }

tables_few : (c : Plain) (k d : ℕ) (tables : List Table) → IsLawful c k d tables → length tables ≤ length c.drives
tables_few c k d tables lawful = passes_few 0 c k d tables (length tables) (lawful_passes 0 c k d tables (λ _. 0) lawful) (omega arith)

period_few : (c : Plain) (k d : ℕ) (tables : List Table) (p : ℕ) → IsSound c → IsLawful c k d tables → IsPeriodOf tables p → p ≤ length tables
period_few c k d tables p sound lawful is =
    let (chain, chained, long) = is.reached in
    let apart = apart_from_pairs (λ (t : Table) (u : Table). t ≢ u) chain (λ t differs. differs refl) (no_repeats 0 (λ _. 0) c k d tables sound lawful chain chained) in
    let some = fits chain tables apart (among chain chained) in
    omega (arith, some, long)
  where
    among : (chain : List Table) → IsChain tables chain → (t : Table) → Contains chain t → Contains tables t
    among [] chained t stands = absurd (contains-none t stands)
    among (u ∷ rest) chained t stands =
        elim (contains-cases u rest t stands) [
          | inl is ↦ subst (λ (v : Table). Contains tables v) is chained.0
          | inr later ↦ among rest chained.2 t later
        ]

-- ---- the whole

drops_few : (gates lags times many : ℕ) → gates ≤ 100000 → lags ≤ 9 → times ≤ 100000 → many ≤ gates * (lags * times) → many ≤ most_drops
drops_few gates lags times many low_gates low_lags low_times bound =
    let inner : lags * times ≤ 9 * 100000 = mul-le-mul low_lags low_times in
    let outer : gates * (lags * times) ≤ 100000 * (9 * 100000) = mul-le-mul low_gates inner in
    omega (arith, bound, outer)

version_is : (version : ℕ) (source c : Plain) → IsJudgedCircuit version source c → (version ≡ 1) ⊎ (version ≡ 2)
version_is version source c (inl (one, is)) = inl one
version_is version source c (inr (two, is)) = inr two

pub spelled : (source mapped : Plain) (cert : Certificate) (k d : ℕ) → IsSound source → length source.drives ≤ 100000 → widest source.drives ≤ k → 1 ≤ k
    → k ≤ most_inputs → d ≤ 8 → IsAccepted source mapped cert k d → HasSpelling cert
spelled source mapped cert k d sound_s small_s wide_s some few near is =
    let c = is.circuit in
    let sound = judged_sound cert.version source c sound_s is.judged in
    let long = judged_long cert.version source c is.judged in
    let as_wide = judged_wide cert.version source c is.judged in
    let small : length c.drives ≤ 100000 = omega (arith, long, small_s) in
    let wide : widest c.drives ≤ k = omega (arith, as_wide, wide_s) in
    let right = is.over.mapping in
    let few_tables = tables_few c k d cert.tables right.lawful in
    let at_most = period_few c k d cert.tables cert.period sound right.lawful (exact c k d cert.period cert.drops cert.tables sound right.lawful right.chains is.over.least) in
    let low : cert.period ≤ most_number = omega (arith, few_tables, at_most, small) in
    let kinds = kinds-length source.drives in
    let bound = (short source mapped cert k d is).bound in
    record {
      version = version_is cert.version source c is.judged;
      period = low;
      few_tables = omega (arith, few_tables, small);
      tables = all_of HasSpellingTable cert.tables (λ t stands. table_spelled c k d cert.tables t small near (right.lawful.each t stands));
      few_drops = drops_few (gate_count source.drives) (d + 1) (cert.period - 1) (length cert.drops) (omega (arith, kinds, small_s)) (omega (arith, near)) (omega (arith, at_most, few_tables, small)) bound;
      drops = drops_spelled c k d cert.period cert.drops sound small wide some few near low is.over.least;
    }
