-- The joined circuit of a sound circuit is sound, so that it is built.
use Rattle.std.proofs.Common.{◌≡◌, ◌≢◌, ℕ, ◌<◌, ◌≤◌, ◌++◌, inl, inr, Bool, List, [], ◌∷◌, map, length, get_or, Contains, All, refl, sym, ◌∙◌, ap, subst, arith}
use Rattle.std.specs.Prelude.{Option, IfSome, AllPairs}
use Rattle.std.proofs.lemmas.List.{length-map}
use Rattle.std.proofs.lemmas.List.Elements.{All-map}
use Rattle.tm_bits.specs.Rows.{HasWidth}
use Rattle.tm_circuit.specs.declared.parts.Clock.{Clock}
use Rattle.tm_circuit.specs.declared.circuit.CircuitFault.TheVariants.{TooMany, Range, BadName, RepeatedName, RepeatedOutput, Loop, NoMemory}
use Rattle.tm_circuit.specs.Plain.{Plain, Drive, input, latch, gate, drive_in, pins_of, input_count, latch_count}
use Rattle.tm_circuit.specs.Chain.{HasCircle, IsChain, RisesTo, rank}
use Rattle.tm_circuit.specs.Sound.{IsSound, ReadsBelow, FitsPins, IsInRange, IsClockOf, IsName, IsClockName, clock_name, IsWellNamed, IsDistinctlyNamed}
use Rattle.tm_circuit.proofs.ListLemmas.{contains-unmap}
use Rattle.tm_circuit.proofs.PeriodLemmas.{ranked-no_circle}
use Rattle.tm_parts.specs.Parts.{IsRefusedForMemory}
use Rattle.tm_twins.specs.Twins.{IsWord, IsTwin, AreTwins}
use Rattle.tm_twins.specs.Joined.{joined_drive, IsJoined}
use Rattle.tm_twins.proofs.Words.{worded_within}
use Rattle.tm_twins.proofs.JoinedLemmas.{drive_joined, joined_large}

-- ---- one drive

-- The twin of a signal is a signal.
twin_within : (ds : List Drive) (s t : ℕ) → IsTwin ds s t → s < length ds → t < length ds
twin_within ds s t twin within =
    elim twin.equal [
      | inl own ↦ omega arith
      | inr (w, (e, hs, ht)) ↦ worded_within ds t w e ht
    ]

reads_below : (ds : List Drive) (twin : ℕ → ℕ) → AreTwins ds twin → (d : Drive) → ReadsBelow (length ds) d
    → ReadsBelow (length ds) (joined_drive twin d)
reads_below ds twin twins input below = tt
reads_below ds twin twins (latch next init) below = twin_within ds next (twin next) (twins next) below
reads_below ds twin twins (gate pins cover) below =
    All-map (λ p. p < length ds) twin pins (λ k d inside.
    twin_within ds (get_or pins k d) (twin (get_or pins k d)) (twins (get_or pins k d)) (below k d inside))

fits_pins : (twin : ℕ → ℕ) (d : Drive) → FitsPins d → FitsPins (joined_drive twin d)
fits_pins twin input fits = tt
fits_pins twin (latch next init) fits = tt
fits_pins twin (gate pins cover) fits =
    let as_many : length (map twin pins) ≡ length pins = length-map pins twin in
    let most : length pins ≤ 255 = fits.0 in
    (omega arith, subst (λ n. HasWidth cover n) (sym as_many) fits.1)

-- The rank of a twin is that of the signal: two that are equal are latches.
low_latch : (rank : ℕ → ℕ) (s : ℕ) (d : Drive) (next : ℕ) (init : Bool) → RisesTo rank s d → d ≡ latch next init → rank s ≡ 0
low_latch rank s input next init rises is = absurd (cc)
low_latch rank s (latch n i) next init rises is = rises
low_latch rank s (gate pins cover) next init rises is = absurd (cc)

rank_of_twin : (ds : List Drive) (rank : ℕ → ℕ) → ((s : ℕ) → RisesTo rank s (drive_in ds s)) → (s t : ℕ)
    → IsTwin ds s t → rank t ≡ rank s
rank_of_twin ds rank rises s t twin =
    elim twin.equal [
      | inl own ↦ ap rank own
      | inr (w, (e, hs, ht)) ↦ at w e hs ht
    ]
  where
    at : (w : List Bool) (e : ℕ) → IsWord ds s w e → IsWord ds t w e → rank t ≡ rank s
    at [] e hs ht = ap rank (ht.0 ∙ sym hs.0)
    at (i ∷ w) e hs ht =
        low_latch rank t (drive_in ds t) ht.0 i (rises t) ht.1 ∙ sym (low_latch rank s (drive_in ds s) hs.0 i (rises s) hs.1)

rises_to : (rank : ℕ → ℕ) (twin : ℕ → ℕ) → ((p : ℕ) → rank (twin p) ≡ rank p) → (s : ℕ) (d : Drive) → RisesTo rank s d
    → RisesTo rank s (joined_drive twin d)
rises_to rank twin same s input rises = rises
rises_to rank twin same s (latch next init) rises = rises
rises_to rank twin same s (gate pins cover) rises = λ p inside.
    let (x, among, is) = contains-unmap twin pins p inside in
    let low : rank x < rank s = rises x among in
    let twin_low : rank (twin x) ≡ rank x = same x in
    let there : rank (twin x) ≡ rank p = ap rank is in
    omega arith

-- ---- all drives

each_joined : (P Q : Drive → Type 0) (twin : ℕ → ℕ) → ((d : Drive) → P d → Q (joined_drive twin d)) → (ds : List Drive)
    → All P ds → All Q (map (joined_drive twin) ds)
each_joined P Q twin kept ds all =
    All-map Q (joined_drive twin) ds (λ k d inside. kept (get_or ds k d) (all k d inside))

-- ---- the circuit

pub joined_in_range : (c j : Plain) → IsJoined c j → IsInRange c → IsInRange j
joined_in_range c j joined range =
    let (twin, twins, drives) = joined.drives in
    let large = joined_large c j joined in
    let as_long : length c.drives ≡ length j.drives = sym large.signals in
    record {
      reads = subst (λ (ds : List Drive). All (ReadsBelow (length ds)) ds) (sym drives)
          (subst (λ (n : ℕ). All (ReadsBelow n) (map (joined_drive twin) c.drives)) (sym (length-map c.drives (joined_drive twin)))
          (each_joined (ReadsBelow (length c.drives)) (ReadsBelow (length c.drives)) twin (reads_below c.drives twin twins) c.drives range.reads));
      pins = subst (λ (ds : List Drive). All FitsPins ds) (sym drives) (each_joined FitsPins FitsPins twin (fits_pins twin) c.drives range.pins);
      outputs = subst (λ (n : ℕ). All (λ s. s < n) j.outputs) as_long (subst (λ (xs : List ℕ). All (λ s. s < length c.drives) xs) (sym joined.outputs) range.outputs);
      clock = subst (λ (clock : Option Clock). IfSome clock (IsClockOf (input_count j.drives) (latch_count j.drives))) (sym joined.clock)
          (subst (λ (n : ℕ). IfSome c.clock (IsClockOf n (latch_count j.drives))) (sym large.inputs)
          (subst (λ (n : ℕ). IfSome c.clock (IsClockOf (input_count c.drives) n)) (sym large.latches) range.clock));
    }

pub joined_well_named : (c j : Plain) → IsJoined c j → IsWellNamed c → IsWellNamed j
joined_well_named c j joined named = record {
  model = subst IsName (sym joined.model) named.model;
  signals = subst (λ (names : List (List ℕ)). All IsName names) (sym joined.names) named.signals;
  clock = subst (λ (clock : Option Clock). IfSome clock IsClockName) (sym joined.clock) named.clock;
}

pub joined_distinctly_named : (c j : Plain) → IsJoined c j → IsDistinctlyNamed c → IsDistinctlyNamed j
joined_distinctly_named c j joined distinct =
    subst (λ (names : List (List ℕ)). AllPairs (λ a b. a ≢ b) (names ++ clock_name j.clock)) (sym joined.names)
    (subst (λ (clock : Option Clock). AllPairs (λ a b. a ≢ b) (c.names ++ clock_name clock)) (sym joined.clock) distinct)

-- Ranks of the circuit rise in the joined circuit too.
pub joined_rises : (c j : Plain) → IsJoined c j → IsSound c → (s : ℕ) → RisesTo (rank c) s (drive_in j.drives s)
joined_rises c j joined sound s =
    let (twin, twins, drives) = joined.drives in
    let there : drive_in j.drives s ≡ joined_drive twin (drive_in c.drives s) =
    ap (λ (ds : List Drive). drive_in ds s) drives ∙ drive_joined c.drives twin twins s in
    subst (λ d. RisesTo (rank c) s d) (sym there)
    (rises_to (rank c) twin (λ p. rank_of_twin c.drives (rank c) sound.ranked.rises p (twin p) (twins p)) s (drive_in c.drives s) (sound.ranked.rises s))

joined_no_circle : (c j : Plain) → IsJoined c j → IsSound c → HasCircle j.drives → ⊥
joined_no_circle c j joined sound = ranked-no_circle j.drives (rank c) (record { rises = joined_rises c j joined sound })

-- The joined circuit is refused for no reason but want of memory.
pub refused_for_memory : (c j : Plain) → IsSound c → IsJoined c j → IsRefusedForMemory j
refused_for_memory c j sound joined TooMany built =
    let few : length c.drives ≤ 900000 = sound.few in
    let large = joined_large c j joined in
    let as_long : length j.drives ≡ length c.drives = large.signals in
    let many : 900000 < length j.drives = built in
    absurd (omega arith)
refused_for_memory c j sound joined Range built = absurd (built.1 (joined_in_range c j joined sound.range))
refused_for_memory c j sound joined BadName built = absurd (built.2 (joined_well_named c j joined sound.names))
refused_for_memory c j sound joined RepeatedName built = absurd (built.3 (joined_distinctly_named c j joined sound.distinct))
refused_for_memory c j sound joined RepeatedOutput built =
    absurd (built.4 (subst (λ (xs : List ℕ). AllPairs (λ a b. a ≢ b) xs) (sym joined.outputs) sound.outputs))
refused_for_memory c j sound joined Loop built = absurd (joined_no_circle c j joined sound built.5)
refused_for_memory c j sound joined NoMemory built = refl
