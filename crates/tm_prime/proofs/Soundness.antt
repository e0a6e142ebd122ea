-- A sound circuit is built again with prime covers, as large and as deep as before.
use Rattle.std.proofs.Common.{◌≡◌, ◌≢◌, ℕ, ◌<◌, ◌≤◌, ◌++◌, List, length, get_or, All, refl, sym, subst, arith}
use Rattle.std.specs.Prelude.{Option, IfSome, AllPairs}
use Rattle.std.specs.List.{AllZip}
use Rattle.std.proofs.lemmas.List.Elements.{AllZip-get_or, length_all_zip}
use Rattle.tm_circuit.specs.declared.parts.Clock.{Clock}
use Rattle.tm_circuit.specs.declared.circuit.CircuitFault.TheVariants.{TooMany, Range, BadName, RepeatedName, RepeatedOutput, Loop, NoMemory}
use Rattle.tm_circuit.specs.Plain.{Plain, Drive, drive_in, is_input, is_latch, is_gate, input_count, latch_count}
use Rattle.tm_circuit.specs.Chain.{HasCircle, RisesTo, IsPeriod, rank}
use Rattle.tm_circuit.specs.Sound.{IsSound, ReadsBelow, FitsPins, IsInRange, IsClockOf, IsName, IsClockName, clock_name, IsWellNamed, IsDistinctlyNamed}
use Rattle.tm_circuit.proofs.PeriodLemmas.{ranked-no_circle}
use Rattle.tm_parts.specs.Parts.{IsRefusedForMemory}
use Rattle.tm_twins.specs.Joined.{IsAsLarge}
use Rattle.tm_prime.specs.Covers.{IsPrimeDrive, HasPrimeCovers, HasSamePeriod}
use Rattle.tm_prime.proofs.Alike.{by_kind, same_input, same_latch, same_gate, each_prime, count_same, widest_same, chain_to, chain_back}

-- ---- sizes and periods

pub primed_long : (c p : Plain) → HasPrimeCovers c p → length p.drives ≡ length c.drives
primed_long c p has = sym (length_all_zip IsPrimeDrive c.drives p.drives has.drives)

pub primed_large : (c p : Plain) → HasPrimeCovers c p → IsAsLarge c p
primed_large c p has = record {
  signals = primed_long c p has;
  inputs = sym (count_same is_input same_input c.drives p.drives has.drives);
  latches = sym (count_same is_latch same_latch c.drives p.drives has.drives);
  gates = sym (count_same is_gate same_gate c.drives p.drives has.drives);
  widest = sym (widest_same c.drives p.drives has.drives);
}

pub primed_period : (c p : Plain) → HasPrimeCovers c p → HasSamePeriod c p
primed_period c p has n = (there, back)
  where
    there : IsPeriod c n → IsPeriod p n
    there is = record {
      reached = (is.reached.0, chain_to c.drives p.drives has.drives is.reached.0 is.reached.1, is.reached.2);
      greatest = λ chain on. is.greatest chain (chain_back c.drives p.drives has.drives chain on);
    }

    back : IsPeriod p n → IsPeriod c n
    back is = record {
      reached = (is.reached.0, chain_back c.drives p.drives has.drives is.reached.0 is.reached.1, is.reached.2);
      greatest = λ chain on. is.greatest chain (chain_to c.drives p.drives has.drives chain on);
    }

-- ---- one drive

reads_below : (n : ℕ) (d e : Drive) → IsPrimeDrive d e → ReadsBelow n d → ReadsBelow n e
reads_below n = by_kind (λ d e. ReadsBelow n d → ReadsBelow n e) (λ below. below) (λ next init below. below) (λ pins cover prime is below. below)

fits_pins : (d e : Drive) → IsPrimeDrive d e → FitsPins d → FitsPins e
fits_pins = by_kind (λ d e. FitsPins d → FitsPins e) (λ fits. fits) (λ next init fits. fits) (λ pins cover prime is fits. (fits.0, is.is_prime.width))

rises_to : (rank : ℕ → ℕ) (s : ℕ) (d e : Drive) → IsPrimeDrive d e → RisesTo rank s d → RisesTo rank s e
rises_to rank s = by_kind (λ d e. RisesTo rank s d → RisesTo rank s e) (λ rises. rises) (λ next init rises. rises) (λ pins cover prime is rises. rises)

-- ---- all drives

each_kept : (P : Drive → Type 0) → ((d e : Drive) → IsPrimeDrive d e → P d → P e) → (ds es : List Drive) → AllZip IsPrimeDrive ds es
    → All P ds → All P es
each_kept P kept ds es zipped all k e inside =
    let as_long : length ds ≡ length es = length_all_zip IsPrimeDrive ds es zipped in
    let inside' : k < length ds = omega arith in
    kept (get_or ds k e) (get_or es k e) (AllZip-get_or IsPrimeDrive ds es k e e zipped inside') (all k e inside')

-- ---- the circuit

primed_in_range : (c p : Plain) → HasPrimeCovers c p → IsInRange c → IsInRange p
primed_in_range c p has range =
    let large = primed_large c p has in
    let as_long : length c.drives ≡ length p.drives = sym large.signals in
    record {
      reads = subst (λ (n : ℕ). All (ReadsBelow n) p.drives) as_long
          (each_kept (ReadsBelow (length c.drives)) (reads_below (length c.drives)) c.drives p.drives has.drives range.reads);
      pins = each_kept FitsPins fits_pins c.drives p.drives has.drives range.pins;
      outputs = subst (λ (n : ℕ). All (λ s. s < n) p.outputs) as_long (subst (λ (xs : List ℕ). All (λ s. s < length c.drives) xs) (sym has.outputs) range.outputs);
      clock = subst (λ (clock : Option Clock). IfSome clock (IsClockOf (input_count p.drives) (latch_count p.drives))) (sym has.clock)
          (subst (λ (n : ℕ). IfSome c.clock (IsClockOf n (latch_count p.drives))) (sym large.inputs)
          (subst (λ (n : ℕ). IfSome c.clock (IsClockOf (input_count c.drives) n)) (sym large.latches) range.clock));
    }

primed_well_named : (c p : Plain) → HasPrimeCovers c p → IsWellNamed c → IsWellNamed p
primed_well_named c p has named = record {
  model = subst IsName (sym has.model) named.model;
  signals = subst (λ (names : List (List ℕ)). All IsName names) (sym has.names) named.signals;
  clock = subst (λ (clock : Option Clock). IfSome clock IsClockName) (sym has.clock) named.clock;
}

primed_distinctly_named : (c p : Plain) → HasPrimeCovers c p → IsDistinctlyNamed c → IsDistinctlyNamed p
primed_distinctly_named c p has distinct =
    subst (λ (names : List (List ℕ)). AllPairs (λ a b. a ≢ b) (names ++ clock_name p.clock)) (sym has.names)
    (subst (λ (clock : Option Clock). AllPairs (λ a b. a ≢ b) (c.names ++ clock_name clock)) (sym has.clock) distinct)

primed_outputs : (c p : Plain) → HasPrimeCovers c p → AllPairs (λ a b. a ≢ b) c.outputs → AllPairs (λ a b. a ≢ b) p.outputs
primed_outputs c p has distinct = subst (λ (xs : List ℕ). AllPairs (λ a b. a ≢ b) xs) (sym has.outputs) distinct

-- Ranks of the circuit rise in the other one too.
primed_rises : (c p : Plain) → HasPrimeCovers c p → IsSound c → (s : ℕ) → RisesTo (rank c) s (drive_in p.drives s)
primed_rises c p has sound s =
    rises_to (rank c) s (drive_in c.drives s) (drive_in p.drives s) (each_prime c.drives p.drives has.drives s) (sound.ranked.rises s)

primed_no_circle : (c p : Plain) → HasPrimeCovers c p → IsSound c → HasCircle p.drives → ⊥
primed_no_circle c p has sound = ranked-no_circle p.drives (rank c) (record { rises = primed_rises c p has sound })

-- The circuit is refused for no reason but want of memory.
pub refused_for_memory : (c p : Plain) → IsSound c → HasPrimeCovers c p → IsRefusedForMemory p
refused_for_memory c p sound has TooMany built =
    let few : length c.drives ≤ 900000 = sound.few in
    let as_long : length p.drives ≡ length c.drives = primed_long c p has in
    let many : 900000 < length p.drives = built in
    absurd (omega arith)
refused_for_memory c p sound has Range built = absurd (built.1 (primed_in_range c p has sound.range))
refused_for_memory c p sound has BadName built = absurd (built.2 (primed_well_named c p has sound.names))
refused_for_memory c p sound has RepeatedName built = absurd (built.3 (primed_distinctly_named c p has sound.distinct))
refused_for_memory c p sound has RepeatedOutput built = absurd (built.4 (primed_outputs c p has sound.outputs))
refused_for_memory c p sound has Loop built = absurd (primed_no_circle c p has sound built.5)
refused_for_memory c p sound has NoMemory built = refl
