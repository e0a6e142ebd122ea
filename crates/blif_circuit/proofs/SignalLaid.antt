-- The circuit that lawful statements spell is sound, unless gates read one another in a circle.
use Rattle.std.proofs.Common.{◌≡◌, ◌≢◌, ℕ, zero, suc, ◌+◌, ◌<◌, ◌≤◌, Bool, true, false, not, cond, ◌||◌, List, [], ◌∷◌, ◌++◌, Option, None, Some, is_some, length, map, get_or, position, slice_get, bytes_eq, refl, sym, ◌∙◌, ap, subst, append-nil, arith}
use Rattle.std.specs.Prelude.{All, AllPairs, IfSome, option_map, slice_index_or}
use Rattle.std.specs.List.{AllByRecursion, list_any, list_all}
use Rattle.std.proofs.lemmas.List.{length-map, get_or-map}
use Rattle.std.proofs.lemmas.List.Elements.{All-from_recursion}
use Rattle.tm_circuit.specs.declared.parts.Clock.{Clock}
use Rattle.tm_circuit.specs.declared.parts.Edge.{Edge}
use Rattle.tm_circuit.specs.Plain.{Plain, Drive}
use Rattle.tm_circuit.specs.Plain as plain
use Rattle.tm_circuit.specs.Sound as sound
use Rattle.tm_circuit.specs.Sound.{ReadsBelow, FitsPins, IsClockOf, IsClockName, IsInRange, IsWellNamed, IsDistinctlyNamed, HasDistinctOutputs}
use Rattle.blif_unit.specs.Unit.{Model, Telling, IsOrderly, AreDistinct, inputs_told, latch_told, gate_told, drivers_told, outputs_told, clocks_told, over}
use Rattle.blif_circuit.specs.Circuit.{reading, names_of, inputs_of, clock_name, clock_in, edges_of, declared_told, is_clock, is_named, made_told, IsSpelled}
use Rattle.blif_circuit.specs.Signals.{unclocked, IsLaid}
use Rattle.blif_circuit.proofs.SignalNames.{tally, tally-append, tally-names, tally-out, none-tally, distinct, names_once, itself, same_name}
use Rattle.blif_circuit.proofs.SignalFaults.{IsFaultless, any-append, any-agree}
use Rattle.blif_circuit.proofs.SignalUses.{all-unmap, all-weaker, all-both, all-left, all-right, all-filter, IsResolved, resolved, reads_below, fits_pins, readings_count, readings-total, drives-total, total, reads_none, reads_next, all-within, all-some}
use Rattle.blif_circuit.proofs.SignalClock.{swapped, place_kept, edges_few, all_declared, not_nil, all_clocks, first_declared}

-- ---- no two are the same

absent : (n : List ℕ) (xs : List (List ℕ)) (j : ℕ) (d : List ℕ) → list_any (bytes_eq n) xs ≡ false → j < length xs → n ≢ slice_index_or xs j d
absent n [] j d h w = absurd (omega arith)
absent n (x ∷ xs) zero d h w = λ e. first (bytes_eq n x) (list_any (bytes_eq n) xs) h (subst (λ m. bytes_eq n m ≡ true) e (itself n))
  where
    first : (b c : Bool) → (b || c) ≡ false → b ≡ true → ⊥
    first true c p q = cc
    first false c p q = cc
absent n (x ∷ xs) (suc j) d h w = absent n xs j d (rest (bytes_eq n x) (list_any (bytes_eq n) xs) h) (omega arith)
  where
    rest : (b c : Bool) → (b || c) ≡ false → c ≡ false
    rest true c p = cc
    rest false c p = p

pub pairs_differ : (xs : List (List ℕ)) → AreDistinct xs → AllPairs (λ a b. a ≢ b) xs
pairs_differ [] h i j d lt w = absurd (omega arith)
pairs_differ (x ∷ xs) h zero zero d lt w = absurd (omega arith)
pairs_differ (x ∷ xs) h (suc i) zero d lt w = absurd (omega arith)
pairs_differ (x ∷ xs) h zero (suc j) d lt w = absent x xs j d h.0 (omega arith)
pairs_differ (x ∷ xs) h (suc i) (suc j) d lt w = pairs_differ xs h.1 i j d (omega arith) (omega arith)

-- numbers that stand for distinct names are distinct
pub numbers_differ : (names : List (List ℕ)) (ks : List ℕ) (ns : List (List ℕ)) → map (slice_get names) ks ≡ map Some ns → AllPairs (λ a b. a ≢ b) ns → AllPairs (λ a b. a ≢ b) ks
numbers_differ names ks ns e apart i j d lt w = λ same.
    let long : length ks ≡ length ns = sym (length-map ks (slice_get names)) ∙ ap length e ∙ length-map ns Some in
    let wi : i < length ks = omega arith in
    let vi : i < length ns = omega arith in
    let vj : j < length ns = omega arith in
    let at : (k : ℕ) → k < length ks → k < length ns → slice_get names (get_or ks k d) ≡ Some (get_or ns k [])
    = λ k wk vk. sym (get_or-map (slice_get names) ks k d None wk) ∙ ap (λ (xs : List (Option (List ℕ))). get_or xs k None) e ∙ get_or-map Some ns k [] None vk in
    let both : ◌≡◌ {A = Option (List ℕ)} (Some (get_or ns i [])) (Some (get_or ns j [])) = sym (at i wi vi) ∙ ap (slice_get names) same ∙ at j w vj in
    let names_same : get_or ns i [] ≡ get_or ns j [] = cc in
    apart i j [] lt vj names_same

-- ---- names

made-none : (p : List ℕ → Bool) (body : List Telling) → list_any p (over made_told body) ≡ false → (list_any p (over latch_told body) ≡ false) × (list_any p (over gate_told body) ≡ false)
made-none p [] h = (refl, refl)
made-none p (t ∷ body) h =
    let l = latch_told t.what in
    let g = gate_told t.what in
    let one = parts (list_any p (l ++ g)) (list_any p (over made_told body)) (sym (any-append p (l ++ g) (over made_told body)) ∙ h) in
    let two = parts (list_any p l) (list_any p g) (sym (any-append p l g) ∙ one.0) in
    let ih = made-none p body one.1 in
    (any-append p l (over latch_told body) ∙ whole (list_any p l) (list_any p (over latch_told body)) two.0 ih.0, any-append p g (over gate_told body) ∙ whole (list_any p g) (list_any p (over gate_told body)) two.1 ih.1)
  where
    parts : (b c : Bool) → (b || c) ≡ false → (b ≡ false) × (c ≡ false)
    parts true c p = cc
    parts false c p = (refl, p)

    whole : (b c : Bool) → b ≡ false → c ≡ false → (b || c) ≡ false
    whole true c p q = cc
    whole false c p q = q

drivers-split : (P : List ℕ → Type 0) (body : List Telling) → AllByRecursion P (over drivers_told body) → AllByRecursion P (over inputs_told body) × AllByRecursion P (over latch_told body) × AllByRecursion P (over gate_told body)
drivers-split P [] h = (tt, tt, tt)
drivers-split P (t ∷ body) h =
    let i = inputs_told t.what in
    let l = latch_told t.what in
    let g = gate_told t.what in
    let here = all-left P ((i ++ l) ++ g) (over drivers_told body) h in
    let ih = drivers-split P body (all-right P ((i ++ l) ++ g) (over drivers_told body) h) in
    let il = all-left P (i ++ l) g here in
    (all-both P i (over inputs_told body) (all-left P i l il) ih.0, all-both P l (over latch_told body) (all-right P i l il) ih.1, all-both P g (over gate_told body) (all-right P (i ++ l) g here) ih.2)

pub names_lawful : (P : List ℕ → Type 0) (body : List Telling) → AllByRecursion P (over drivers_told body) → AllByRecursion P (names_of body)
names_lawful P body h =
    let s = drivers-split P body h in
    all-both P (inputs_of body ++ over latch_told body) (over gate_told body)
    (all-both P (inputs_of body) (over latch_told body) (all-filter P (λ n. not (is_clock body n)) (over inputs_told body) s.0) s.1) s.2

-- the clock is no signal
clock_apart : (n : List ℕ) (body : List Telling) → clock_name body ≡ Some n → list_any (is_clock body) (over made_told body) ≡ false → tally n (names_of body) ≡ 0
clock_apart n body e h =
    let is : (m : List ℕ) → is_clock body m ≡ bytes_eq n m = λ m. ap (λ o. is_named o m) e ∙ swapped m n in
    let out : not (is_clock body n) ≡ false = ap not (is n ∙ itself n) in
    let inputs = tally-out (λ m. not (is_clock body m)) n (over inputs_told body) out in
    let made = made-none (is_clock body) body h in
    let l = none-tally n (over latch_told body) (sym (any-agree (is_clock body) (bytes_eq n) (over latch_told body) is) ∙ made.0) in
    let g = none-tally n (over gate_told body) (sym (any-agree (is_clock body) (bytes_eq n) (over gate_told body) is) ∙ made.1) in
    let all = tally-names n body in
    omega (arith, inputs, l, g, all)

-- The names of the signals and of the clock stand once.
named_once : (body : List Telling) (clock : Option Clock) → option_map (λ (k : Clock). k.name) clock ≡ clock_name body → AreDistinct (over drivers_told body) → list_any (is_clock body) (over made_told body) ≡ false
    → AreDistinct (names_of body ++ sound.clock_name clock)
named_once body None e d h = subst AreDistinct (sym (append-nil (names_of body))) (distinct (names_of body) (names_once body d))
named_once body (Some k) e d h =
    distinct (names_of body ++ k.name ∷ []) (λ n.
    let split = tally-append n (names_of body) (k.name ∷ []) in
    let names = names_once body d n in
    at n (bytes_eq n k.name) refl split names)
  where
    at : (n : List ℕ) (b : Bool) → bytes_eq n k.name ≡ b → tally n (names_of body ++ k.name ∷ []) ≡ tally n (names_of body) + (cond (bytes_eq n k.name) 1 0 + 0) → tally n (names_of body) ≤ 1 → tally n (names_of body ++ k.name ∷ []) ≤ 1
    at n true q split names =
        let z : tally n (names_of body) ≡ 0 = clock_apart n body (sym e ∙ ap Some (sym (same_name n k.name q))) h in
        let one : ◌≡◌ {A = ℕ} (cond (bytes_eq n k.name) 1 0) 1 = ap (λ b. cond b 1 0) q in
        omega (arith, split, z, one)
    at n false q split names =
        let none : ◌≡◌ {A = ℕ} (cond (bytes_eq n k.name) 1 0) 0 = ap (λ b. cond b 1 0) q in
        omega (arith, split, names, none)

-- ---- the clock

pub first_of : {A : Type 0} (P : A → Type 0) (xs : List A) (x : A) → AllByRecursion P xs → slice_get xs 0 ≡ Some x → P x
first_of P [] x h e = absurd (let n : ◌≡◌ None (Some x) = e in cc)
first_of P (y ∷ xs) x h e = let is : y ≡ x = cc in subst P is h.0

some_edge : (es : List Edge) → is_some (slice_get es 0) ≡ true → 0 < length es
some_edge [] h = cc
some_edge (e ∷ es) h = omega arith

no_edge : (es : List Edge) → slice_get es 0 ≡ None → es ≡ []
no_edge [] h = refl
no_edge (e ∷ es) h = cc

-- what is known of the clock
pub clock_sound : (m : Model) (inputs latches : ℕ) → IsOrderly m → inputs ≡ length (inputs_of m.body) → latches ≡ length (over latch_told m.body)
    → IfSome (clock_in m.body) (IsClockOf inputs latches) × IfSome (clock_in m.body) IsClockName × (option_map (λ (k : Clock). k.name) (clock_in m.body) ≡ clock_name m.body)
clock_sound m inputs latches o ei el = at (clock_name m.body) refl
  where
    make : List ℕ → Clock
    make n = record {
      name = n;
      edge = slice_get (edges_of m.body) 0;
      declared = list_any (bytes_eq n) (over declared_told m.body);
      place = position (bytes_eq n) (over inputs_told m.body);
    }

    at : (c : Option (List ℕ)) → clock_name m.body ≡ c → IfSome (option_map make c) (IsClockOf inputs latches) × IfSome (option_map make c) IsClockName × (option_map (λ (k : Clock). k.name) (option_map make c) ≡ c)
    at None e = (tt, tt, refl)
    at (Some n) e =
        let kept : length (unclocked (Some n) (over inputs_told m.body)) ≡ inputs = ap (λ k. length (unclocked k (over inputs_told m.body))) (sym e) ∙ sym ei in
        let few = edges_few m.body in (
          record {
            place = subst (λ k. IfSome (position (bytes_eq n) (over inputs_told m.body)) (λ before. before ≤ k)) kept (place_kept n (over inputs_told m.body));
            edge = λ s. let some = some_edge (edges_of m.body) s in omega (arith, some, few, el);
            declared = λ none. first_declared n (over declared_told m.body) (ap (λ xs. slice_get xs 0) (sym (all_declared m.body (no_edge (edges_of m.body) none))) ∙ e);
          },
          record {
            lawful = first_of sound.IsName (over clocks_told m.body) n o.clocks e;
            not_nil = λ s. not_nil n m.body (all_clocks n (over clocks_told m.body) o.one_clock e) o.shaped s;
          },
          refl,
        )

-- ---- the whole

pub laid : (limit : ℕ) (m : Model) (c : Plain) → IsOrderly m → limit ≤ 900000 → IsFaultless limit m.body → IsSpelled m c → IsLaid c
laid limit m c o most f s =
    let long : length c.drives ≡ length (names_of m.body) = sym (length-map c.drives (reading c.names)) ∙ ap length s.drives ∙ readings_count m.body in
    let names : length c.names ≡ length c.drives = ap length s.names ∙ sym long in
    let good : AllByRecursion (λ d. IsResolved (reading c.names d)) c.drives
    = all-unmap IsResolved (reading c.names) c.drives (subst (AllByRecursion IsResolved) (sym s.drives) (resolved m.body o.shaped)) in
    let counts = drives-total c.names c.drives in
    let totals = readings-total m.body in
    let inputs : plain.input_count c.drives ≡ length (inputs_of m.body) = counts.0 ∙ ap (total reads_none) s.drives ∙ totals.0 in
    let latches : plain.latch_count c.drives ≡ length (over latch_told m.body) = counts.1 ∙ ap (total reads_next) s.drives ∙ totals.1 in
    let clock = clock_sound m (plain.input_count c.drives) (plain.latch_count c.drives) o inputs latches in
    let outs : AllByRecursion (λ k. k < length c.names) c.outputs
    = all-within c.names c.outputs (ap (list_all is_some) s.outputs ∙ all-some (over outputs_told m.body)) in
    record {
      few = omega (arith, long, f.few);
      range = record {
        reads = All-from_recursion (ReadsBelow (length c.drives)) c.drives (subst (λ n. AllByRecursion (ReadsBelow n) c.drives) names (all-weaker (λ d. IsResolved (reading c.names d)) (ReadsBelow (length c.names)) c.drives (reads_below c.names) good));
        pins = All-from_recursion FitsPins c.drives (all-weaker (λ d. IsResolved (reading c.names d)) FitsPins c.drives (fits_pins c.names) good);
        outputs = All-from_recursion (λ k. k < length c.drives) c.outputs (subst (λ n. AllByRecursion (λ k. k < n) c.outputs) names outs);
        clock = subst (λ k. IfSome k (IsClockOf (plain.input_count c.drives) (plain.latch_count c.drives))) (sym s.clock) clock.0;
      };
      names = record {
        model = subst sound.IsName (sym s.model) o.model;
        signals = subst (All sound.IsName) (sym s.names) (All-from_recursion sound.IsName (names_of m.body) (names_lawful sound.IsName m.body o.drivers));
        clock = subst (λ k. IfSome k IsClockName) (sym s.clock) clock.1;
      };
      distinct = subst (λ k. AllPairs (λ a b. a ≢ b) (c.names ++ sound.clock_name k)) (sym s.clock)
          (subst (λ ns. AllPairs (λ a b. a ≢ b) (ns ++ sound.clock_name (clock_in m.body))) (sym s.names)
          (pairs_differ (names_of m.body ++ sound.clock_name (clock_in m.body)) (named_once m.body (clock_in m.body) clock.2 o.driven_once f.ungated)));
      outputs = numbers_differ c.names c.outputs (over outputs_told m.body) s.outputs (pairs_differ (over outputs_told m.body) o.outputs_once);
    }
