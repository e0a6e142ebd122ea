-- The names of nodes: distinct for distinct nodes, and none is the clock's.
use Rattle.std.proofs.Common.{◌≡◌, ◌≢◌, ℕ, zero, suc, ◌+◌, ◌%◌, ◌^◌, ◌<◌, ◌≤◌, ◌||◌, inl, inr, Bool, true, false, cond, List, [], ◌∷◌, ◌++◌, map, length, get_or, replicate, Option, Some, None, refl, sym, ◌∙◌, ap, subst, append_assoc, length-append, arith}
use Rattle.std.specs.Prelude.{All, AllPairs, is_some}
use Rattle.std.specs.Fmt.{decimal}
use Rattle.std.proofs.lemmas.Fmt.{decimal_by_steps, decimal_injective}
use Rattle.std.proofs.lemmas.Bool.{cases_lt}
use Rattle.std.proofs.lemmas.List.{append_cancel_right, append-nil, length-map, replicate_more, get_or_append_left, get_or_default, get_or_push, get_or-map}
use Rattle.std.proofs.lemmas.List.Elements.{All-nil, All-cons, All-push, All-weaker, All-head, All-tail}
use Rattle.std.proofs.lemmas.List.Quantifiers.{all_pairs_push}
use Rattle.tm_circuit.specs.declared.parts.Clock.{Clock}
use Rattle.tm_circuit.specs.Plain.{Plain, greatest}
use Rattle.tm_circuit.specs.Sound.{IsSound, clock_name}
use Rattle.tm_parts.specs.Names.{all_names}
use Rattle.tm_parts.specs.Fits.{plus}
use Rattle.tm_parts.specs.Runs.{longest_run}
use Rattle.tm_parts.proofs.Measures.{run_within}
use Rattle.tm_unroll.specs.declared.node.Node.{Node}
use Rattle.tm_unroll.proofs.ReadLemmas.{same_node}
use Rattle.tm_mapped.specs.Mapped.{node_name, node_name_at, clock_for}

-- ---- digits

pub digits_of_decimal : (n : ℕ) → n < 2 ^ 64 → All (λ b. (48 ≤ b) × (b ≤ 57)) (decimal n)
digits_of_decimal n small =
    decimal_by_steps (λ m ds. All (λ b. (48 ≤ b) × (b ≤ 57)) ds)
    (λ m less. All-cons (λ b. (48 ≤ b) × (b ≤ 57)) (48 + m) [] (omega arith, omega arith) (All-nil (λ b. (48 ≤ b) × (b ≤ 57))))
    (λ m ds more are. All-push (λ b. (48 ≤ b) × (b ≤ 57)) ds (48 + m % 10) are (omega arith, omega arith))
    n small

pub no_plus : (n : ℕ) → n < 2 ^ 64 → All (λ z. z ≡ plus → ⊥) (decimal n)
no_plus n small = All-weaker (λ b. (48 ≤ b) × (b ≤ 57)) (λ z. z ≡ plus → ⊥) (λ z is e. omega arith) (decimal n) (digits_of_decimal n small)

-- ---- names that differ

no_inner : (t : ℕ) (front back : List ℕ) → All (λ b. b ≡ t → ⊥) (front ++ t ∷ back) → ⊥
no_inner t [] back none = All-head (λ b. b ≡ t → ⊥) t back none refl
no_inner t (a ∷ front) back none = no_inner t front back (All-tail (λ b. b ≡ t → ⊥) a (front ++ t ∷ back) none)

-- Where the last `+` stands is told by the bytes.
last_split : (t : ℕ) (a b x y : List ℕ) → a ++ t ∷ x ≡ b ++ t ∷ y → All (λ z. z ≡ t → ⊥) x → All (λ z. z ≡ t → ⊥) y → (a ≡ b) × (x ≡ y)
last_split t [] [] x y same none_x none_y = (refl, cc)
last_split t [] (e ∷ b) x y same none_x none_y =
    let tail : x ≡ b ++ t ∷ y = cc in
    absurd (no_inner t b y (subst (λ (zs : List ℕ). All (λ z. z ≡ t → ⊥) zs) tail none_x))
last_split t (e ∷ a) [] x y same none_x none_y =
    let tail : y ≡ a ++ t ∷ x = cc in
    absurd (no_inner t a x (subst (λ (zs : List ℕ). All (λ z. z ≡ t → ⊥) zs) tail none_y))
last_split t (e ∷ a) (f ∷ b) x y same none_x none_y =
    let head : e ≡ f = cc in
    let tail : a ++ t ∷ x ≡ b ++ t ∷ y = cc in
    let (fronts, backs) = last_split t a b x y tail none_x none_y in
    (cc, backs)

joined_split : (a : List ℕ) (g n : ℕ) → (a ++ replicate (suc g) plus) ++ decimal n ≡ (a ++ replicate g plus) ++ plus ∷ decimal n
joined_split a g n =
    let one : g + 1 ≡ suc g = omega arith in
    let run : replicate (suc g) plus ≡ replicate g plus ++ plus ∷ [] = ap (λ m. replicate m plus) (sym one) ∙ sym (replicate_more g plus) in
    ap (λ js. (a ++ js) ++ decimal n) run
    ∙ (ap (λ xs. xs ++ decimal n) (sym (append_assoc a (replicate g plus) (plus ∷ [])))
    ∙ append_assoc (a ++ replicate g plus) (plus ∷ []) (decimal n))

-- Two names with a joiner are the same only where both the front and the number are.
ahead_same : (a b : List ℕ) (g m n : ℕ) → m < 2 ^ 64 → n < 2 ^ 64
    → (a ++ replicate (suc g) plus) ++ decimal m ≡ (b ++ replicate (suc g) plus) ++ decimal n → (a ≡ b) × (m ≡ n)
ahead_same a b g m n small_m small_n same =
    let split : (a ++ replicate g plus) ++ plus ∷ decimal m ≡ (b ++ replicate g plus) ++ plus ∷ decimal n = sym (joined_split a g m) ∙ (same ∙ joined_split b g n) in
    let (fronts, digits) = last_split plus (a ++ replicate g plus) (b ++ replicate g plus) (decimal m) (decimal n) split (no_plus m small_m) (no_plus n small_n) in
    (append_cancel_right a b (replicate g plus) fronts, decimal_injective m n small_m small_n digits)

-- A name with a joiner has a longer run than any name of the circuit.
ahead_not_old : (a old : List ℕ) (g n : ℕ) → longest_run plus old ≤ g → old ≡ (a ++ replicate (suc g) plus) ++ decimal n → ⊥
ahead_not_old a old g n few same =
    let long : suc g ≤ longest_run plus (a ++ (replicate (suc g) plus ++ decimal n)) = run_within plus a (suc g) (decimal n) in
    let whole : longest_run plus old ≡ longest_run plus (a ++ (replicate (suc g) plus ++ decimal n)) = ap (longest_run plus) (same ∙ append_assoc a (replicate (suc g) plus) (decimal n)) in
    omega arith

greatest_at : (xs : List ℕ) (i d : ℕ) → i < length xs → get_or xs i d ≤ greatest xs
greatest_at [] i d within = absurd (omega arith)
greatest_at (x ∷ xs) zero d within = omega arith
greatest_at (x ∷ xs) (suc i) d within =
    let later : get_or xs i d ≤ greatest xs = greatest_at xs i d (omega arith) in
    omega arith

run_at : (names : List (List ℕ)) (i : ℕ) (d : List ℕ) → i < length names → longest_run plus (get_or names i d) ≤ greatest (map (longest_run plus) names)
run_at names i d within =
    let here : get_or (map (longest_run plus) names) i 0 ≡ longest_run plus (get_or names i d) = get_or-map (longest_run plus) names i d 0 within in
    let most : get_or (map (longest_run plus) names) i 0 ≤ greatest (map (longest_run plus) names) = greatest_at (map (longest_run plus) names) i 0 (omega (arith, length-map names (longest_run plus))) in
    omega arith

-- The longest run of `+` in any name of a circuit.
abbrev most_plus : Plain → ℕ
most_plus c = greatest (map (longest_run plus) (all_names c))

module _ (c : Plain) (sound : IsSound c) where
  old_name_at : (s : ℕ) (d : List ℕ) → s < length c.names → get_or (all_names c) s d ≡ get_or c.names s []
  old_name_at s d within = get_or_append_left c.names (clock_name c.clock) d s within ∙ get_or_default c.names s d [] within

  old_run : (s : ℕ) → s < length c.names → longest_run plus (get_or c.names s []) ≤ most_plus c
  old_run s within =
      let longer : s < length (all_names c) = omega (arith, length-append c.names (clock_name c.clock)) in
      subst (λ (n : List ℕ). longest_run plus n ≤ most_plus c) (old_name_at s [] within) (run_at (all_names c) s [] longer)

  old_less : (s t : ℕ) → s < t → t < length c.names → get_or c.names s [] ≡ get_or c.names t [] → ⊥
  old_less s t less within same =
      let longer : t < length (all_names c) = omega (arith, length-append c.names (clock_name c.clock)) in
      sound.distinct s t [] less longer (old_name_at s [] (omega arith) ∙ (same ∙ sym (old_name_at t [] within)))

  old_same : (s t : ℕ) → s < length c.names → t < length c.names → get_or c.names s [] ≡ get_or c.names t [] → s ≡ t
  old_same s t within_s within_t same =
      elim (cases_lt s t) [
        | inl less ↦ absurd (old_less s t less within_t same)
        | inr more ↦ elim (cases_lt t s) [
          | inl greater ↦ absurd (old_less t s greater within_s (sym same))
          | inr equal ↦ omega arith
        ]
      ]

  same_parts : (s a t b : ℕ) → s < length c.names → t < length c.names → a < 2 ^ 64 → b < 2 ^ 64 → node_name_at c s a ≡ node_name_at c t b → (s ≡ t) × (a ≡ b)
  same_parts s zero t zero within_s within_t small_a small_b same = (old_same s t within_s within_t same, refl)
  same_parts s zero t (suc b) within_s within_t small_a small_b same =
      absurd (ahead_not_old (get_or c.names t []) (get_or c.names s []) (most_plus c) (suc b) (old_run s within_s) same)
  same_parts s (suc a) t zero within_s within_t small_a small_b same =
      absurd (ahead_not_old (get_or c.names s []) (get_or c.names t []) (most_plus c) (suc a) (old_run t within_t) (sym same))
  same_parts s (suc a) t (suc b) within_s within_t small_a small_b same =
      let (bases, numbers) = ahead_same (get_or c.names s []) (get_or c.names t []) (most_plus c) (suc a) (suc b) small_a small_b same in
      (old_same s t within_s within_t bases, numbers)

  -- Nodes of one name are one.
  pub name_same : (x y : Node) → x.signal < length c.drives → y.signal < length c.drives → x.advance < 2 ^ 64 → y.advance < 2 ^ 64
      → node_name c x ≡ node_name c y → x ≡ y
  name_same x y within_x within_y small_x small_y same =
      let named = sound.named in
      let (signal, advance) = same_parts x.signal x.advance y.signal y.advance (omega (arith, named, within_x)) (omega (arith, named, within_y)) small_x small_y same in
      same_node x y signal advance

  module _ (clock : Clock) (is_clock : c.clock ≡ Some clock) where
    with_clock : all_names c ≡ c.names ++ clock.name ∷ []
    with_clock = ap (λ k. c.names ++ clock_name k) is_clock

    clock_inside : length c.names < length (all_names c)
    clock_inside = omega (arith, ap (λ (ns : List (List ℕ)). length ns) with_clock, length-append c.names (clock.name ∷ []))

    clock_at_end : get_or (all_names c) (length c.names) [] ≡ clock.name
    clock_at_end = ap (λ ns. get_or ns (length c.names) []) with_clock ∙ get_or_push c.names clock.name [] (length c.names) refl

    clock_apart : (s a : ℕ) → s < length c.names → node_name_at c s a ≡ clock.name → ⊥
    clock_apart s zero within same =
        sound.distinct s (length c.names) [] within clock_inside (old_name_at s [] within ∙ (same ∙ sym clock_at_end))
    clock_apart s (suc a) within same =
        let few : longest_run plus clock.name ≤ most_plus c = subst (λ (y : List ℕ). longest_run plus y ≤ most_plus c) clock_at_end (run_at (all_names c) (length c.names) [] clock_inside) in
        ahead_not_old (get_or c.names s []) clock.name (most_plus c) (suc a) few (sym same)

    -- No node has the clock's name.
    pub no_clock : (x : Node) → x.signal < length c.drives → node_name c x ≡ clock.name → ⊥
    no_clock x within same = let named = sound.named in clock_apart x.signal x.advance (omega (arith, named, within)) same

-- ---- the clock of the mapped circuit

idle_by : (test : Bool) (own kept made : Clock) → made.name ≡ own.name → cond test (Some made) None ≡ Some kept → kept.name ≡ own.name
idle_by true own kept made named is = let e : made ≡ kept = cc in ap (λ (k : Clock). k.name) (sym e) ∙ named
idle_by false own kept made named is = cc

-- A clock of the mapped circuit has the name of the circuit's clock.
pub kept_clock : (n : ℕ) (clock : Option Clock) (kept : Clock) → clock_for n clock ≡ Some kept → (own : Clock) × (clock ≡ Some own) × (kept.name ≡ own.name)
kept_clock zero None kept is = cc
kept_clock zero (Some own) kept is =
    (own, refl, idle_by (own.declared || is_some own.place) own kept (record { name = own.name; declared = true; place = own.place; edge = None }) refl is)
kept_clock (suc n) clock kept is = (kept, is, refl)

-- Names that are distinct, with the name of a clock that is none of them.
pub with_clock_name : (names : List (List ℕ)) (clock : Option Clock) → AllPairs (λ a b. a ≢ b) names
    → ((own : Clock) → clock ≡ Some own → (i : ℕ) (e : List ℕ) → i < length names → get_or names i e ≢ own.name)
    → AllPairs (λ a b. a ≢ b) (names ++ clock_name clock)
with_clock_name names None apart others = subst (λ (ns : List (List ℕ)). AllPairs (λ a b. a ≢ b) ns) (sym (append-nil names)) apart
with_clock_name names (Some own) apart others = all_pairs_push (λ a b. a ≢ b) names own.name apart (λ i e within. others own refl i e within)
