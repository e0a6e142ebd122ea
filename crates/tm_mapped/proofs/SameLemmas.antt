-- A mapped circuit is Same with its circuit.
use Rattle.std.proofs.Common.{◌≡◌, ℕ, zero, suc, ◌+◌, ◌<◌, ◌≤◌, Bool, true, false, cond, List, [], ◌∷◌, ◌++◌, map, length, take, get_or, Some, slice_get, refl, sym, ◌∙◌, ap, arith}
use Rattle.std.specs.Prelude.{zip, filter}
use Rattle.std.specs.List.{range_with_len}
use Rattle.std.proofs.lemmas.List.{map-append, take_at, length-take-le, length-map, get_or-take}
use Rattle.std.proofs.lemmas.List.FromFn.{fill_by_all, length-map-range_with_len}
use Rattle.std.proofs.lemmas.List.Sums.{count_by-le-length}
use Rattle.std.proofs.lemmas.Option.{get_or_from_slice_get, slice_get-get_or}
use Rattle.tm_circuit.specs.Plain.{Plain, Drive, input, latch, gate, drive, drive_in, is_input, input_count, latch_count}
use Rattle.tm_circuit.specs.Trace.{row_bit, shown}
use Rattle.tm_circuit.specs.Same.{IsSame, input_names, output_names}
use Rattle.tm_circuit.specs.Sound.{IsSound, IsPlaced}
use Rattle.tm_circuit.proofs.Traces.{endless_is_trace}
use Rattle.tm_circuit.proofs.Sameness.{sound_same_by_endless}
use Rattle.tm_unroll.specs.declared.node.Node.{Node}
use Rattle.tm_unroll.specs.Nodes.{node_at}
use Rattle.tm_unroll.specs.Mappings.{Table, root, IsLawful}
use Rattle.tm_mapped.specs.Mapped.{CoverRule, ByValues, node_name, IsMappedBy}
use Rattle.tm_mapped.specs.Needed.{nodes_of}
use Rattle.tm_mapped.specs.Moved.{bit_ahead, moved}
use Rattle.tm_mapped.proofs.ListLemmas.{at-map, drive-rest}
use Rattle.tm_mapped.proofs.CountLemmas.{nodes_long}
use Rattle.tm_mapped.proofs.NodeLemmas.{is_input_at}
use Rattle.tm_mapped.proofs.DriveLemmas.{IsDriven, as_input, as_kept, as_moved, as_table, as_none, driven_as}
use Rattle.tm_mapped.proofs.RunLemmas.{moved_run_obeys}

-- ---- names of inputs

named_inputs : List (List ℕ) → List Drive → List (List ℕ)
named_inputs names drives = map (λ signal. signal.0) (filter (λ signal. is_input signal.1) (zip names drives))

-- Where no drive is an input, none is named.
none_named : (names : List (List ℕ)) (drives : List Drive) → ((i : ℕ) → i < length drives → is_input (drive_in drives i) ≡ false) → named_inputs names drives ≡ []
unfolding named_inputs
none_named [] drives others = refl
none_named (name ∷ names) [] others = refl
none_named (name ∷ names) (d ∷ drives) others =
    let here : is_input d ≡ false = others zero (omega arith) in
    let rest = none_named names drives (λ i within. ap is_input (sym (drive-rest d drives i within)) ∙ others (suc i) (omega arith)) in
    ap (λ b. map (λ (signal : List ℕ × Drive). signal.0) (cond b ((name, d) ∷ filter (λ signal. is_input signal.1) (zip names drives)) (filter (λ signal. is_input signal.1) (zip names drives)))) here ∙ rest

-- Where just the first drives are inputs, the first names are theirs.
first_named : (n : ℕ) (names : List (List ℕ)) (drives : List Drive) → n ≤ length drives → ((i : ℕ) → i < n → drive_in drives i ≡ input)
    → ((i : ℕ) → n ≤ i → i < length drives → is_input (drive_in drives i) ≡ false) → named_inputs names drives ≡ take n names
unfolding named_inputs
first_named zero names drives few inputs others = none_named names drives (λ i within. others i (omega arith) within)
first_named (suc n) [] drives few inputs others = refl
first_named (suc n) (name ∷ names) [] few inputs others = absurd (omega arith)
first_named (suc n) (name ∷ names) (d ∷ drives) few inputs others =
    let here : is_input d ≡ true = ap is_input (inputs zero (omega arith)) in
    let rest = first_named n names drives (omega arith) (λ i low. sym (drive-rest d drives i (omega arith)) ∙ inputs (suc i) (omega arith)) (λ i high within. ap is_input (sym (drive-rest d drives i within)) ∙ others (suc i) (omega arith) (omega arith)) in
    ap (λ b. map (λ (signal : List ℕ × Drive). signal.0) (cond b ((name, d) ∷ filter (λ signal. is_input signal.1) (zip names drives)) (filter (λ signal. is_input signal.1) (zip names drives)))) here ∙ ap (λ ns. name ∷ ns) rest

-- The inputs of a sound circuit are named first.
not_input : (inputs latches s : ℕ) (d : Drive) → IsPlaced inputs latches s d → inputs ≤ s → is_input d ≡ false
not_input inputs latches s input place high = absurd (omega arith)
not_input inputs latches s (latch next init) place high = refl
not_input inputs latches s (gate pins cover) place high = refl

pub sound_inputs : (c : Plain) → IsSound c → input_names c ≡ take (input_count c.drives) c.names
unfolding named_inputs
sound_inputs c sound =
    first_named (input_count c.drives) c.names c.drives (count_by-le-length is_input c.drives) (is_input_at c sound) (λ i high within.
    not_input (input_count c.drives) (latch_count c.drives) i (drive c i) (sound.placed i (drive c i) (slice_get-get_or c.drives i (latch i false) within)) high)

-- The first names, one by one.
counted_names : (names : List (List ℕ)) (n : ℕ) → n ≤ length names → take n names ≡ map (λ s. get_or names s []) (range_with_len 0 n)
counted_names names n few =
    fill_by_all (λ s. get_or names s []) (take n names) n [] (length-take-le n names few) (λ s low. get_or-take n names s [] low)

pub map-twice : {X Y Z : Type 0} (f : Y → Z) (g : X → Y) (xs : List X) → map f (map g xs) ≡ map (λ x. f (g x)) xs
map-twice f g [] = refl
map-twice f g (x ∷ xs) = ap (λ ys. f (g x) ∷ ys) (map-twice f g xs)

-- ---- outputs

-- What agrees at each output of the two circuits agrees at all of them.
outputs_agree : {X : Type 0} (all : List Node) (f g : ℕ → X) (outs ends : List ℕ) → map (λ o. slice_get all o) outs ≡ map (λ s. Some (node_at 0 s)) ends
    → ((o s : ℕ) → slice_get all o ≡ Some (node_at 0 s) → f o ≡ g s) → map f outs ≡ map g ends
outputs_agree all f g [] [] same agree = refl
outputs_agree all f g [] (s ∷ ends) same agree = cc
outputs_agree all f g (o ∷ outs) [] same agree = cc
outputs_agree all f g (o ∷ outs) (s ∷ ends) same agree =
    let here : slice_get all o ≡ Some (node_at 0 s) = cc in
    let rest : map (λ o. slice_get all o) outs ≡ map (λ s. Some (node_at 0 s)) ends = cc in
    let first = agree o s here in
    let later = outputs_agree all f g outs ends rest agree in
    cc

module _ (Covers : CoverRule) (c : Plain) (tables : List Table) (mapped : Plain) (sound : IsSound c) (by : IsMappedBy Covers c tables mapped) where
  no_more_inputs : (i : ℕ) → input_count c.drives ≤ i → i < length mapped.drives → is_input (drive mapped i) ≡ false
  no_more_inputs i high within = by_kind (driven_as Covers c tables mapped by i)
    where
      by_kind : IsDriven Covers c by.registers tables mapped i → is_input (drive mapped i) ≡ false
      by_kind (as_input low at is) = absurd (omega (arith, low, high))
      by_kind (as_kept x at kept) = ap is_input kept.is
      by_kind (as_moved x at is) = ap is_input is.is
      by_kind (as_table u stands at is) = ap is_input is.is
      by_kind (as_none none is) = ap is_input is

  mapped_names : take (input_count c.drives) mapped.names ≡ map (λ s. get_or c.names s []) (range_with_len 0 (input_count c.drives))
  mapped_names =
      let ins : List Node = map (λ s. node_at 0 s) (range_with_len 0 (input_count c.drives)) in
      let rest : List Node = by.registers ++ map root tables in
      let long : length (map (node_name c) ins) ≡ input_count c.drives = length-map ins (node_name c) ∙ length-map-range_with_len (λ s. node_at 0 s) 0 (input_count c.drives) in
      ap (take (input_count c.drives)) (by.names ∙ map-append (node_name c) ins rest)
      ∙ (take_at (map (node_name c) ins) (map (node_name c) rest) (input_count c.drives) long
      ∙ map-twice (node_name c) (λ s. node_at 0 s) (range_with_len 0 (input_count c.drives)))

  pub same_inputs : input_names c ≡ input_names mapped
  unfolding named_inputs
  same_inputs =
      let few : input_count c.drives ≤ length c.names = let e = count_by-le-length is_input c.drives in let f = sound.named in omega (arith, e, f) in
      sound_inputs c sound
      ∙ (counted_names c.names (input_count c.drives) few
      ∙ (sym mapped_names ∙ sym (first_named (input_count c.drives) mapped.names mapped.drives (let long = nodes_long Covers c tables mapped by in omega (arith, long)) by.inputs no_more_inputs)))

  name_seen : (o s : ℕ) → slice_get (nodes_of c by.registers tables) o ≡ Some (node_at 0 s) → get_or mapped.names o [] ≡ get_or c.names s []
  name_seen o s at =
      ap (λ ns. get_or ns o []) by.names
      ∙ get_or_from_slice_get (map (node_name c) (nodes_of c by.registers tables)) o (get_or c.names s []) [] (at-map (node_name c) (nodes_of c by.registers tables) o (node_at 0 s) at)

  pub same_outputs : output_names c ≡ output_names mapped
  same_outputs =
      sym (outputs_agree (nodes_of c by.registers tables) (λ o. get_or mapped.names o []) (λ s. get_or c.names s []) mapped.outputs c.outputs by.outputs name_seen)

  bit_seen : (t : ℕ → ℕ → Bool) (step o s : ℕ) → slice_get (nodes_of c by.registers tables) o ≡ Some (node_at 0 s)
      → moved (nodes_of c by.registers tables) t o step ≡ t s step
  bit_seen t step o s at = let e : step + 0 ≡ step = omega arith in ap (bit_ahead t step) at ∙ ap (t s) e

  pub shown_seen : (t : ℕ → ℕ → Bool) (step : ℕ) → shown c t step ≡ shown mapped (moved (nodes_of c by.registers tables) t) step
  shown_seen t step =
      sym (outputs_agree (nodes_of c by.registers tables) (λ o. moved (nodes_of c by.registers tables) t o step) (λ s. t s step) mapped.outputs c.outputs by.outputs (bit_seen t step))

pub is_same : (c : Plain) (k d : ℕ) (tables : List Table) (mapped : Plain) → IsSound c → IsSound mapped → IsLawful c k d tables
    → IsMappedBy ByValues c tables mapped → IsSame c mapped
is_same c k d tables mapped sound sound_m lawful by =
    sound_same_by_endless c mapped sound sound_m (same_inputs ByValues c tables mapped sound by) (same_outputs ByValues c tables mapped sound by) (λ rows t obeys. (
      moved (nodes_of c by.registers tables) t,
      endless_is_trace mapped rows (moved (nodes_of c by.registers tables) t) (moved_run_obeys c k d tables mapped sound lawful by (row_bit rows) t obeys),
      λ step within. shown_seen ByValues c tables mapped sound by t step,
    ))
