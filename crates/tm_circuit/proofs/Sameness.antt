-- Same is an equivalence, and how circuits are shown to be Same.
use Rattle.std.proofs.Common.{◌≡◌, ℕ, zero, suc, ◌≤◌, Bool, true, false, cond, get_or, List, [], ◌∷◌, map, length, refl, sym, ◌∙◌, ap, inl, inr, arith}
use Rattle.std.proofs.lemmas.Bool.{cases_lt}
use Rattle.std.specs.List.{zip, filter, AllZip}
use Rattle.std.proofs.lemmas.List.{get_or_past}
use Rattle.std.proofs.lemmas.List.Elements.{AllZip-get_or, length_all_zip}
use Rattle.tm_circuit.specs.Plain.{Plain, Drive, input, latch, gate, drive, is_input}
use Rattle.tm_circuit.specs.Trace.{IsTrace, row_bit, driven, ObeysAlways}
use Rattle.tm_circuit.specs.Same.{IsSame, input_names, output_names, IsAlike, IsRewritten, ShowsAlike}
use Rattle.tm_circuit.specs.Chain.{rank}
use Rattle.tm_circuit.specs.Sound.{IsSound}
use Rattle.tm_circuit.proofs.Traces.{IsRankedBy, ranked_from_sound, map_agree, one_trace_lem, some_trace, endless, endless_obeys, endless_is_trace}

-- The general tool: circuits are Same where each trace of the first gives some trace of the second with the same
-- outputs. That the second has no other trace does the rest.
pub same_by_trace : (a b : Plain) (rank : ℕ → ℕ) → IsRankedBy b rank → input_names a ≡ input_names b
    → output_names a ≡ output_names b
    → ((rows : List (List Bool)) (t : ℕ → ℕ → Bool) → IsTrace a rows t → ShowsAlike a b rows t)
    → IsSame a b
same_by_trace a b rank ranked inputs outputs made = record {
  inputs = inputs;
  outputs = outputs;
  shows = λ rows t u is_t is_u step within.
      let (v, is_v, same) = made rows t is_t in
      same step within ∙ map_agree (λ s. v s step) (λ s. u s step) b.outputs (λ s inside. one_trace_lem b rank ranked rows v u is_v is_u s step within);
}

-- The same tool from a table of the first circuit that obeys its drives for ever, where the inputs that the rows don't
-- give are 0: for circuits that see a later step of the first.
pub same_by_endless : (a b : Plain) (rank_a rank_b : ℕ → ℕ) → IsRankedBy a rank_a → IsRankedBy b rank_b
    → input_names a ≡ input_names b → output_names a ≡ output_names b
    → ((rows : List (List Bool)) (t : ℕ → ℕ → Bool) → ObeysAlways a (row_bit rows) t → ShowsAlike a b rows t)
    → IsSame a b
same_by_endless a b rank_a rank_b ranked_a ranked_b inputs outputs made =
    same_by_trace a b rank_b ranked_b inputs outputs (λ rows t is_t.
    let e : ℕ → ℕ → Bool = endless a rank_a (row_bit rows) in
    let obeys : ObeysAlways a (row_bit rows) e = endless_obeys a rank_a (row_bit rows) ranked_a in
    let is_e : IsTrace a rows e = endless_is_trace a rows e obeys in
    let (u, is_u, same) = made rows e obeys in (
      u,
      is_u,
      λ step within.
          map_agree (λ s. t s step) (λ s. e s step) a.outputs (λ s inside. one_trace_lem a rank_a ranked_a rows t e is_t is_e s step within) ∙ same step within,
    ))

pub same_itself : (c : Plain) (rank : ℕ → ℕ) → IsRankedBy c rank → IsSame c c
same_itself c rank ranked = same_by_trace c c rank ranked refl refl (λ rows t is_t. (t, is_t, λ step within. refl))

pub same_back : (a b : Plain) → IsSame a b → IsSame b a
same_back a b same = record {
  inputs = sym same.inputs;
  outputs = sym same.outputs;
  shows = λ rows t u is_t is_u step within. sym (same.shows rows u t is_u is_t step within);
}

pub same_through : (a b c : Plain) (rank : ℕ → ℕ) → IsRankedBy b rank → IsSame a b → IsSame b c → IsSame a c
same_through a b c rank ranked first second = record {
  inputs = first.inputs ∙ second.inputs;
  outputs = first.outputs ∙ second.outputs;
  shows = λ rows t u is_t is_u step within.
      let (v, is_v) = some_trace b rank ranked rows in
      first.shows rows t v is_t is_v step within ∙ second.shows rows v u is_v is_u step within;
}

-- ---- gates of equal values

-- The same table obeys drives that are alike.
driven_alike : (d e : Drive) (given : Bool) (t : ℕ → ℕ → Bool) (step : ℕ) → IsAlike d e
    → driven d given t step ≡ driven e given t step
driven_alike input input given t step alike = refl
driven_alike input (latch next init) given t step alike = absurd alike
driven_alike input (gate pins cover) given t step alike = absurd alike
driven_alike (latch next init) input given t step alike = absurd alike
driven_alike (latch next init) (latch next' init') given t zero alike = alike.1
driven_alike (latch next init) (latch next' init') given t (suc before) alike = ap (λ n. t n before) alike.0
driven_alike (latch next init) (gate pins cover) given t step alike = absurd alike
driven_alike (gate pins cover) input given t step alike = absurd alike
driven_alike (gate pins cover) (latch next init) given t step alike = absurd alike
driven_alike (gate pins cover) (gate pins' cover') given t step alike = alike (λ p. t p step)

is_input_alike : (d e : Drive) → IsAlike d e → is_input d ≡ is_input e
is_input_alike input input alike = refl
is_input_alike input (latch next init) alike = absurd alike
is_input_alike input (gate pins cover) alike = absurd alike
is_input_alike (latch next init) input alike = absurd alike
is_input_alike (latch next init) (latch next' init') alike = refl
is_input_alike (latch next init) (gate pins cover) alike = absurd alike
is_input_alike (gate pins cover) input alike = absurd alike
is_input_alike (gate pins cover) (latch next init) alike = absurd alike
is_input_alike (gate pins cover) (gate pins' cover') alike = refl

-- The names of the inputs are found by which drives are inputs.
input_cond : (b c : Bool) (name : List ℕ) (d e : Drive) (xs ys : List (List ℕ × Drive)) → b ≡ c
    → map (λ signal. signal.0) xs ≡ map (λ signal. signal.0) ys
    → map (λ signal. signal.0) (cond b ((name, d) ∷ xs) xs) ≡ map (λ signal. signal.0) (cond c ((name, e) ∷ ys) ys)
input_cond true true name d e xs ys same rest = ap (λ names. name ∷ names) rest
input_cond true false name d e xs ys same rest = cc
input_cond false true name d e xs ys same rest = cc
input_cond false false name d e xs ys same rest = rest

inputs_alike : (names : List (List ℕ)) (ds es : List Drive) → AllZip IsAlike ds es
    → map (λ signal. signal.0) (filter (λ signal. is_input signal.1) (zip names ds)) ≡ map (λ signal. signal.0) (filter (λ signal. is_input signal.1) (zip names es))
inputs_alike [] ds es alike = refl
inputs_alike (name ∷ names) [] [] alike = refl
inputs_alike (name ∷ names) [] (e ∷ es) alike = absurd alike
inputs_alike (name ∷ names) (d ∷ ds) [] alike = absurd alike
inputs_alike (name ∷ names) (d ∷ ds) (e ∷ es) alike =
    input_cond (is_input d) (is_input e) name d e (filter (λ signal. is_input signal.1) (zip names ds)) (filter (λ signal. is_input signal.1) (zip names es)) (is_input_alike d e alike.0) (inputs_alike names ds es alike.1)

-- Alike at each number, past the last signal too.
alike_at : (a b : Plain) → AllZip IsAlike a.drives b.drives → (s : ℕ) → IsAlike (drive a s) (drive b s)
alike_at a b alike s =
    elim (cases_lt s (length a.drives)) [
      | inl within ↦ AllZip-get_or IsAlike a.drives b.drives s (latch s false) (latch s false) alike within
      | inr past ↦
          let as_long : length a.drives ≡ length b.drives = length_all_zip IsAlike a.drives b.drives alike in
          let past_b : length b.drives ≤ s = omega arith in
          rw (get_or_past a.drives s (latch s false) past, get_or_past b.drives s (latch s false) past_b) (refl, refl)
    ]

-- A trace of a circuit is one of each circuit with gates of the same values.
pub rewritten_trace : (a b : Plain) (rows : List (List Bool)) (t : ℕ → ℕ → Bool) → IsRewritten a b
    → IsTrace a rows t → IsTrace b rows t
rewritten_trace a b rows t written is_t s step within =
    is_t s step within ∙ driven_alike (drive a s) (drive b s) (row_bit rows s step) t step (alike_at a b written.drives s)

pub rewritten_same : (a b : Plain) (rank : ℕ → ℕ) → IsRankedBy b rank → IsRewritten a b → IsSame a b
rewritten_same a b rank ranked written =
    let inputs : input_names a ≡ input_names b =
    inputs_alike a.names a.drives b.drives written.drives ∙ ap (λ names. map (λ signal. signal.0) (filter (λ signal. is_input signal.1) (zip names b.drives))) written.names in
    let outputs : output_names a ≡ output_names b =
    ap (λ names. map (λ s. get_or names s []) a.outputs) written.names ∙ ap (λ outputs. map (λ s. get_or b.names s []) outputs) written.outputs in
    same_by_trace a b rank ranked inputs outputs (λ rows t is_t.
    (t, rewritten_trace a b rows t written is_t, λ step within. ap (λ outputs. map (λ s. t s step) outputs) written.outputs))

-- ---- for sound circuits

pub sound_same_itself : (c : Plain) → IsSound c → IsSame c c
sound_same_itself c sound = same_itself c (rank c) (ranked_from_sound c sound)

pub sound_same_through : (a b c : Plain) → IsSound b → IsSame a b → IsSame b c → IsSame a c
sound_same_through a b c sound = same_through a b c (rank b) (ranked_from_sound b sound)

pub sound_rewritten_same : (a b : Plain) → IsSound b → IsRewritten a b → IsSame a b
sound_rewritten_same a b sound = rewritten_same a b (rank b) (ranked_from_sound b sound)

pub sound_same_by_trace : (a b : Plain) → IsSound b → input_names a ≡ input_names b → output_names a ≡ output_names b
    → ((rows : List (List Bool)) (t : ℕ → ℕ → Bool) → IsTrace a rows t → ShowsAlike a b rows t) → IsSame a b
sound_same_by_trace a b sound = same_by_trace a b (rank b) (ranked_from_sound b sound)

pub sound_same_by_endless : (a b : Plain) → IsSound a → IsSound b → input_names a ≡ input_names b
    → output_names a ≡ output_names b
    → ((rows : List (List Bool)) (t : ℕ → ℕ → Bool) → ObeysAlways a (row_bit rows) t → ShowsAlike a b rows t) → IsSame a b
sound_same_by_endless a b sound_a sound_b =
    same_by_endless a b (rank a) (rank b) (ranked_from_sound a sound_a) (ranked_from_sound b sound_b)
