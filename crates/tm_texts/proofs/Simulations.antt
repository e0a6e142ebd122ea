-- From the steps of a machine to the output rows of a circuit.
use Rattle.std.proofs.Common.{◌≡◌, ℕ, ◌+◌, ◌*◌, ◌<◌, ◌≤◌, Bool, false, List, [], ◌∷◌, ◌++◌, map, take, drop, length, get_or, Some, refl, sym, ◌∙◌, ap, subst, arith, eqb-true, drop_of_length-le}
use Rattle.std.specs.Prelude.{slice_get, All}
use Rattle.std.specs.List.{range_with_len}
use Rattle.std.proofs.lemmas.Bool.Decides.{Decides-eqb}
use Rattle.std.proofs.lemmas.List.{append-nil, get_or-take, length-take-le, take_all, take_more, length-append}
use Rattle.std.proofs.lemmas.List.Elements.{All-contains, All-get_or}
use Rattle.std.proofs.lemmas.List.FromFn.{map-range_with_len_more}
use Rattle.std.proofs.lemmas.Map.Made.{IsDistinct-from_AllPairs}
use Rattle.std.proofs.lemmas.Map.Steps.{length-le_from_distinct_below}
use Rattle.std.proofs.lemmas.Map.Views.{Contains-from_any}
use Rattle.std.proofs.lemmas.Option.{get_or_from_slice_get}
use Rattle.tm_circuit.specs.Plain.{Plain, drive, input_count}
use Rattle.tm_circuit.specs.Sound.{IsSound}
use Rattle.tm_circuit.specs.Trace.{IsTrace, driven, shown}
use Rattle.tm_sim.specs.Grid.{rows_at}
use Rattle.tm_sim.specs.Machine.{State, StandsAfter, ShowsLast}
use Rattle.tm_sim.proofs.RowLemmas.{rows-more}
use Rattle.tm_texts.specs.Simulates.{IsOutput}

-- a circuit has no more outputs than signals
pub outputs_few : (c : Plain) → IsSound c → length c.outputs ≤ length c.drives
outputs_few c sound =
    length-le_from_distinct_below c.outputs (length c.drives) (IsDistinct-from_AllPairs Decides-eqb c.outputs sound.outputs)
    (λ q found. All-contains (λ s. s < length c.drives) c.outputs q sound.range.outputs (Contains-from_any eqb-true q c.outputs found))

-- a trace for some rows is one for the first of them
pub trace-take : (c : Plain) (rows : List (List Bool)) (n : ℕ) (t : ℕ → ℕ → Bool) → n ≤ length rows → IsTrace c rows t → IsTrace c (take n rows) t
trace-take c rows n t few is s step within =
    let low : step < n = omega (arith, within, length-take-le n rows few) in
    is s step (omega arith)
    ∙ ap (λ given. driven (drive c s) (get_or given s false) t step) (sym (get_or-take n rows step [] low))

-- The machine has made so many steps of the circuit on the rows, and the bits are the output rows of these steps.
pub record IsSimulating (c : Plain) (rows : List (List Bool)) (width : ℕ) (machine : State) (row bits : List Bool) (step : ℕ) : Type 0 where
  pub circuit : machine.circuit ≡ c
  pub stands : StandsAfter machine (take step rows)
  pub wide : length row ≡ width
  pub sized : length bits ≡ width * step
  pub shows : (t : ℕ → ℕ → Bool) → IsTrace c rows t → rows_at width step bits ≡ map (shown c t) (range_with_len 0 step)

pub before_steps : (c : Plain) (rows : List (List Bool)) (width : ℕ) (machine : State) (row bits : List Bool)
    → machine.circuit ≡ c → StandsAfter machine [] → length row ≡ width → bits ≡ [] → IsSimulating c rows width machine row bits 0
before_steps c rows width machine row bits circuit stands wide none = record {
  circuit = circuit;
  stands = stands;
  wide = wide;
  sized = ap length none ∙ omega arith;
  shows = λ t is. refl;
}

take-step : (rows : List (List Bool)) (step : ℕ) (inputs : List Bool) → step < length rows → slice_get rows step ≡ Some inputs
    → take (step + 1) rows ≡ take step rows ++ inputs ∷ []
take-step rows step inputs below is =
    take_more rows step [] below ∙ ap (λ (row : List Bool). take step rows ++ row ∷ []) (get_or_from_slice_get rows step inputs [] is)

pub one_step : (c : Plain) (rows : List (List Bool)) (width : ℕ) (machine next : State) (row shows bits : List Bool) (step : ℕ) (inputs : List Bool)
    → IsSimulating c rows width machine row bits step → step < length rows → slice_get rows step ≡ Some inputs
    → next.circuit ≡ machine.circuit → ((before : List (List Bool)) → StandsAfter machine before → ShowsLast machine.circuit before inputs shows)
    → ((before : List (List Bool)) → StandsAfter machine before → StandsAfter next (before ++ inputs ∷ []))
    → length shows ≡ length row → IsSimulating c rows width next shows (bits ++ shows) (step + 1)
one_step c rows width machine next row shows bits step inputs is below at same outputs stands kept =
    let wide : length shows ≡ width = kept ∙ is.wide in
    let taken = take-step rows step inputs below at in record {
      circuit = same ∙ is.circuit;
      stands = subst (StandsAfter next) (sym taken) (stands (take step rows) is.stands);
      wide = wide;
      sized = length-append bits shows ∙ omega (arith, is.sized, wide);
      shows = λ t is_trace.
          let part : IsTrace c (take (step + 1) rows) t = trace-take c rows (step + 1) t (omega arith) is_trace in
          let now : shows ≡ shown c t (length (take step rows)) = subst (λ (circuit : Plain). ShowsLast circuit (take step rows) inputs shows) is.circuit (outputs (take step rows) is.stands) t (subst (λ (front : List (List Bool)). IsTrace c front t) taken part) in
          let row_is : shows ≡ shown c t step = now ∙ ap (shown c t) (length-take-le step rows (omega arith)) in
          rows-more width step bits shows is.sized wide
          ∙ ap (λ front. front ++ shows ∷ []) (is.shows t is_trace)
          ∙ ap (λ last. map (shown c t) (range_with_len 0 step) ++ last ∷ []) row_is
          ∙ sym (map-range_with_len_more (shown c t) 0 step step (omega arith));
    }

pub all_steps : (c : Plain) (rows : List (List Bool)) (width : ℕ) (machine : State) (row bits : List Bool) (steps : ℕ)
    → IsSimulating c rows width machine row bits steps → steps ≡ length rows → IsOutput c rows (rows_at width steps bits)
all_steps c rows width machine row bits steps is all = record {
  shows = λ t is_trace. is.shows t is_trace ∙ ap (λ n. map (shown c t) (range_with_len 0 n)) all;
}

-- a slice that was written back whole
pub written_back : (n : ℕ) (new old : List Bool) → n ≡ length old → length new ≡ length old → take n (new ++ drop (length new) old) ≡ new
written_back n new old all same =
    ap (λ (rest : List Bool). take n (new ++ rest)) (drop_of_length-le old (omega arith))
    ∙ ap (take n) (append-nil new)
    ∙ take_all n new (omega arith)

-- each row has a bit for each input of the machine's circuit
pub row_wide : (c : Plain) (machine : State) (width : ℕ) (rows : List (List Bool)) (step : ℕ) (row : List Bool) → All (λ r. length r ≡ width) rows
    → width ≡ input_count c.drives → machine.circuit ≡ c → step < length rows → slice_get rows step ≡ Some row
    → length row ≡ input_count machine.circuit.drives
row_wide c machine width rows step row even wide same below is =
    ap length (sym (get_or_from_slice_get rows step row [] is))
    ∙ All-get_or (λ (r : List Bool). length r ≡ width) rows step [] below even
    ∙ wide
    ∙ ap (λ (e : Plain). input_count e.drives) (sym same)
