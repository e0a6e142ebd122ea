-- In a nested trace names that become one name of the flat unit have one bit: each has the bit of the name that it comes from, which is
-- bound to no other, and that one is told by the flat name.
use Rattle.std.proofs.Common.{◌≡◌, ℕ, suc, ◌^◌, ◌<◌, Bool, true, false, cond, List, [], ◌∷◌, ◌++◌, Some, length, flat_map, slice_get, replicate, refl, sym, ◌∙◌, ap, ap₂, subst, append_assoc, append-nil, bytes_eq}
use Rattle.std.specs.Prelude.{option_and_then}
use Rattle.std.specs.List.{AllByRecursion}
use Rattle.std.proofs.lemmas.Slice.Eq.{bytes_eq-Decides}
use Rattle.blif_unit.specs.declared.unit.Binding.{Binding}
use Rattle.blif_unit.specs.Fit.{names_told, names_bound}
use Rattle.blif_unit.specs.Unit.{Told, Telling, Model, over}
use Rattle.blif_flat.specs.Places.{model_named}
use Rattle.blif_flat.specs.Flat.{suffix_of, name_within, bound_by}
use Rattle.blif_hier.specs.Nested.{Placing, placing_at, model_under, IsNestedTrace}
use Rattle.blif_hier.proofs.SuffixLemmas.{suffix_in, path_of, same_origin}
use Rattle.blif_hier.proofs.Instances.{Instance, named, instance_in, instance_at, leads, over_placings, placing_stands, under-append}
use Rattle.blif_hier.proofs.Lists.{flat_all_at}
use Rattle.blif_hier.proofs.Reaching.{step_of, first_step, as_top}
use Rattle.blif_hier.proofs.ShortRuns.{IsShortRun, HasShortRuns, found_has}

-- the names of bindings are among those of the statements
placing_short : (P : List ℕ → Type 0) (body : List Telling) (idx : ℕ) (p : Placing) → slice_get (over_placings body) idx ≡ Some p
    → AllByRecursion P (over names_told body) → AllByRecursion P (flat_map names_bound p.bindings)
placing_short P body idx p at all =
    let found = placing_stands body idx p at in
    let names : AllByRecursion P (p.model ∷ flat_map names_bound p.bindings) =
    subst (λ (w : Told). AllByRecursion P (names_told w)) found.2 (flat_all_at P (λ (t : Telling). names_told t.what) body found.0 all found.1) in
    names.1

-- Models of which the first is the top, rows and a nested trace of them, whose names have short runs.
module _ (top : Model) (others : List Model) (runs : ℕ) (all_short : AllByRecursion (HasShortRuns runs) (top ∷ others)) (rows : List (List Bool))
    (bits : List ℕ → List ℕ → ℕ → Bool) (trace : IsNestedTrace (top ∷ others) rows bits) where
  -- the models, and the joiner
  abbrev models : List Model
  models = top ∷ others

  abbrev joiner : List ℕ
  joiner = replicate (suc runs) 64

  -- Where a name of an instance comes from: a name with short runs and a path, from the innermost.
  pub record IsOrigin (path n flat origin : List ℕ) (back : List ℕ) : Type 0 where
    pub short : IsShortRun runs origin
    pub small : AllByRecursion (λ k. k < 2 ^ 64) back
    pub told : flat ≡ origin ++ suffix_in runs back
    pub same : (step : ℕ) → step < length rows → bits path n step ≡ bits (path_of back) origin step

  -- Each name with short runs of an instance comes from one that its flat name tells.
  pub record HasOrigins (back : List ℕ) (i : Instance) : Type 0 where
    pub small : AllByRecursion (λ k. k < 2 ^ 64) back
    pub suffix : i.suffix ≡ suffix_in runs back
    pub model : model_under models top (path_of back) ≡ Some i.model
    pub short : HasShortRuns runs i.model
    pub origins : (n : List ℕ) → IsShortRun runs n → (origin : List ℕ) × ((from : List ℕ) × IsOrigin (path_of back) n (named i n) origin from)

  origins_of_top : HasOrigins [] (as_top top)
  origins_of_top = record {
    small = tt;
    suffix = refl;
    model = refl;
    short = all_short.0;
    origins = λ n is. (n, ([], record { short = is; small = tt; told = refl; same = λ step within. refl }));
  }

  -- what a name of an instance inside comes from
  inner_origin : (back : List ℕ) (i : Instance) (k : ℕ) (bindings : List Binding) → k < 2 ^ 64 → HasOrigins back i → AllByRecursion (IsShortRun runs) (flat_map names_bound bindings)
      → ((step : ℕ) → step < length rows → AllByRecursion (λ b. bits (path_of back ++ k ∷ []) b.formal step ≡ bits (path_of back) b.actual step) bindings)
      → (n : List ℕ) → IsShortRun runs n
      → (origin : List ℕ) × ((from : List ℕ) × IsOrigin (path_of back ++ k ∷ []) n (name_within (suffix_of joiner i.suffix k) (bound_by (named i) bindings) n) origin from)
  inner_origin back i k [] few has names same n is = (
    n,
    (
      k ∷ back,
      record {
        short = is;
        small = (few, has.small);
        told = ap (λ s. n ++ suffix_of joiner s k) has.suffix;
        same = λ step within. refl;
      },
    ),
  )
  inner_origin back i k (b ∷ bindings) few has names same n is =
      by_test (bytes_eq n b.formal) refl (inner_origin back i k bindings few has names.1.1 (λ step within. (same step within).1) n is)
    where
      by_test : (t : Bool) → bytes_eq n b.formal ≡ t
          → (origin : List ℕ) × ((from : List ℕ) × IsOrigin (path_of back ++ k ∷ []) n (name_within (suffix_of joiner i.suffix k) (bound_by (named i) bindings) n) origin from)
          → (origin : List ℕ) × ((from : List ℕ) × IsOrigin (path_of back ++ k ∷ []) n (cond t (named i b.actual) (name_within (suffix_of joiner i.suffix k) (bound_by (named i) bindings) n)) origin from)
      by_test true eq rest =
          let formal : n ≡ b.formal = (bytes_eq-Decides n b.formal).0 eq in
          let outer = has.origins b.actual names.1.0 in (
            outer.0,
            (
              outer.1.0,
              record {
                short = outer.1.1.short;
                small = outer.1.1.small;
                told = outer.1.1.told;
                same = λ step within. ap (λ m. bits (path_of back ++ k ∷ []) m step) formal ∙ (same step within).0 ∙ outer.1.1.same step within;
              },
            ),
          )
      by_test false eq rest = rest

  step_origins : (back : List ℕ) (i : Instance) (k : ℕ) (j : Instance) → k < 2 ^ 64 → HasOrigins back i → instance_at models joiner i k ≡ Some j → HasOrigins (k ∷ back) j
  step_origins back i k j few has at =
      let step = step_of models joiner i k j at in
      let placing : placing_at i.model k ≡ Some step.placing = ap (placing_at i.model) step.number ∙ step.at in
      let names : AllByRecursion (IsShortRun runs) (flat_map names_bound step.placing.bindings) =
      placing_short (IsShortRun runs) i.model.body step.before step.placing step.at has.short in
      let made : HasOrigins (k ∷ back) (instance_in models joiner i k step.placing.bindings step.model) = record {
        small = (few, has.small);
        suffix = ap (λ s. suffix_of joiner s k) has.suffix;
        model = under-append models joiner top (path_of back) (k ∷ []) ∙ ap (λ o. option_and_then (λ m. model_under models m (k ∷ [])) o) has.model
            ∙ ap (λ o. option_and_then (λ m. Some m) (option_and_then (λ p. model_named models p.model) o)) placing ∙ ap (λ o. option_and_then (λ m. Some m) o) step.found;
        short = found_has (HasShortRuns runs) models step.placing.model step.model all_short step.found;
        origins = inner_origin back i k step.placing.bindings few has names
            (λ s within. trace.bindings (path_of back) i.model k step.placing s within has.model placing);
      } in
      subst (HasOrigins (k ∷ back)) (sym step.is) made

  -- Along each path.
  pub origins_along : (back : List ℕ) (i : Instance) (path : List ℕ) (j : Instance) → AllByRecursion (λ k. k < 2 ^ 64) path → HasOrigins back i → leads models joiner i path ≡ Some j
      → (there : List ℕ) × (path_of there ≡ path_of back ++ path) × HasOrigins there j
  origins_along back i [] j few has reached = (back, sym (append-nil (path_of back)), (let same : i ≡ j = cc in subst (HasOrigins back) same has))
  origins_along back i (k ∷ path) j few has reached =
      let first = first_step models joiner i k path j reached in
      let rest = origins_along (k ∷ back) first.0 path j few.1 (step_origins back i k first.0 few.0 has first.1) first.2 in
      (rest.0, rest.1 ∙ append_assoc (path_of back) (k ∷ []) path, rest.2)

  pub origins_at : (path : List ℕ) (j : Instance) → AllByRecursion (λ k. k < 2 ^ 64) path → leads models joiner (as_top top) path ≡ Some j → (there : List ℕ) × (path_of there ≡ path) × HasOrigins there j
  origins_at path j few reached = origins_along [] (as_top top) path j few origins_of_top reached

  -- Names that become one have one bit.
  pub same_bits : (p q : List ℕ) (i j : Instance) (n m : List ℕ) → AllByRecursion (λ k. k < 2 ^ 64) p → AllByRecursion (λ k. k < 2 ^ 64) q
      → leads models joiner (as_top top) p ≡ Some i → leads models joiner (as_top top) q ≡ Some j → IsShortRun runs n → IsShortRun runs m → named i n ≡ named j m
      → (step : ℕ) → step < length rows → bits p n step ≡ bits q m step
  same_bits p q i j n m few_p few_q at_p at_q short_n short_m same step within =
      let on_p = origins_at p i few_p at_p in
      let on_q = origins_at q j few_q at_q in
      let from_n = on_p.2.origins n short_n in
      let from_m = on_q.2.origins m short_m in
      let one = same_origin runs from_n.0 from_m.0 from_n.1.0 from_m.1.0 from_n.1.1.short from_m.1.1.short from_n.1.1.small from_m.1.1.small
      (sym from_n.1.1.told ∙ same ∙ from_m.1.1.told) in
      ap (λ path. bits path n step) (sym on_p.1) ∙ from_n.1.1.same step within
      ∙ ap₂ (λ (origin back : List ℕ). bits (path_of back) origin step) one.0 one.1
      ∙ sym (from_m.1.1.same step within) ∙ ap (λ path. bits path m step) on_q.1
