-- How the answers on tables and outputs make the answer on a mapping.
use Rattle.std.proofs.Common.{◌≡◌, ℕ, ◌+◌, ◌<◌, ◌≤◌, List, map, length, get_or, Option, Some, None, refl, sym, subst, add-one, arith}
use Rattle.std.specs.Prelude.{slice_get}
use Rattle.std.proofs.lemmas.List.{length-map}
use Rattle.tm_circuit.specs.Plain.{Plain}
use Rattle.tm_circuit.specs.Sound.{IsSound}
use Rattle.tm_unroll.specs.declared.node.Lut.{Lut}
use Rattle.tm_unroll.specs.declared.node.MapWhy.{MapWhy}
use Rattle.tm_unroll.specs.declared.node.MapWhy.TheVariants.{Output}
use Rattle.tm_unroll.specs.Mappings.{Table, table_of, HasSourceTable, IsLawful}
use Rattle.tm_unroll.specs.Faults.{PassBelow, IsTableFault, IsOutputFault, AreGivenBelow}
use Rattle.tm_unroll.specs.Lookups.{AreGreatestLags, IsTableJudged, IsFirstMissing}
use Rattle.tm_unroll.proofs.ListLemmas.{some-at, at-read, at-within}
use Rattle.tm_unroll.proofs.JudgeLemmas.{pass_more, given_more, lawful_from_passes, passes_few, outputs_few}
use Rattle.tm_unroll.proofs.LookupLemmas.{at-mapped}

-- What is read at a place of a list stands there.
pub reads-at : {X : Type 0} (xs ys : List X) (k : ℕ) (x : X) → xs ≡ ys → k < length xs → x ≡ get_or xs k x → slice_get ys k ≡ Some x
reads-at {X} xs ys k x same within is = subst (λ (l : List X). slice_get l k ≡ Some x) same (at-read xs k x within (sym is))

-- One output more has its table.
pub given_next : (c : Plain) (tables : List Table) (place s : ℕ) → AreGivenBelow (λ _. 0) c tables place → slice_get c.outputs place ≡ Some s
    → HasSourceTable c.drives tables s 0 → AreGivenBelow (λ _. 0) c tables (place + 1)
given_next c tables place s before at serves = subst (λ n. AreGivenBelow (λ _. 0) c tables n) (sym (add-one place)) (given_more (λ _. 0) c tables place s before at serves)

module _ (c : Plain) (k d : ℕ) (luts : List Lut) (place : ℕ) (answer : Option MapWhy) (before : PassBelow 0 c k d (map table_of luts) place) (within : place < length luts)
    (judged : (t : Lut) → slice_get luts place ≡ Some t → IsTableJudged c k d (map table_of luts) place (table_of t) answer) where
  -- A table that fails is the first.
  pub table_fails : (why : MapWhy) → answer ≡ Some why → IsTableFault 0 c k d (map table_of luts) (record { entry = place + 1; why = why })
  table_fails why is =
      let t = some-at luts place within in
      record {
        place = place;
        table = table_of t.0;
        entry = add-one place;
        at = at-mapped table_of luts place t.0 t.1;
        before = before;
        fails = subst (λ (a : Option MapWhy). IsTableJudged c k d (map table_of luts) place (table_of t.0) a) is (judged t.0 t.1);
      }

  -- A table that passes is one more.
  pub table_passes : answer ≡ None → PassBelow 0 c k d (map table_of luts) (place + 1)
  table_passes is =
      let t = some-at luts place within in
      subst (λ n. PassBelow 0 c k d (map table_of luts) n) (sym (add-one place))
      (pass_more 0 c k d (map table_of luts) place (table_of t.0) before (at-mapped table_of luts place t.0 t.1)
      (subst (λ (a : Option MapWhy). IsTableJudged c k d (map table_of luts) place (table_of t.0) a) is (judged t.0 t.1)))

-- The place of a table that is judged is below the number of signals, or at it.
pub places_few : (c : Plain) → IsSound c → (k d : ℕ) (luts : List Lut) (place : ℕ) → PassBelow 0 c k d (map table_of luts) place → place < length luts → place ≤ 900000
places_few c sound k d luts place before within =
    let few = passes_few 0 c k d (map table_of luts) place before (omega (arith, length-map luts table_of)) in
    let most = sound.few in
    omega (arith, few, most)

-- So is the place of an output.
pub outputs_at : (c : Plain) → IsSound c → (tables : List Table) (place : ℕ) → IsFirstMissing c tables place → place ≤ 900000
outputs_at c sound tables place missing =
    let within = at-within c.outputs place missing.output missing.at in
    let few = outputs_few c sound in
    let most = sound.few in
    omega (arith, within, few, most)

-- All tables pass where those up to a place behind the last do.
pub passes_all : (c : Plain) (k d : ℕ) (luts : List Lut) (place : ℕ) → PassBelow 0 c k d (map table_of luts) place → length luts ≤ place
    → PassBelow 0 c k d (map table_of luts) (length (map table_of luts))
passes_all c k d luts place before past at t inside is = before at t (omega (arith, length-map luts table_of)) is

-- A mapping is lawful where all tables pass and no output misses its table.
pub all_lawful : (c : Plain) (k d : ℕ) (luts : List Lut) (place : ℕ) → PassBelow 0 c k d (map table_of luts) place → length luts ≤ place
    → AreGivenBelow (λ _. 0) c (map table_of luts) (length c.outputs) → IsLawful c k d (map table_of luts)
all_lawful c k d luts place before past given =
    lawful_from_passes 0 (λ _. 0) c k d (map table_of luts) (passes_all c k d luts place before past) given

-- An output that misses its table, where all tables pass, is the first fault.
pub output_fails : (c : Plain) (k d : ℕ) (luts : List Lut) (place at : ℕ) → PassBelow 0 c k d (map table_of luts) place → length luts ≤ place
    → IsFirstMissing c (map table_of luts) at → IsOutputFault 0 (λ _. 0) c k d (map table_of luts) (record { entry = at + 1; why = Output })
output_fails c k d luts place at before past missing = record {
  why = refl;
  passed = passes_all c k d luts place before past;
  place = at;
  output = missing.output;
  entry = add-one at;
  at = missing.at;
  before = missing.before;
  fails = missing.fails;
}

-- The greatest lags under other names.
pub lags_named : (n m : ℕ) (luts luts' : List Lut) (lags lags' : List (Option ℕ)) → n ≡ m → luts ≡ luts' → lags' ≡ lags → AreGreatestLags n (map table_of luts) lags
    → AreGreatestLags m (map table_of luts') lags'
lags_named n m luts luts' lags lags' size tables same h =
    subst (λ s. AreGreatestLags s (map table_of luts') lags') size
    (subst (λ (l : List Lut). AreGreatestLags n (map table_of l) lags') tables (subst (λ (l : List (Option ℕ)). AreGreatestLags n (map table_of luts) l) (sym same) h))
