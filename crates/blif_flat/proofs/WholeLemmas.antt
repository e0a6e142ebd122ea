-- The sites of all models serve the whole: its faults and its flat unit.
use Rattle.std.proofs.Common.{◌≡◌, ℕ, ◌<◌, true, false, List, map, length, sym, ◌∙◌, ap, subst, arith, Vec, Global, [], Some}
use Rattle.std.specs.Prelude.{slice_get}
use Rattle.std.proofs.lemmas.List.{length-map}
use Rattle.blif_unit.specs.declared.unit.Unit.{Unit as ModelUnit}
use Rattle.blif_unit.specs.declared.fault.BlifFault.{BlifFault}
use Rattle.blif_unit.specs.declared.fault.BlifKind.TheVariants.{TooLarge}
use Rattle.blif_unit.specs.Fault.{OnText}
use Rattle.blif_unit.specs.Unit.{Model, model_of, AreDistinct}
use Rattle.blif_flat.specs.Flat.{flat_of, is_too_deep, is_too_large}
use Rattle.blif_flat.specs.Places.{faults_in_places}
use Rattle.blif_flat.specs.Hier.{IsFaultOfPlaces, IsFlatOf}
use Rattle.blif_flat.specs.Sites.{Sited, sites_in}
use Rattle.blif_flat.specs.Plan.{graph_of, AreSitesOf}
use Rattle.blif_flat.specs.Tree.{AreInstances, IsFaultOfGraph}
use Rattle.blif_flat.proofs.LineLemmas.{names_of, on_text}
use Rattle.blif_flat.proofs.FlatLemmas.{plan_of, deep_is, fault_of_place, fault_of_graph, fault_of_size, flat_made}

-- ---- the whole

-- the sites as the code reads them
module _ (us : List ModelUnit) (made read : List (Vec Sited Global)) (same : read ≡ made)
    (found : (map (λ (s : Vec Sited Global). s.items) made ≡ map (λ (m : Model). sites_in (map model_of us) m.body) (map model_of us)) × (faults_in_places (map model_of us) ≡ [])) where
  pub sites_read : map (λ (s : Vec Sited Global). s.items) read ≡ map (λ (m : Model). sites_in (map model_of us) m.body) (map model_of us)
  sites_read = ap (map (λ (s : Vec Sited Global). s.items)) same ∙ found.0

  pub some_read : 0 < length us → 0 < length read
  some_read some =
      omega (
        arith,
        some,
        ap length sites_read,
        length-map read (λ (s : Vec Sited Global). s.items),
        length-map (map model_of us) (λ (m : Model). sites_in (map model_of us) m.body),
        length-map us model_of,
      )

  pub plan_read : AreSitesOf (map model_of us) (map (λ (s : Vec Sited Global). s.items) read)
  plan_read = plan_of (map model_of us) (map (λ (s : Vec Sited Global). s.items) read) sites_read found.1

  pub graph_fault : (e : BlifFault) → AreDistinct (map (λ (u : ModelUnit). u.name) us) → OnText e (IsFaultOfGraph (graph_of (map (λ (s : Vec Sited Global). s.items) read)))
      → OnText e (IsFaultOfPlaces (map model_of us))
  graph_fault e distinct h =
      on_text e (IsFaultOfGraph (graph_of (map (λ (s : Vec Sited Global). s.items) read))) (IsFaultOfPlaces (map model_of us))
      (λ fault. fault_of_graph (map model_of us) (map (λ (s : Vec Sited Global). s.items) read) fault (subst AreDistinct (sym (names_of us)) distinct) sites_read found.1) h

  module _ (n : ℕ) (counted : AreInstances (graph_of (map (λ (s : Vec Sited Global). s.items) read)) n) where
    pub counted_as : (again : List (Vec Sited Global)) → again ≡ made → AreInstances (graph_of (map (λ (s : Vec Sited Global). s.items) again)) n
    counted_as again is = subst (λ (ss : List (Vec Sited Global)). AreInstances (graph_of (map (λ (s : Vec Sited Global). s.items) ss)) n) (same ∙ sym is) counted

    pub size_fault : (e : BlifFault) → OnText e (λ fault. (fault ≡ (0, TooLarge)) × (is_too_large (map model_of us) ≡ true)) → OnText e (IsFaultOfPlaces (map model_of us))
    size_fault e h =
        on_text e (λ fault. (fault ≡ (0, TooLarge)) × (is_too_large (map model_of us) ≡ true)) (IsFaultOfPlaces (map model_of us))
        (λ fault. fault_of_size (map model_of us) (map (λ (s : Vec Sited Global). s.items) read) fault n sites_read found.1 counted) h

    pub is_shallow : is_too_deep (map model_of us) ≡ false
    is_shallow = sym (deep_is (map model_of us) (map (λ (s : Vec Sited Global). s.items) read) sites_read) ∙ counted.shallow

    pub whole_made : (made_unit : Model) → is_too_large (map model_of us) ≡ false → made_unit ≡ flat_of (map model_of us) → IsFlatOf (map model_of us) made_unit
    whole_made made_unit small is = flat_made (map model_of us) (map (λ (s : Vec Sited Global). s.items) read) made_unit n sites_read found.1 counted small is

-- the fault of a line
pub place_fault : (models : List Model) (e : BlifFault) → OnText e (λ fault. slice_get (faults_in_places models) 0 ≡ Some fault) → OnText e (IsFaultOfPlaces models)
place_fault models e h = on_text e (λ fault. slice_get (faults_in_places models) 0 ≡ Some fault) (IsFaultOfPlaces models) (λ fault. fault_of_place models fault) h
