-- The flat unit of several models, or the first fault of the third of four passes.
use Rattle.std.specs.Prelude.{◌≡◌, true, false, List, [], slice_get, MatchOption}
use Rattle.blif_unit.specs.declared.fault.BlifKind.TheVariants.{Recursion, TooDeep, TooLarge}
use Rattle.blif_unit.specs.Fault.{Faulty}
use Rattle.blif_unit.specs.Unit.{Model}
use Rattle.blif_flat.specs.Places.{faults_in_places, HasRecursion}
use Rattle.blif_flat.specs.Flat.{flat_of, is_too_deep, is_too_large}

-- The models are at fault as a whole, and not by one line.
pub data IsFaultOfTree (models : List Model) (fault : Faulty) : Type 0 where
  recursive : fault ≡ (0, Recursion) → HasRecursion models → IsFaultOfTree models fault
  too_deep : fault ≡ (0, TooDeep) → ¬ HasRecursion models → is_too_deep models ≡ true → IsFaultOfTree models fault
  too_large : fault ≡ (0, TooLarge) → ¬ HasRecursion models → is_too_deep models ≡ false → is_too_large models ≡ true
      → IsFaultOfTree models fault

-- The first fault of the third pass: of the first `.subckt` line that has one, or else of the models as a whole.
abbrev pub IsFaultOfPlaces : List Model → Faulty → Type 0
IsFaultOfPlaces models fault = MatchOption (slice_get (faults_in_places models) 0) (IsFaultOfTree models fault) (λ first. fault ≡ first)

-- Models without fault in the third pass, and their flat unit.
pub record IsFlatOf (models : List Model) (flat : Model) : Type 0 where
  pub placed : faults_in_places models ≡ []
  pub ends : ¬ HasRecursion models
  pub shallow : is_too_deep models ≡ false
  pub small : is_too_large models ≡ false
  pub made : flat ≡ flat_of models
