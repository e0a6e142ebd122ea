-- Models with the sites in them, as flat units are made of them.
use Rattle.std.specs.Prelude.{◌≡◌, ℕ, ◌<◌, Bool, false, List, map, length, slice_get}
use Rattle.blif_unit.specs.Unit.{Telling, Model}
use Rattle.blif_flat.specs.Flat.{body_of, is_deeper, flat_from}
use Rattle.blif_flat.specs.Sites.{Sited, sites_in}
use Rattle.blif_flat.specs.Graph.{IsGraph}
use Rattle.blif_flat.specs.Around.{Context}

-- the statements of the model of a number
abbrev pub body_at : List Model → ℕ → List Telling
body_at models m = body_of (slice_get models m)

-- the models that are placed at sites
abbrev pub graph_of : List (List Sited) → List (List ℕ)
graph_of sites = map (λ placed. map (λ s. s.model) placed) sites

-- The sites are those in the models, and lead to models.
pub record AreSitesOf (models : List Model) (sites : List (List Sited)) : Type 0 where
  pub are : sites ≡ map (λ m. sites_in models m.body) models
  pub inside : IsGraph (graph_of sites)

-- An instance of a model under which no path has more than so many numbers.
pub record IsShallow (models : List Model) (levels m : ℕ) : Type 0 where
  pub is_model : m < length models
  pub shallow : is_deeper levels models (body_at models m) ≡ false

-- the statements that an instance of a model becomes
abbrev pub flat_at : ℕ → List Model → List ℕ → Bool → Context → ℕ → List Telling
flat_at levels models joiner top c m = flat_from levels models joiner top c.suffix c.bound (body_at models m)
