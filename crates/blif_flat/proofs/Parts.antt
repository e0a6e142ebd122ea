-- Flat parts, and what is left of them on the way through the statements of a model.
use Rattle.std.proofs.Common.{◌≡◌, ℕ, zero, suc, ◌+◌, Bool, false, List, [], ◌++◌, drop}
use Rattle.blif_unit.specs.declared.unit.Binding.{Binding}
use Rattle.blif_unit.specs.Unit.{Telling, Model}
use Rattle.blif_flat.specs.Flat.{flat_parts, flat_from}
use Rattle.blif_flat.specs.Sites.{sites_in}
use Rattle.blif_flat.specs.Around.{Context}
use Rattle.blif_flat.specs.Size.{weight_of}
use Rattle.blif_flat.specs.Plan.{body_at}

-- the statements of an instance inside one of so many levels
abbrev pub inner_of : ℕ → List Model → List ℕ → List ℕ → List Binding → List Telling → List Telling
inner_of zero models joiner = λ s b ts. []
inner_of (suc n) models joiner = flat_from n models joiner false

-- the flat parts of the statements from a place on, where the next instance has this number
abbrev pub rest_at : ℕ → List Model → List ℕ → Bool → Context → ℕ → ℕ → ℕ → List Telling
rest_at levels models joiner top c m number i = flat_parts (inner_of levels models joiner) models joiner top c.suffix c.bound number (drop i (body_at models m))

-- The sites in the statements from a place on are those from the next instance on.
abbrev pub IsAtSite : List Model → ℕ → ℕ → ℕ → Type 0
IsAtSite models m number i = sites_in models (drop i (body_at models m)) ≡ drop number (sites_in models (body_at models m))

-- The room pays for the statements before a place, where the next instance has the number after this one.
abbrev pub IsPaid : ℕ → List Model → List ℕ → Bool → Context → ℕ → ℕ → ℕ → ℕ → ℕ → Type 0
IsPaid levels models joiner top c m number i room left =
    left + weight_of (rest_at levels models joiner top c m 1 0) ≡ room + weight_of (rest_at levels models joiner top c m (number + 1) i)

-- The statements so far and those that are left are all.
abbrev pub IsMade : ℕ → List Model → List ℕ → Bool → Context → ℕ → ℕ → ℕ → List Telling → List Telling → Type 0
IsMade levels models joiner top c m number i old new = new ++ rest_at levels models joiner top c m (number + 1) i ≡ old ++ rest_at levels models joiner top c m 1 0
