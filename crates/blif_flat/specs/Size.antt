-- The size of statements, and room that is spent.
use Rattle.std.specs.Prelude.{◌≡◌, ℕ, ◌+◌, ◌<◌, List, map, length, sum, Result, MatchResult}
use Rattle.blif_unit.specs.declared.fault.BlifFault.{BlifFault}
use Rattle.blif_unit.specs.declared.fault.BlifKind.TheVariants.{TooLarge}
use Rattle.blif_unit.specs.Fault.{OnText}
use Rattle.blif_unit.specs.Fit.{names_told}
use Rattle.blif_unit.specs.Unit.{Told, Telling}
use Rattle.blif_flat.specs.Flat.{places_in}

-- the bytes of names
abbrev pub bytes_of : List (List ℕ) → ℕ
bytes_of names = sum (map length names)

-- the bytes of the names of a statement and the places of its rows
abbrev pub weight : Told → ℕ
weight told = bytes_of (names_told told) + places_in told

abbrev pub weight_told : List Told → ℕ
weight_told all = sum (map weight all)

abbrev pub weight_of : List Telling → ℕ
weight_of body = sum (map (λ t. weight t.what) body)

-- What is left of the room after a cost, or that there is not so much.
abbrev pub Spends : ℕ → ℕ → Result ℕ BlifFault → Type 0
Spends room cost result = MatchResult result (λ left. left + cost ≡ room) (λ e. OnText e (λ fault. (fault ≡ (0, TooLarge)) × (room < cost)))
