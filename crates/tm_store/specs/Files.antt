-- Files by name, as a store tells them: what each name holds, or nothing.
use Rattle.std.specs.Prelude.{◌≡◌, ◌≢◌, ℕ, List, Option, IsSome, IfSome}

abbrev pub Files : Type 0
Files = List ℕ → Option (List ℕ)

-- a store that told its files before tells them afterwards
abbrev pub Tells : Option Files → Option Files → Type 0
Tells before after = IsSome before → IsSome after

-- every other name holds what it held
abbrev pub KeepsOthers : Option Files → Option Files → List ℕ → Type 0
KeepsOthers before after name =
    IfSome before (λ old. IfSome after (λ new. (n : List ℕ) → n ≢ name → new n ≡ old n))
