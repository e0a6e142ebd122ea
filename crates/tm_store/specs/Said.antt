-- What a sayer said, as it tells it: one list of bytes that only grows.
use Rattle.std.specs.Prelude.{◌≡◌, ℕ, List, Option, Some, ◌++◌, take, IfSome}

-- where the sayer told what it said, it now tells that and then the text
abbrev pub Appends : Option (List ℕ) → Option (List ℕ) → List ℕ → Type 0
Appends before after text = IfSome before (λ said. after ≡ Some (said ++ text))

-- the same with a first part of the text
abbrev pub AppendsPart : Option (List ℕ) → Option (List ℕ) → List ℕ → Type 0
AppendsPart before after text =
    IfSome before (λ said. ((n : ℕ) × (after ≡ Some (said ++ take n text))))
