-- What the names of an instance become, by the instances around it.
use Rattle.std.specs.Prelude.{ℕ, List, []}
use Rattle.blif_unit.specs.declared.unit.Binding.{Binding}
use Rattle.blif_flat.specs.declared.around.Around.{Around, fold-Around}
use Rattle.blif_flat.specs.declared.around.Around.TheOpen.{Around-F}
use Rattle.blif_flat.specs.Flat.{suffix_of, name_within, bound_by}

-- what the names of an instance end in, and what its formals become
pub record Context : Type 0 where
  pub suffix : List ℕ
  pub bound : List Binding

-- what a name becomes
abbrev pub renamed : Context → List ℕ → List ℕ
renamed c n = name_within c.suffix c.bound n

-- the context of an instance with this number and these bindings in another
abbrev pub context_inside : List ℕ → Context → List Binding → ℕ → Context
context_inside joiner c bindings number = record { suffix = suffix_of joiner c.suffix number; bound = bound_by (renamed c) bindings }

abbrev pub context_step : List ℕ → Around-F Context → Context
context_step joiner Around-F.Top = record { suffix = []; bound = [] }
context_step joiner (Around-F.Inside outer site number) = context_inside joiner outer.now site.now.bindings number

-- the context of an instance
abbrev pub context_of : List ℕ → Around → Context
context_of joiner = fold-Around Context (context_step joiner)
