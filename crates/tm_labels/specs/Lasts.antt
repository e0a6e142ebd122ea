-- Numbers of last drops, by gates and lags.
use Rattle.std.specs.Prelude.{◌≡◌, ℕ, ◌-◌, ◌+◌, ◌*◌, ◌^◌, length, slice_index_or, slice_set}
use Rattle.tm_unroll.specs.declared.node.Node.{Node}
use Rattle.tm_labels.specs.declared.lasts.Lasts.{Lasts}

-- The number that stands for no drop.
abbrev pub no_drop : ℕ
no_drop = 2 ^ 32 - 1

-- The place of a gate at a lag.
abbrev pub place_in : Lasts → Node → ℕ
place_in lasts x = x.signal * lasts.lags + x.advance

-- The number at the place of a gate at a lag; past the end there is none.
abbrev pub number_in : Lasts → Node → ℕ
number_in lasts x = slice_index_or lasts.numbers.items (place_in lasts x) no_drop

-- A place for each gate at each lag of at most `d`, and no drop at any.
pub record HasNoDrop (signals d : ℕ) (lasts : Lasts) : Type 0 where
  pub lags : lasts.lags ≡ d + 1
  pub sized : length lasts.numbers.items ≡ signals * (d + 1)
  pub none : (x : Node) → number_in lasts x ≡ no_drop

-- A number comes to the place of a gate at a lag, where there is one, and all else stays.
pub record Notes (x : Node) (number : ℕ) (old new : Lasts) : Type 0 where
  pub lags : new.lags ≡ old.lags
  pub numbers : new.numbers.items ≡ slice_set old.numbers.items (place_in old x) number
