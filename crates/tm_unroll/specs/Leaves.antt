-- Which nodes may be leaves of a table, whatever its lag.
use Rattle.std.specs.Prelude.{◌≡◌, ℕ, ◌<◌, ◌≤◌}
use Rattle.tm_circuit.specs.Plain.{Drive, input, latch, gate}
use Rattle.tm_unroll.specs.declared.node.Node.{Node}

-- The kinds of leaves but for the lag of a table: an input at most at the base, a latch at advance 0, and a gate at any.
abbrev pub MayBeLeafOf : ℕ → Drive → ℕ → Type 0
MayBeLeafOf base input advance = advance ≤ base
MayBeLeafOf base (latch next init) advance = advance ≡ 0
MayBeLeafOf base (gate pins cover) advance = Unit {0}

-- A node whose signal is below a number, and that is no further ahead than another one.
pub record IsWithin (signals : ℕ) (x y : Node) : Type 0 where
  pub signal : y.signal < signals
  pub advance : y.advance ≤ x.advance
