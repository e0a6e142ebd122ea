-- Amounts as numbers from 0, as they stand in the definitions over a base: a number stands for the amount that is less than it by
-- `back`. This file alone says so.
use Rattle.std.specs.Prelude.{ℕ, ◌≤◌, ℤ, pos, ◌-ℤ◌, map, Contains}
use Rattle.tm_unroll.specs.declared.node.Node.{Node}
use Rattle.tm_unroll.specs.Mappings.{Table}
use Rattle.tm_replay.specs.declared.label.Label.{Label}
use Rattle.tm_replay.specs.Replays.{Drop}
use Rattle.two_way.specs.declared.answer.TwoNode.{TwoNode}
use Rattle.two_way.specs.Nodes.{node_at}
use Rattle.two_way.specs.Mappings.{TwoTable}
use Rattle.two_way.specs.Labels.{TwoLabel, label}
use Rattle.two_way.specs.Replays.{PlainDrop}

-- The amount for which a number stands.
abbrev pub amount : ℕ → ℕ → ℤ
amount back raised = pos raised -ℤ pos back

-- A node, a table, a label and a drop with amounts, of one with the numbers that stand for them.
abbrev pub two_node : ℕ → Node → TwoNode
two_node back x = node_at (amount back x.advance) x.signal

abbrev pub two_table : ℕ → Table → TwoTable
two_table back t = record { gate = t.gate; lag = amount back t.lag; leaves = map (two_node back) t.leaves }

abbrev pub two_label : ℕ → Label → TwoLabel
two_label back x = label (amount back x.lag) x.arrival

abbrev pub two_drop : ℕ → Drop → PlainDrop
two_drop back drop = record { gate = drop.gate; lag = amount back drop.lag; arrival = drop.arrival; walks = drop.walks }

-- The numbers of a table are so low that the amounts for which they stand are far from the ends of a byte.
pub record IsLow (t : Table) : Type 0 where
  pub lag : t.lag ≤ 16
  pub leaves : (x : Node) → Contains t.leaves x → x.advance ≤ 16
