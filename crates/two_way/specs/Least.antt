-- The least period of two-way mappings, and an answer that shows it.
use Rattle.std.specs.Prelude.{◌≡◌, ℕ, ◌+◌, ◌-◌, ◌*◌, ◌≤◌, List, length, map, MatchOption}
use Rattle.tm_circuit.specs.Plain.{Plain, gate_count}
use Rattle.two_way.specs.declared.answer.TwoWay.{TwoWay}
use Rattle.two_way.specs.Mappings.{TwoTable, table_of, IsTwoWay}
use Rattle.two_way.specs.Chains.{IsPeriodOf}
use Rattle.two_way.specs.Replays.{PlainDrop, drop_of, Refutes}

-- Some lawful two-way mapping has this period, and none has a smaller one.
pub record IsTwoWayLeast (c : Plain) (k d back period : ℕ) : Type 0 where
  pub some : (tables : List TwoTable) × IsTwoWay c k d back tables × IsPeriodOf tables period
  pub none_smaller : (tables : List TwoTable) (p : ℕ) → IsTwoWay c k d back tables → IsPeriodOf tables p → period ≤ p

-- Drops show that a period is least: they refute the target just below it, and are at most as many as there are gates, times the lags,
-- times that target.
pub record ShowLeast (c : Plain) (k d back period : ℕ) (drops : List PlainDrop) : Type 0 where
  pub some : 1 ≤ period
  pub refutes : Refutes c k d back (period - 1) drops
  pub few : length drops ≤ gate_count c.drives * ((d + back + 1) * (period - 1))

-- An answer: its tables are a lawful two-way mapping of its period, and its drops show that the period is least. There are none exactly
-- where the period is 0.
pub record IsAnswer (c : Plain) (k d back : ℕ) (answer : TwoWay) : Type 0 where
  pub lawful : IsTwoWay c k d back (map table_of answer.luts.items)
  pub period : IsPeriodOf (map table_of answer.luts.items) answer.period
  pub drops : MatchOption answer.drops (answer.period ≡ 0) (λ drops. ShowLeast c k d back answer.period (map drop_of drops.items))
