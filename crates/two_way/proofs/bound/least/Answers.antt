-- The mapping is that of the settling at the least period, and the drops are those of the settling below.
use Rattle.std.proofs.Common.{◌≡◌, ◌+◌, ◌≤◌, List, map, ◌∙◌, ap, subst, arith}
use Rattle.std.specs.Prelude.{Contains}
use Rattle.tm_circuit.proofs.ListLemmas.{contains-map}
use Rattle.tm_unroll.specs.declared.node.Lut.{Lut}
use Rattle.tm_unroll.specs.Latches.{need_of}
use Rattle.tm_unroll.specs.Mappings.{table_of, tables_of}
use Rattle.tm_replay.specs.Replays.{Drop, drop_of}
use Rattle.tm_search.specs.Least.{Refutes}
use Rattle.tm_search.proofs.LeastLemmas.{chosen_period, least_period}
use Rattle.two_way.specs.Mappings.{table_of as two_table_of}
use Rattle.two_way.specs.Replays.{drop_of as two_drop_of}
use Rattle.two_way.specs.Amounts.{two_table, two_drop}
use Rattle.two_way.specs.Least.{IsTwoWayLeast, ShowLeast}
use Rattle.two_way.proofs.LagLemmas.{drop_lags, tables_low}
use Rattle.two_way.proofs.PeriodLemmas.{least_two, forward_least}
use Rattle.two_way.proofs.AnswerLemmas.{said_of_none, said_of_some, none_says, some_says, answered_mapping, answered_period, answered_drops}
use Rattle.two_way.proofs.bound.least.Goals as goal
use Rattle.two_way.proofs.bound.least.Goals.{in-None, in-Some+in_ok-two_drops-in-Some}

pub two_luts-requires-clause-low : goal.two_luts-requires-clause-low
two_luts-requires-clause-low c =
    let near : c.args.d + c.args.b ≤ 16 = omega (arith, c.requires.near, c.requires.back) in
    λ t stands.
    tables_low c.args.b (need_of c.args.b c.args.circuit.now) c.args.circuit.now c.args.k (c.args.d + c.args.b) (tables_of c.in_ok-mapping.mapping) (omega arith) near
    c.in_ok-mapping.ensures.lawful t (subst (λ (ls : List Lut). Contains (map table_of ls) t) c.deref.ensures.value stands)

pub two_drops-requires-clause-low : goal.two_drops-requires-clause-low
two_drops-requires-clause-low c =
    let found = c.in_ok-period.field-0 in
    let refutes = some_says (found.period ≡ 0) (Refutes c.args.b c.args.circuit.now c.args.k (c.args.d + c.args.b) found.period) found.below c.in-Some.below c.in-Some.is
    c.in_ok-period.ensures.least.below in
    λ x stands.
    let lag = drop_lags c.args.b c.args.circuit.now c.args.k (c.args.d + c.args.b) c.in-Some.below.target c.in-Some.below.drops refutes.led.replays (drop_of x)
    (subst (λ (ds : List Drop). Contains ds (drop_of x)) c.into_drops.ensures (contains-map drop_of c.into_drops.result.items x stands)) in
    omega (arith, lag, c.requires.near, c.requires.back)

pub returns-clause-answer : goal.returns-clause-answer
returns-clause-answer c =
    let circuit = c.args.circuit.now in
    let k = c.args.k in
    let d = c.args.d in
    let b = c.args.b in
    let found = c.in_ok-period.field-0 in
    let is = c.in_ok-period.ensures.least in
    let tables = tables_of c.in_ok-mapping.mapping in
    let luts = map two_table_of c.in_ok-luts.luts.items in
    let are : luts ≡ map (two_table b) tables = c.in_ok-luts.ensures ∙ ap (λ (ls : List Lut). map (two_table b) (map table_of ls)) c.deref.ensures.value in
    record {
      lawful = answered_mapping circuit k d b luts tables are c.in_ok-mapping.ensures.lawful;
      period =
          answered_period circuit k d b luts tables found.period are
          (chosen_period b circuit k (d + b) c.signals-sound.ensures.sound found is tables c.in_ok-mapping.ensures.chosen);
      drops =
          elim c.match-below-3.branch [
            | in-None w ↦
                said_of_none (found.period ≡ 0) (λ drops. ShowLeast circuit k d b found.period (map two_drop_of drops.items)) c.match-below-3.drops w.drops-is
                (none_says (found.period ≡ 0) (Refutes b circuit k (d + b) found.period) found.below w.in-None.is is.below)
            | in-Some+in_ok-two_drops-in-Some w ↦
                said_of_some (found.period ≡ 0) (λ drops. ShowLeast circuit k d b found.period (map two_drop_of drops.items)) c.match-below-3.drops
                w.in_ok-two_drops-in-Some.field-0 w.drops-is
                (answered_drops circuit k d b found.period w.in-Some.below (map two_drop_of w.in_ok-two_drops-in-Some.field-0.items)
                (w.in_ok-two_drops-in-Some.ensures ∙ ap (λ (ds : List Drop). map (two_drop b) ds) w.into_drops.ensures)
                (some_says (found.period ≡ 0) (Refutes b circuit k (d + b) found.period) found.below w.in-Some.below w.in-Some.is is.below))
          ];
    }

pub returns-clause-least : goal.returns-clause-least
returns-clause-least c =
    let found = c.in_ok-period.field-0 in
    least_two c.args.circuit.now c.args.k c.args.d c.args.b found.period
    (least_period c.args.b c.args.circuit.now c.args.k (c.args.d + c.args.b) c.signals-sound.ensures.sound found c.in_ok-period.ensures.least)

pub returns-clause-one_way : goal.returns-clause-one_way
returns-clause-one_way c =
    let found = c.in_ok-period.field-0 in
    let least = least_two c.args.circuit.now c.args.k c.args.d c.args.b found.period
    (least_period c.args.b c.args.circuit.now c.args.k (c.args.d + c.args.b) c.signals-sound.ensures.sound found c.in_ok-period.ensures.least) in
    λ none. forward_least c.args.circuit.now c.args.k c.args.d found.period (subst (λ n. IsTwoWayLeast c.args.circuit.now c.args.k c.args.d n found.period) none least)
