-- An answer of the mapping and the drops over a base from which it is made.
use Rattle.std.proofs.Common.{◌≡◌, ℕ, ◌+◌, ◌-◌, ◌*◌, ◌≤◌, List, map, length, Option, None, Some, sym, ◌∙◌, ap, subst, arith}
use Rattle.std.specs.Prelude.{MatchOption}
use Rattle.std.proofs.lemmas.List.{length-map}
use Rattle.tm_circuit.specs.Plain.{Plain, gate_count}
use Rattle.tm_unroll.specs.Latches.{need_of}
use Rattle.tm_unroll.specs.Mappings.{Table, IsLawfulFrom}
use Rattle.tm_unroll.specs.Chains as one_chain
use Rattle.tm_replay.proofs.CountLemmas.{replay_short}
use Rattle.tm_labels.specs.Settled.{Settling}
use Rattle.tm_search.specs.Least as search
use Rattle.tm_search.proofs.LeastLemmas.{refutes_from}
use Rattle.two_way.specs.Mappings.{TwoTable, IsTwoWay}
use Rattle.two_way.specs.Chains.{IsPeriodOf}
use Rattle.two_way.specs.Replays.{PlainDrop, Refutes}
use Rattle.two_way.specs.Amounts.{two_table, two_drop}
use Rattle.two_way.specs.Least.{ShowLeast}
use Rattle.two_way.proofs.MappingLemmas.{mapping_two}
use Rattle.two_way.proofs.PeriodLemmas.{period_two}
use Rattle.two_way.proofs.ReplayLemmas.{refutes_two}

-- ---- what is said of an option

pub said_of_none : {X : Type 0} (P : Type 0) (Q : X → Type 0) (o : Option X) → o ≡ None → P → MatchOption o P Q
said_of_none {X} P Q o is holds = subst (λ (x : Option X). MatchOption x P Q) (sym is) holds

pub said_of_some : {X : Type 0} (P : Type 0) (Q : X → Type 0) (o : Option X) (x : X) → o ≡ Some x → Q x → MatchOption o P Q
said_of_some {X} P Q o x is holds = subst (λ (y : Option X). MatchOption y P Q) (sym is) holds

pub none_says : {X : Type 0} (P : Type 0) (Q : X → Type 0) (o : Option X) → o ≡ None → MatchOption o P Q → P
none_says {X} P Q o is said = subst (λ (x : Option X). MatchOption x P Q) is said

pub some_says : {X : Type 0} (P : Type 0) (Q : X → Type 0) (o : Option X) (x : X) → o ≡ Some x → MatchOption o P Q → Q x
some_says {X} P Q o x is said = subst (λ (y : Option X). MatchOption y P Q) is said

-- ---- answers

module _ (c : Plain) (k d back : ℕ) where
  pub answered_mapping : (luts : List TwoTable) (tables : List Table) → luts ≡ map (two_table back) tables
      → IsLawfulFrom back (need_of back c) c k (d + back) tables → IsTwoWay c k d back luts
  answered_mapping luts tables are lawful = subst (λ (ts : List TwoTable). IsTwoWay c k d back ts) (sym are) (mapping_two back c k d tables lawful)

  pub answered_period : (luts : List TwoTable) (tables : List Table) (period : ℕ) → luts ≡ map (two_table back) tables
      → one_chain.IsPeriodOf tables period → IsPeriodOf luts period
  answered_period luts tables period are is = subst (λ (ts : List TwoTable). IsPeriodOf ts period) (sym are) (period_two back tables period is)

  pub answered_drops : (period : ℕ) (s : Settling) (drops : List PlainDrop) → drops ≡ map (two_drop back) s.drops
      → search.Refutes back c k (d + back) period s → ShowLeast c k d back period drops
  answered_drops period s drops are refutes =
      let above = refutes.target in
      let target : s.target ≡ period - 1 = omega (arith, above) in
      let short : length s.drops ≤ gate_count c.drives * ((d + back + 1) * s.target) = replay_short back c k (d + back) s.target s.drops refutes.led.replays in
      let long : length drops ≡ length s.drops = ap (λ (ds : List PlainDrop). length ds) are ∙ length-map s.drops (two_drop back) in
      record {
        some = omega (arith, above);
        refutes =
            subst (λ n. Refutes c k d back n drops) target
            (subst (λ (ds : List PlainDrop). Refutes c k d back s.target ds) (sym are)
            (refutes_two back c k d s.target s.drops (refutes_from back c k (d + back) period s refutes)));
        few = subst (λ n. length drops ≤ gate_count c.drives * ((d + back + 1) * n)) target (subst (λ n. n ≤ gate_count c.drives * ((d + back + 1) * s.target)) (sym long) short);
      }
