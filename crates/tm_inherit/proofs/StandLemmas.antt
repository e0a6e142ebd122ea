-- Where a label falls fewer nodes are served, and barriers stay.
use Rattle.std.proofs.Common.{◌≡◌, ℕ, zero, suc, ◌+◌, ◌-◌, ◌≤◌, inl, inr, Bool, true, false, List, [], ◌∷◌, Option, None, Some, refl, sym, ◌∙◌, ap, subst, arith}
use Rattle.std.specs.Prelude.{is_some, Contains, nat_lt, nat_le, nat_eq, slice_set, ◌&&◌, ◌||◌}
use Rattle.std.proofs.lemmas.Grind.{common_steps}
use Rattle.std.proofs.lemmas.Bool.{cases_eq, cond_both, and_parts, and_from, or_parts, ltb-true, lt-ltb}
use Rattle.std.proofs.lemmas.List.{get_or-set_same, get_or-set_other}
use Rattle.tm_circuit.specs.Plain.{Plain, Drive, input, latch, gate, drive_in}
use Rattle.tm_circuit.specs.declared.sources.Source.{Source}
use Rattle.tm_circuit.specs.declared.sources.Source.TheVariants.{Input, Gate, Ring}
use Rattle.tm_circuit.proofs.ListLemmas.{contains-cases, contains-none}
use Rattle.tm_flow.specs.Cuts.{IsBarrier}
use Rattle.tm_flow.specs.Barriers.{CutsAtMost}
use Rattle.tm_flow.proofs.BarrierLemmas.{barriers_stay}
use Rattle.tm_unroll.specs.declared.node.Node.{Node}
use Rattle.tm_unroll.specs.Unrolled.{is_node}
use Rattle.tm_replay.specs.declared.label.Label.{Label}
use Rattle.tm_replay.specs.Labels.{label, label_in, below_lag, next_below}
use Rattle.tm_replay.specs.Served.{source_of, label_serves, source_serves, is_served_of, is_served, most_advance, served}
use Rattle.tm_replay.specs.Replays.{Drop, IsInOrder, IsLawfulDrop, lowered, Replays, labels_after}
use Rattle.tm_replay.proofs.RefutationLemmas.{has_place}
use Rattle.tm_inherit.specs.Refusals.{HasBarrier}

-- ---- a label that falls

later_serves : (lag arrival arrived a w : ℕ) → arrived ≤ arrival → label_serves (Some (label lag (arrival + 1))) a w ≡ true → label_serves (Some (label lag arrived)) a w ≡ true
later_serves lag arrival arrived a w less serves = grind (arith, common_steps)

lower_serves : (lag arrived a w : ℕ) → label_serves (below_lag lag) a w ≡ true → label_serves (Some (label lag arrived)) a w ≡ true
lower_serves zero arrived a w serves = cc
lower_serves (suc less) arrived a w serves = grind (arith, common_steps)

-- What the next label serves, the one before it served.
next_serves : (target lag arrival arrived a w : ℕ) → arrived ≤ arrival → label_serves (next_below target (label lag arrival)) a w ≡ true
    → label_serves (Some (label lag arrived)) a w ≡ true
next_serves target lag arrival arrived a w less =
    cond_both (nat_lt arrival target) (Some (label lag (arrival + 1))) (below_lag lag) (λ (y : Option Label). label_serves y a w ≡ true → label_serves (Some (label lag arrived)) a w ≡ true)
    (λ early serves. later_serves lag arrival arrived a w less serves)
    (λ late serves. lower_serves lag arrived a w serves)

module _ (base : ℕ) (c : Plain) (k target : ℕ) (labels : List (Option Label)) (drop : Drop) (order : IsInOrder c.drives target labels drop) (w : ℕ) where
  abbrev new : List (Option Label)
  new = lowered target labels drop

  -- What some label of a gate serves after the drop, its label before served.
  gate_kept : (g a : ℕ) → label_serves (label_in new g) a w ≡ true → label_serves (label_in labels g) a w ≡ true
  gate_kept g a serves =
      elim (cases_eq g drop.gate) [
        | inl same ↦
            let next : Option Label = next_below target (label drop.lag drop.arrival) in
            let here : label_in new drop.gate ≡ next = get_or-set_same labels drop.gate next None (has_place labels drop.gate (label drop.lag order.arrived) order.now) in
            let is : label_serves next a w ≡ true = ap (λ (x : Option Label). label_serves x a w) (sym here) ∙ ap (λ i. label_serves (label_in new i) a w) (sym same) ∙ serves in
            ap (λ (x : Option Label). label_serves x a w) (ap (label_in labels) same ∙ order.now) ∙ next_serves target drop.lag drop.arrival order.arrived a w order.least is
        | inr differs ↦
            ap (λ (x : Option Label). label_serves x a w) (sym (get_or-set_other labels drop.gate g (next_below target (label drop.lag drop.arrival)) None differs)) ∙ serves
      ]

  some_kept : (g : ℕ) → is_some (label_in new g) ≡ true → is_some (label_in labels g) ≡ true
  some_kept g is =
      elim (cases_eq g drop.gate) [
        | inl same ↦ ap (λ (x : Option Label). is_some x) (ap (label_in labels) same ∙ order.now)
        | inr differs ↦ ap (λ (x : Option Label). is_some x) (sym (get_or-set_other labels drop.gate g (next_below target (label drop.lag drop.arrival)) None differs)) ∙ is
      ]

  source_kept : (e : Source) → source_serves new e ≡ true → source_serves labels e ≡ true
  source_kept (Input s) is = refl
  source_kept Ring is = refl
  source_kept (Gate g) is = some_kept g is

  by_drive : (x : Node) (d : Drive) → is_served_of base d c.drives new w x ≡ true → is_served_of base d c.drives labels w x ≡ true
  by_drive x input is = is
  by_drive x (latch next init) is =
      let parts = and_parts (nat_eq x.advance 0) (source_serves new (source_of c.drives x.signal)) is in
      and_from (nat_eq x.advance 0) (source_serves labels (source_of c.drives x.signal)) parts.0 (source_kept (source_of c.drives x.signal) parts.1)
  by_drive x (gate pins cover) is = gate_kept x.signal x.advance is

  served_kept : (x : Node) → is_served base c.drives new w x ≡ true → is_served base c.drives labels w x ≡ true
  served_kept x is = by_drive x (drive_in c.drives x.signal) is

  cuts_fewer : CutsAtMost (served base c labels w) (served base c new w)
  cuts_fewer = record {
    reads = λ x. refl;
    read = λ x i within. refl;
    ends = λ x. refl;
    cuts = λ x is.
        let parts = and_parts (is_node most_advance c x) (is_served base c.drives new w x) is in
        and_from (is_node most_advance c x) (is_served base c.drives labels w x) parts.0 (served_kept x parts.1);
  }

  stays : (x : Node) (n : ℕ) (ws : List (List ℕ)) → IsBarrier (served base c labels w) x n ws → IsBarrier (served base c new w) x n ws
  stays x n ws barrier = barriers_stay (served base c labels w) (served base c new w) cuts_fewer x n ws barrier

-- A barrier stays one along a replay.
stands_on : (base : ℕ) (c : Plain) (k target : ℕ) (labels : List (Option Label)) (drops : List Drop) → Replays base c k target labels drops
    → (w : ℕ) (x : Node) (ws : List (List ℕ)) → IsBarrier (served base c labels w) x k ws → IsBarrier (served base c (labels_after target labels drops) w) x k ws
stands_on base c k target labels [] replays w x ws barrier = barrier
stands_on base c k target labels (drop ∷ drops) replays w x ws barrier =
    stands_on base c k target (lowered target labels drop) drops replays.1 w x ws (stays base c k target labels drop replays.0.order w x k ws barrier)

pub stands_all : (base : ℕ) (c : Plain) (k target : ℕ) (labels : List (Option Label)) (drops : List Drop) (drop : Drop) → Replays base c k target labels drops → Contains drops drop
    → HasBarrier base c k (labels_after target labels drops) drop
stands_all base c k target labels [] drop replays stands = absurd (contains-none drop stands)
stands_all base c k target labels (first ∷ drops) drop replays stands =
    elim (contains-cases first drops drop stands) [
      | inl is ↦
          subst (λ (d : Drop). HasBarrier base c k (labels_after target (lowered target labels first) drops) d) is
          (stands_on base c k target labels (first ∷ drops) replays (first.arrival - 1) (record { signal = first.gate; advance = first.lag }) first.walks replays.0.barrier)
      | inr later ↦ stands_all base c k target (lowered target labels first) drops drop replays.1 later
    ]
