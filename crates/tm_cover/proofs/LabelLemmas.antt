-- What labels say of the nodes that they serve, and that drops keep labels those for a target.
use Rattle.std.proofs.Common.{◌≡◌, ℕ, zero, suc, ◌+◌, ◌≤◌, inl, inr, true, ◌&&◌, List, [], ◌∷◌, Option, None, Some, refl, sym, ◌∙◌, ap, subst, arith}
use Rattle.std.specs.Prelude.{is_some, nat_lt, nat_le, nat_eq}
use Rattle.std.proofs.lemmas.Bool.{cases_eq, cond_both, and_parts, or_cases, ltb-true, leb-true, eqb-true}
use Rattle.std.proofs.lemmas.List.{get_or-set_same, get_or-set_other}
use Rattle.tm_circuit.specs.Plain.{Plain, Drive, input, latch, gate, drive_in}
use Rattle.tm_replay.specs.declared.label.Label.{Label}
use Rattle.tm_replay.specs.Labels.{label, label_in, below_lag, next_below, first_label, first_labels, IsLabelFor}
use Rattle.tm_replay.specs.Served.{label_serves}
use Rattle.tm_replay.specs.Replays.{Drop, IsLawfulDrop, lowered, Replays, labels_after}
use Rattle.tm_replay.proofs.RefutationLemmas.{label_first, has_place}

-- What has a label.
pub some_label : (x : Option Label) → is_some x ≡ true → (y : Label) × (x ≡ Some y)
some_label None is = cc
some_label (Some y) is = (y, refl)

pub serving_label : (x : Option Label) (advance within : ℕ) → label_serves x advance within ≡ true → (y : Label) × (x ≡ Some y)
serving_label None advance within serves = cc
serving_label (Some y) advance within serves = (y, refl)

-- A label that serves an advance has at least this lag.
pub serves_low : (x : Option Label) (y : Label) (advance within : ℕ) → x ≡ Some y → label_serves x advance within ≡ true → advance ≤ y.lag
serves_low x y advance within is serves =
    low (subst (λ (z : Option Label). label_serves z advance within ≡ true) is serves)
  where
    low : label_serves (Some y) advance within ≡ true → advance ≤ y.lag
    low h =
        elim (or_cases (nat_lt advance y.lag) (nat_eq y.lag advance && nat_le y.arrival within) h) [
          | inl less ↦ let l = ltb-true advance y.lag less in omega (arith, l)
          | inr same ↦ let e = eqb-true y.lag advance (and_parts (nat_eq y.lag advance) (nat_le y.arrival within) same).0 in omega (arith, e)
        ]

-- A label that serves its own lag within a number has an arrival within it.
pub serves_early : (x : Option Label) (y : Label) (advance within : ℕ) → x ≡ Some y → advance ≡ y.lag → label_serves x advance within ≡ true → y.arrival ≤ within
serves_early x y advance within is level serves =
    early (subst (λ (z : Option Label). label_serves z advance within ≡ true) is serves)
  where
    early : label_serves (Some y) advance within ≡ true → y.arrival ≤ within
    early h =
        elim (or_cases (nat_lt advance y.lag) (nat_eq y.lag advance && nat_le y.arrival within) h) [
          | inl less ↦ absurd (let l = ltb-true advance y.lag less in omega (arith, l, level))
          | inr same ↦ leb-true y.arrival within (and_parts (nat_eq y.lag advance) (nat_le y.arrival within) same).1
        ]

-- ---- labels for a target

-- A label, where there is one, is one for the target.
abbrev pub MayBeLabelFor : ℕ → ℕ → Option Label → Type 0
MayBeLabelFor d target None = Unit {0}
MayBeLabelFor d target (Some x) = IsLabelFor d target x

next_may_be : (d target lag arrival : ℕ) → lag ≤ d → 1 ≤ arrival → arrival ≤ target → MayBeLabelFor d target (next_below target (label lag arrival))
next_may_be d target lag arrival low some most =
    cond_both (nat_lt arrival target) (Some (label lag (arrival + 1))) (below_lag lag) (λ x. MayBeLabelFor d target x)
    (λ in_time. let less = ltb-true arrival target in_time in record { lag = low; some = omega arith; most = omega (arith, less) })
    (λ late. lag_may_be lag low)
  where
    lag_may_be : (l : ℕ) → l ≤ d → MayBeLabelFor d target (below_lag l)
    lag_may_be zero h = tt
    lag_may_be (suc l) h = record { lag = omega arith; some = omega arith; most = omega (arith, some, most) }

first_may_be : (d target : ℕ) (dr : Drive) → MayBeLabelFor d target (first_label d target dr)
first_may_be d target input = tt
first_may_be d target (latch next init) = tt
first_may_be d zero (gate pins cover) = tt
first_may_be d (suc less) (gate pins cover) = record { lag = omega arith; some = omega arith; most = omega arith }

drop_may_be : (base : ℕ) (c : Plain) (k d target : ℕ) (labels : List (Option Label)) (drop : Drop) → IsLawfulDrop base c k target labels drop
    → ((g : ℕ) → MayBeLabelFor d target (label_in labels g)) → (g : ℕ) → MayBeLabelFor d target (label_in (lowered target labels drop) g)
drop_may_be base c k d target labels drop is all g =
    elim (cases_eq g drop.gate) [
      | inr other ↦
          let kept : label_in (lowered target labels drop) g ≡ label_in labels g = get_or-set_other labels drop.gate g (next_below target (label drop.lag drop.arrival)) None other in
          subst (λ (x : Option Label). MayBeLabelFor d target x) (sym kept) (all g)
      | inl same ↦
          let set_to : label_in (lowered target labels drop) g ≡ next_below target (label drop.lag drop.arrival) =
          ap (λ s. label_in (lowered target labels drop) s) same ∙ get_or-set_same labels drop.gate (next_below target (label drop.lag drop.arrival)) None (has_place labels drop.gate (label drop.lag is.order.arrived) is.order.now) in
          let was : IsLabelFor d target (label drop.lag is.order.arrived) = subst (λ (x : Option Label). MayBeLabelFor d target x) is.order.now (all drop.gate) in
          subst (λ (x : Option Label). MayBeLabelFor d target x) (sym set_to) (next_may_be d target drop.lag drop.arrival was.lag is.order.some is.order.most)
    ]

drops_may_be : (base : ℕ) (c : Plain) (k d target : ℕ) (labels : List (Option Label)) (drops : List Drop) → Replays base c k target labels drops
    → ((g : ℕ) → MayBeLabelFor d target (label_in labels g)) → (g : ℕ) → MayBeLabelFor d target (label_in (labels_after target labels drops) g)
drops_may_be base c k d target labels [] replays all = all
drops_may_be base c k d target labels (drop ∷ drops) replays all =
    drops_may_be base c k d target (lowered target labels drop) drops replays.1 (drop_may_be base c k d target labels drop replays.0 all)

-- Each label that drops lead to from the first ones is one for the target.
pub label_for : (base : ℕ) (c : Plain) (k d target : ℕ) (drops : List Drop) (labels : List (Option Label)) (g : ℕ) (x : Label)
    → Replays base c k target (first_labels c.drives d target) drops → labels ≡ labels_after target (first_labels c.drives d target) drops
    → label_in labels g ≡ Some x → IsLabelFor d target x
label_for base c k d target drops labels g x replays led is =
    let at : label_in (labels_after target (first_labels c.drives d target) drops) g ≡ Some x = ap (λ (ls : List (Option Label)). label_in ls g) (sym led) ∙ is in
    subst (λ (y : Option Label). MayBeLabelFor d target y) at (drops_may_be base c k d target (first_labels c.drives d target) drops replays first g)
  where
    first : (h : ℕ) → MayBeLabelFor d target (label_in (first_labels c.drives d target) h)
    first h = subst (λ (y : Option Label). MayBeLabelFor d target y) (sym (label_first d target c.drives h)) (first_may_be d target (drive_in c.drives h))
