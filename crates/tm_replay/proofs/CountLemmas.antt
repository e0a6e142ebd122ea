-- Each drop of a replay takes something from what is left of the labels.
use Rattle.std.proofs.Common.{◌≡◌, ℕ, zero, suc, ◌+◌, ◌-◌, ◌*◌, ◌<◌, ◌≤◌, cond, List, [], ◌∷◌, length, Option, None, Some, refl, ap, arith}
use Rattle.std.proofs.Math.Nat.{suc-mul, zero-mul, add-mul}
use Rattle.std.specs.Prelude.{nat_lt, slice_set}
use Rattle.std.proofs.lemmas.Bool.{cond_both, ltb-true, ltb-false}
use Rattle.std.proofs.lemmas.List.Sums.{sum_by-cons}
use Rattle.tm_circuit.specs.Plain.{Plain, Drive, input, latch, gate, is_gate, gate_count}
use Rattle.tm_replay.specs.declared.label.Label.{Label}
use Rattle.tm_replay.specs.Labels.{label, label_in, below_lag, next_below, first_label, first_labels}
use Rattle.tm_replay.specs.Replays.{Drop, IsLawfulDrop, lowered, Replays}

-- How many labels stand below one, and it itself.
abbrev pub left_of : ℕ → Option Label → ℕ
left_of target None = 0
left_of target (Some x) = x.lag * target + (suc target - x.arrival)

abbrev pub left_of_all : ℕ → List (Option Label) → ℕ
left_of_all target [] = 0
left_of_all target (x ∷ labels) = left_of target x + left_of_all target labels

pub set_left : (target : ℕ) (labels : List (Option Label)) (s : ℕ) (x : Label) (v : Option Label) → label_in labels s ≡ Some x
    → left_of_all target (slice_set labels s v) + left_of target (Some x) ≡ left_of_all target labels + left_of target v
set_left target [] s x v has = cc
set_left target (y ∷ labels) zero x v has = let same : left_of target y ≡ left_of target (Some x) = ap (left_of target) has in omega (arith, same)
set_left target (y ∷ labels) (suc s) x v has = let ih = set_left target labels s x v has in omega (arith, ih)

lag_left : (target lag : ℕ) → left_of target (below_lag lag) < lag * target + 1
lag_left target zero = let none = zero-mul target in omega (arith, none)
lag_left target (suc l) = let one = suc-mul l target in omega (arith, one)

pub next_left : (target lag arrival : ℕ) → 1 ≤ arrival → arrival ≤ target → left_of target (next_below target (label lag arrival)) < lag * target + (suc target - arrival)
next_left target lag arrival some most =
    cond_both (nat_lt arrival target) (Some (label lag (arrival + 1))) (below_lag lag) (λ y. left_of target y < lag * target + (suc target - arrival))
    (λ in_time. let h = ltb-true arrival target in_time in omega (arith, h))
    (λ late. let h = ltb-false arrival target late in let low = lag_left target lag in omega (arith, h, low))

pub drop_left : (base : ℕ) (c : Plain) (k target : ℕ) (labels : List (Option Label)) (drop : Drop) → IsLawfulDrop base c k target labels drop
    → left_of_all target (lowered target labels drop) < left_of_all target labels
drop_left base c k target labels drop is =
    let set_to = set_left target labels drop.gate (label drop.lag is.order.arrived) (next_below target (label drop.lag drop.arrival)) is.order.now in
    let next = next_left target drop.lag drop.arrival is.order.some is.order.most in
    let least = is.order.least in
    omega (arith, set_to, next, least)

drops_left : (base : ℕ) (c : Plain) (k target : ℕ) (labels : List (Option Label)) (drops : List Drop) → Replays base c k target labels drops
    → length drops ≤ left_of_all target labels
drops_left base c k target labels [] replays = omega arith
drops_left base c k target labels (drop ∷ drops) replays =
    let first = drop_left base c k target labels drop replays.0 in
    let rest = drops_left base c k target (lowered target labels drop) drops replays.1 in
    omega (arith, first, rest)

one_left : (d target : ℕ) (dr : Drive) → left_of target (first_label d target dr) ≤ cond (is_gate dr) 1 0 * ((d + 1) * target)
one_left d target input = omega arith
one_left d target (latch next init) = omega arith
one_left d zero (gate pins cover) = omega arith
one_left d (suc less) (gate pins cover) = let one = suc-mul d (suc less) in let only = suc-mul 0 ((d + 1) * suc less) in grind (arith, one, only)

first_left : (d target : ℕ) (drives : List Drive) → left_of_all target (first_labels drives d target) ≤ gate_count drives * ((d + 1) * target)
first_left d target [] = omega arith
first_left d target (dr ∷ drives) =
    let ih = first_left d target drives in
    let one = one_left d target dr in
    let count = sum_by-cons (λ x. cond (is_gate x) 1 0) dr drives in
    both (cond (is_gate dr) 1 0) (gate_count drives) ((d + 1) * target) (gate_count (dr ∷ drives)) count one ih
  where
    both : (a b m n : ℕ) {x y : ℕ} → n ≡ a + b → x ≤ a * m → y ≤ b * m → x + y ≤ n * m
    both a b m n is low high = let parts = add-mul a b m in let all = ap (λ i. i * m) is in omega (arith, parts, all, low, high)

pub replay_short : (base : ℕ) (c : Plain) (k d target : ℕ) (drops : List Drop) → Replays base c k target (first_labels c.drives d target) drops
    → length drops ≤ gate_count c.drives * ((d + 1) * target)
replay_short base c k d target drops replays =
    let first = first_left d target c.drives in
    let all = drops_left base c k target (first_labels c.drives d target) drops replays in
    omega (arith, first, all)

pub none_for_nothing : (base : ℕ) (c : Plain) (k d : ℕ) (drops : List Drop) → Replays base c k 0 (first_labels c.drives d 0) drops → drops ≡ []
none_for_nothing base c k d [] replays = refl
none_for_nothing base c k d (drop ∷ drops) replays =
    let some = replays.0.order.some in
    let most = replays.0.order.most in
    absurd (omega (arith, some, most))
