-- Labels with amounts are made, lowered and serve as the labels with the numbers that stand for their amounts.
use Rattle.std.proofs.Common.{◌≡◌, ℕ, zero, suc, ◌+◌, ◌-◌, ◌<◌, Bool, true, false, cond, List, [], ◌∷◌, map, Option, None, Some, ℤ, pos, neg_ℤ, ◌-ℤ◌, refl, sym, ◌∙◌, ap, subst}
use Rattle.std.specs.Prelude.{◌&&◌, ◌||◌, nat_lt, nat_le, nat_eq, is_some, slice_set}
use Rattle.std.specs.Option.{option_map}
use Rattle.std.specs.Ordering.{int_eq}
use Rattle.tm_circuit.specs.Plain.{Drive, input, latch, gate, drive_in}
use Rattle.tm_circuit.specs.declared.sources.Source.{Source}
use Rattle.tm_circuit.specs.declared.sources.Source.TheVariants.{Input, Gate, Ring}
use Rattle.tm_circuit.proofs.ListLemmas.{map-agree}
use Rattle.tm_unroll.specs.declared.node.Node.{Node}
use Rattle.tm_replay.specs.declared.label.Label.{Label}
use Rattle.tm_replay.specs.Labels as one
use Rattle.tm_replay.specs.Served as one_served
use Rattle.tm_replay.specs.Replays as one_replay
use Rattle.tm_replay.specs.Replays.{Drop}
use Rattle.two_way.specs.Labels as two
use Rattle.two_way.specs.Labels.{TwoLabel}
use Rattle.two_way.specs.Served as two_served
use Rattle.two_way.specs.Replays as two_replay
use Rattle.two_way.specs.Amounts.{amount, two_node, two_label, two_drop}
use Rattle.two_way.proofs.MapLemmas.{map_map}
use Rattle.two_way.proofs.AmountLemmas.{amount_less, greatest_amount, above_floor, at_floor, amount_tests_lt, amount_tests_eq, not_ahead, is_floor, need_lt}

module _ (back : ℕ) where
  abbrev pub two_labels : List (Option Label) → List (Option TwoLabel)
  two_labels labels = map (option_map (two_label back)) labels

  -- ---- the first labels

  first_two : (d target : ℕ) (dr : Drive) → two.first_label d target dr ≡ option_map (two_label back) (one.first_label (d + back) target dr)
  first_two d target input = refl
  first_two d target (latch next init) = refl
  first_two d zero (gate pins cover) = refl
  first_two d (suc less) (gate pins cover) = ap (λ (z : ℤ). Some (two.label z 1)) (sym (greatest_amount back d))

  pub first_labels_two : (drives : List Drive) (d target : ℕ) → two.first_labels drives d target ≡ two_labels (one.first_labels drives (d + back) target)
  first_labels_two drives d target =
      map-agree (two.first_label d target) (λ dr. option_map (two_label back) (one.first_label (d + back) target dr)) drives (λ dr stands. first_two d target dr)
      ∙ sym (map_map (option_map (two_label back)) (one.first_label (d + back) target) drives)

  -- ---- the labels after a drop

  below_two : (lag : ℕ) → two.below_lag back (amount back lag) ≡ option_map (two_label back) (one.below_lag lag)
  below_two zero = ap (λ (b : Bool). cond b (Some (two.label (amount back 0 -ℤ pos 1) 1)) None) (at_floor back)
  below_two (suc less) =
      ap (λ (b : Bool). cond b (Some (two.label (amount back (suc less) -ℤ pos 1) 1)) None) (above_floor back less)
      ∙ ap (λ (z : ℤ). Some (two.label z 1)) (amount_less back less)

  next_two : (target : ℕ) (x : Label) → two.next_below back target (two_label back x) ≡ option_map (two_label back) (one.next_below target x)
  next_two target x = by_test (nat_lt x.arrival target)
    where
      by_test : (b : Bool) → cond b (Some (two.label (amount back x.lag) (x.arrival + 1))) (two.below_lag back (amount back x.lag))
          ≡ option_map (two_label back) (cond b (Some (one.label x.lag (x.arrival + 1))) (one.below_lag x.lag))
      by_test true = refl
      by_test false = below_two x.lag

  pub label_in_two : (labels : List (Option Label)) (s : ℕ) → two.label_in (two_labels labels) s ≡ option_map (two_label back) (one.label_in labels s)
  label_in_two [] s = refl
  label_in_two (x ∷ labels) zero = refl
  label_in_two (x ∷ labels) (suc s) = label_in_two labels s

  set_two : (labels : List (Option Label)) (s : ℕ) (v : Option Label)
      → slice_set (two_labels labels) s (option_map (two_label back) v) ≡ two_labels (slice_set labels s v)
  set_two [] s v = refl
  set_two (x ∷ labels) zero v = refl
  set_two (x ∷ labels) (suc s) v = ap (λ (ls : List (Option TwoLabel)). option_map (two_label back) x ∷ ls) (set_two labels s v)

  pub lowered_two : (target : ℕ) (labels : List (Option Label)) (drop : Drop)
      → two_replay.lowered back target (two_labels labels) (two_drop back drop) ≡ two_labels (one_replay.lowered target labels drop)
  lowered_two target labels drop =
      ap (λ (v : Option TwoLabel). slice_set (two_labels labels) drop.gate v) (next_two target (one.label drop.lag drop.arrival))
      ∙ set_two labels drop.gate (one.next_below target (one.label drop.lag drop.arrival))

  -- ---- what labels serve

  serves_two : (x : Option Label) (a within : ℕ)
      → two_served.label_serves (option_map (two_label back) x) (amount back a) within ≡ one_served.label_serves x a within
  serves_two None a within = refl
  serves_two (Some x) a within =
      ap (λ (b : Bool). b || (int_eq (amount back x.lag) (amount back a) && nat_le x.arrival within)) (amount_tests_lt back a x.lag)
      ∙ ap (λ (b : Bool). nat_lt a x.lag || (b && nat_le x.arrival within)) (amount_tests_eq back x.lag a)

  has_label_two : (x : Option Label) → is_some (option_map (two_label back) x) ≡ is_some x
  has_label_two None = refl
  has_label_two (Some x) = refl

  source_two : (labels : List (Option Label)) (e : Source) → two_served.source_serves (two_labels labels) e ≡ one_served.source_serves labels e
  source_two labels (Input s) = refl
  source_two labels (Gate s) = ap (λ (x : Option TwoLabel). is_some x) (label_in_two labels s) ∙ has_label_two (one.label_in labels s)
  source_two labels Ring = refl

  served_of_two : (dr : Drive) (drives : List Drive) (labels : List (Option Label)) (within : ℕ) (x : Node)
      → two_served.is_served_of back dr drives (two_labels labels) within (two_node back x) ≡ one_served.is_served_of back dr drives labels within x
  served_of_two input drives labels within x = not_ahead back x.advance
  served_of_two (latch next init) drives labels within x =
      ap (λ (b : Bool). b && two_served.source_serves (two_labels labels) (one_served.source_of drives x.signal)) (is_floor back x.advance)
      ∙ ap (λ (b : Bool). nat_eq x.advance 0 && b) (source_two labels (one_served.source_of drives x.signal))
  served_of_two (gate pins cover) drives labels within x =
      ap (λ (l : Option TwoLabel). two_served.label_serves l (amount back x.advance) within) (label_in_two labels x.signal)
      ∙ serves_two (one.label_in labels x.signal) x.advance within

  pub served_two : (drives : List Drive) (labels : List (Option Label)) (within : ℕ) (x : Node)
      → two_served.is_served back drives (two_labels labels) within (two_node back x) ≡ one_served.is_served back drives labels within x
  served_two drives labels within x = served_of_two (drive_in drives x.signal) drives labels within x

  -- ---- what falls short

  pub short_two : (x : Option Label) (need latches : ℕ) → need ≡ back - latches → one_replay.FallsShort x need
      → two_replay.FallsShort (option_map (two_label back) x) (neg_ℤ (pos latches))
  short_two None need latches is short = tt
  short_two (Some x) need latches is short = need_lt back latches x.lag (subst (λ n. x.lag < n) is short)
