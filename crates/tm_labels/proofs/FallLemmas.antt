-- What a settling keeps where a label falls.
use Rattle.std.proofs.Common.{◌≡◌, ◌≢◌, ℕ, ◌-◌, ◌≤◌, inl, inr, Bool, true, false, List, [], ◌∷◌, ◌++◌, length, Option, None, Some, sym, ◌∙◌, ap, subst}
use Rattle.std.specs.Prelude.{Contains}
use Rattle.std.proofs.lemmas.Bool.{cases_Bool, cases_eq, both_ways, false_from_ne_true}
use Rattle.std.proofs.lemmas.List.{get_or-set_same, length-set}
use Rattle.tm_circuit.specs.Plain.{Plain}
use Rattle.tm_circuit.specs.Chain.{IsGate}
use Rattle.tm_circuit.specs.Sound.{IsSound}
use Rattle.tm_circuit.specs.Source.{IsSource}
use Rattle.tm_circuit.specs.declared.sources.Source.TheVariants.{Gate}
use Rattle.tm_unroll.specs.declared.node.Node.{Node}
use Rattle.tm_unroll.specs.Nodes.{node_at}
use Rattle.tm_unroll.specs.Walks.{Covers}
use Rattle.tm_replay.specs.declared.label.Label.{Label}
use Rattle.tm_replay.specs.Labels.{label, label_in, next_below, first_labels}
use Rattle.tm_replay.specs.Served.{is_served}
use Rattle.tm_replay.specs.Replays.{Drop, IsLawfulDrop, lowered}
use Rattle.tm_replay.proofs.MomentLemmas.{replays-push, labels_after-push}
use Rattle.tm_replay.proofs.RefutationLemmas.{has_place}
use Rattle.tm_merge.specs.Cuts.{IsCutWithin, HaveCovers, cut_in}
use Rattle.tm_labels.specs.Settled.{LeadTo}
use Rattle.tm_labels.specs.Marks.{is_marked}
use Rattle.tm_labels.specs.Watched.{Kept, IsLate, FallsWith, Wakes}
use Rattle.tm_labels.specs.Working.{HaveCuts, MayComeIn}
use Rattle.tm_labels.specs.Keeping.{FitLabels, Keeps}
use Rattle.tm_labels.proofs.ServedLemmas.{label_other, served_differs}
use Rattle.tm_labels.proofs.LabelLemmas.{next_fits}

-- The drops replay with one more that is lawful.
pub leads_on : (base : ℕ) (c : Plain) (k d target : ℕ) (drops : List Drop) (drop : Drop) (labels : List (Option Label)) → LeadTo base c k d target drops labels
    → IsLawfulDrop base c k target labels drop → LeadTo base c k d target (drops ++ drop ∷ []) (lowered target labels drop)
leads_on base c k d target drops drop labels led lawful = record {
  replays = replays-push base c k target (first_labels c.drives d target) drops drop led.replays
      (subst (λ (ls : List (Option Label)). IsLawfulDrop base c k target ls drop) led.led lawful);
  led = ap (λ (ls : List (Option Label)). lowered target ls drop) led.led ∙ sym (labels_after-push target (first_labels c.drives d target) drops drop);
}

module _ (base : ℕ) (c : Plain) (k d target : ℕ) (counts queued : List Bool) (labels : List (Option Label)) (drops : List Drop) (leaves : List (List Node)) (stale : List Bool)
    (sound : IsSound c) (keeps : Keeps base c k d target counts queued labels drops leaves stale) (drop : Drop) (lawful : IsLawfulDrop base c k target labels drop)
    (waits : is_marked queued drop.gate ≡ true) where
  abbrev next : Option Label
  next = next_below target (label drop.lag drop.arrival)

  abbrev new : List (Option Label)
  new = lowered target labels drop

  here : label_in new drop.gate ≡ next
  here = get_or-set_same labels drop.gate next None (has_place labels drop.gate (label drop.lag lawful.order.arrived) lawful.order.now)

  there : (g : ℕ) → g ≢ drop.gate → label_in new g ≡ label_in labels g
  there g differs = label_other labels drop.gate g next differs

  -- A gate that does not wait is another one.
  idle_differs : (g : ℕ) → is_marked queued g ≡ false → g ≢ drop.gate
  idle_differs g idle same = both_ways _ idle (ap (is_marked queued) same ∙ waits)

  fits_on : FitLabels c d target new
  fits_on g x has =
      let old = keeps.fit drop.gate (label drop.lag lawful.order.arrived) lawful.order.now in
      elim (cases_eq g drop.gate) [
        | inl same ↦
            let is : next ≡ Some x = sym here ∙ ap (label_in new) (sym same) ∙ has in
            (subst (λ i. IsGate c.drives i) (sym same) lawful.order.gate, next_fits d target drop.lag drop.arrival old.1.lag lawful.order.some lawful.order.most x is)
        | inr differs ↦ keeps.fit g x (sym (there g differs) ∙ has)
      ]

  -- An idle gate that is served too late at a leaf after the drop was served in time before, so that the leaf looks at the gate of
  -- the drop.
  late_looks : (g : ℕ) (y : Node) → IsLate base c new counts queued leaves g y → IsSource c.drives y.signal (Gate drop.gate) × MayComeIn c new drop.gate g
  late_looks g y late =
      let old : label_in labels g ≡ Some late.label = sym (there g (idle_differs g late.idle)) ∙ late.has in
      let cut = keeps.cuts g late.label late.counted late.idle old in
      let looks = served_differs base c sound labels drop.gate next (late.label.arrival - 1) y (cut.served y late.leaf) late.unserved in
      (looks.0, record { label = late.label; has = late.has; node = y; reached = cut.covers.reached y late.leaf; looks = looks.1 })

  module _ (woken : List Bool) (wakes : Wakes base c new counts leaves drop.gate queued woken) where
    -- Those alone come into the queue that may.
    pub comes_in : (g : ℕ) → is_marked woken g ≡ true → is_marked queued g ≡ false → MayComeIn c new drop.gate g
    comes_in g now before =
        elim (wakes.joins.only g now) [
          | inl was ↦ absurd (both_ways _ before was)
          | inr late ↦ let found = wakes.are.only g late in (late_looks g found.0 found.1).1
        ]

    -- Who does not wait after the drop did not before.
    idle_before : (g : ℕ) → is_marked woken g ≡ false → is_marked queued g ≡ false
    idle_before g idle = false_from_ne_true _ (λ was. both_ways _ idle (wakes.joins.stays g was))

    -- Who does not wait after the drop is served in time.
    served_on : (g : ℕ) (x : Label) → is_marked counts g ≡ true → is_marked woken g ≡ false → label_in new g ≡ Some x
        → (y : Node) → Contains (cut_in leaves g) y → is_served base c.drives new (x.arrival - 1) y ≡ true
    served_on g x counted idle has y leaf =
        elim (cases_Bool (is_served base c.drives new (x.arrival - 1) y)) [
          | inl is ↦ is
          | inr lost ↦
              let late : IsLate base c new counts queued leaves g y = record { counted = counted; idle = idle_before g idle; label = x; has = has; leaf = leaf; unserved = lost } in
              absurd (both_ways _ idle (wakes.joins.joins g (wakes.are.all g y late (late_looks g y late).0)))
        ]

    module _ (old after : Kept) (were : old.leaves ≡ leaves) (stale_were : old.stale ≡ stale) (falls : FallsWith drop.gate drop.lag next old after) where
      cut_there : (g : ℕ) → g ≢ drop.gate → cut_in after.leaves g ≡ cut_in leaves g
      cut_there g differs = (falls.others g differs).0 ∙ ap (λ (ls : List (List Node)). cut_in ls g) were

      covers_on : HaveCovers c k new (λ g. is_marked after.stale g ≡ true) after.leaves
      covers_on g x has kept =
          elim (cases_eq g drop.gate) [
            | inl same ↦
                let is : next ≡ Some x = sym here ∙ ap (label_in new) (sym same) ∙ has in
                let fresh : is_marked after.stale drop.gate ≡ false = false_from_ne_true _ (λ is_stale. kept (ap (is_marked after.stale) same ∙ is_stale)) in
                let stays = falls.same x is fresh in
                let kept_before : is_marked stale drop.gate ≡ true → ⊥ = λ was. both_ways _ stays.2 (ap (λ (ms : List Bool). is_marked ms drop.gate) stale_were ∙ was) in
                let old_covers = keeps.covers drop.gate (label drop.lag lawful.order.arrived) lawful.order.now kept_before in
                let cut : cut_in after.leaves g ≡ cut_in leaves drop.gate = ap (cut_in after.leaves) same ∙ stays.1 ∙ ap (λ (ls : List (List Node)). cut_in ls drop.gate) were in
                subst (λ (ys : List Node). (length ys ≤ k) × Covers c.drives ys (node_at x.lag g)) (sym cut)
                (subst (λ l. (length (cut_in leaves drop.gate) ≤ k) × Covers c.drives (cut_in leaves drop.gate) (node_at l g)) (sym stays.0)
                (subst (λ i. (length (cut_in leaves drop.gate) ≤ k) × Covers c.drives (cut_in leaves drop.gate) (node_at drop.lag i)) (sym same) old_covers))
            | inr differs ↦
                subst (λ (ys : List Node). (length ys ≤ k) × Covers c.drives ys (node_at x.lag g)) (sym (cut_there g differs))
                (keeps.covers g x (sym (there g differs) ∙ has) (λ was. kept ((falls.others g differs).1 ∙ ap (λ (ms : List Bool). is_marked ms g) stale_were ∙ was)))
          ]

      cuts_on : HaveCuts base c k counts woken new after.leaves
      cuts_on g x counted idle has =
          let differs = idle_differs g (idle_before g idle) in
          let cut = keeps.cuts g x counted (idle_before g idle) (sym (there g differs) ∙ has) in
          subst (λ (ys : List Node). IsCutWithin base c k new (x.arrival - 1) (node_at x.lag g) ys) (sym (cut_there g differs))
          (record { few = cut.few; ascending = cut.ascending; covers = cut.covers; served = served_on g x counted idle has })

      none_on : (g : ℕ) → label_in new g ≡ None → cut_in after.leaves g ≡ []
      none_on g gone =
          elim (cases_eq g drop.gate) [
            | inl same ↦ ap (cut_in after.leaves) same ∙ falls.gone (sym here ∙ ap (label_in new) (sym same) ∙ gone)
            | inr differs ↦ cut_there g differs ∙ keeps.none g (sym (there g differs) ∙ gone)
          ]

      pub falls_on : Keeps base c k d target counts woken new (drops ++ drop ∷ []) after.leaves after.stale
      falls_on = record {
        sized = record { counts_sized = keeps.sized.counts_sized; labels_sized = length-set labels drop.gate next ∙ keeps.sized.labels_sized; queued_sized = wakes.joins.sized ∙ keeps.sized.queued_sized };
        led = leads_on base c k d target drops drop labels keeps.led lawful;
        fit = fits_on;
        covers = covers_on;
        cuts = cuts_on;
        none = none_on;
      }
