-- What a settling keeps, at its begin, where a gate leaves the queue, and where a label falls.
use Rattle.std.proofs.Common.{◌≡◌, ◌≢◌, ℕ, ◌-◌, ◌<◌, ◌≤◌, inl, inr, Bool, true, false, List, [], length, Option, None, Some, sym, ◌∙◌, ap, subst}
use Rattle.std.specs.Prelude.{slice_set}
use Rattle.std.proofs.lemmas.Bool.{cases_eq, both_ways}
use Rattle.std.proofs.lemmas.List.{get_or-set_same, get_or-set_other, length-set, length-map}
use Rattle.tm_circuit.specs.Plain.{Plain}
use Rattle.tm_unroll.specs.declared.node.Node.{Node}
use Rattle.tm_unroll.specs.Nodes.{node_at}
use Rattle.tm_unroll.specs.Walks.{Covers}
use Rattle.tm_unroll.proofs.JudgeLemmas.{gate_within}
use Rattle.tm_replay.specs.declared.label.Label.{Label}
use Rattle.tm_replay.specs.Labels.{label_in, first_label, first_labels}
use Rattle.tm_replay.specs.Replays.{Drop}
use Rattle.tm_merge.specs.Cuts.{IsCutWithin, cut_in}
use Rattle.tm_labels.specs.Marks.{is_marked, MarksGates}
use Rattle.tm_labels.specs.Keeping.{FitLabels, AreSized, Keeps}
use Rattle.tm_labels.proofs.MarkLemmas.{unmarked_other}
use Rattle.tm_labels.proofs.LabelLemmas.{first_labels_fit}

-- One label at most.
one_label : (o : Option Label) (x y : Label) → o ≡ Some x → o ≡ Some y → x ≡ y
one_label o x y is other = cc

module _ (base : ℕ) (c : Plain) (k d target : ℕ) where
  -- ---- the begin

  pub begun : (counts queued : List Bool) (labels : List (Option Label)) (leaves : List (List Node)) (stale : List Bool)
      → length counts ≡ length c.drives → labels ≡ first_labels c.drives d target → MarksGates c.drives counts queued
      → ((g : ℕ) → cut_in leaves g ≡ []) → ((g : ℕ) → g < length c.drives → is_marked stale g ≡ true)
      → Keeps base c k d target counts queued labels [] leaves stale
  begun counts queued labels leaves stale sized first marks none all_stale =
      let fit : FitLabels c d target labels = subst (λ (ls : List (Option Label)). FitLabels c d target ls) (sym first) (first_labels_fit c d target) in
      record {
        sized = record { counts_sized = sized; labels_sized = ap length first ∙ length-map c.drives (first_label d target); queued_sized = marks.sized ∙ sized };
        led = record { replays = tt; led = first };
        fit = fit;
        covers = λ g x has kept. absurd (kept (all_stale g (gate_within c.drives g (fit g x has).0)));
        cuts = λ g x counted idle has. absurd (both_ways _ idle (marks.all g counted (fit g x has).0));
        none = λ g gone. none g;
      }

  module _ (counts queued : List Bool) (labels : List (Option Label)) (drops : List Drop) (leaves : List (List Node)) (stale : List Bool)
      (keeps : Keeps base c k d target counts queued labels drops leaves stale) where
    -- ---- a gate leaves the queue

    left_sized : (g : ℕ) → AreSized (length c.drives) counts labels (slice_set queued g false)
    left_sized g = record { counts_sized = keeps.sized.counts_sized; labels_sized = keeps.sized.labels_sized; queued_sized = length-set queued g false ∙ keeps.sized.queued_sized }

    -- A gate without a label leaves the queue.
    pub leaves_without : (g : ℕ) → label_in labels g ≡ None → Keeps base c k d target counts (slice_set queued g false) labels drops leaves stale
    leaves_without g gone = record {
      sized = left_sized g;
      led = keeps.led;
      fit = keeps.fit;
      covers = keeps.covers;
      cuts = λ h x counted idle has.
          elim (cases_eq h g) [
            | inl same ↦ absurd (let other : label_in labels h ≡ None = ap (label_in labels) same ∙ gone in cc)
            | inr differs ↦ keeps.cuts h x counted (sym (unmarked_other queued g h differs) ∙ idle) has
          ];
      none = keeps.none;
    }

    -- A gate leaves the queue with a cut.
    pub leaves_with : (g : ℕ) (y : Label) (cut : List Node) → label_in labels g ≡ Some y → g < length leaves → IsCutWithin base c k labels (y.arrival - 1) (node_at y.lag g) cut
        → Keeps base c k d target counts (slice_set queued g false) labels drops (slice_set leaves g cut) (slice_set stale g false)
    leaves_with g y cut labelled within is = record {
      sized = left_sized g;
      led = keeps.led;
      fit = keeps.fit;
      covers = λ h x has kept.
          elim (cases_eq h g) [
            | inl same ↦
                let one : y ≡ x = one_label (label_in labels g) y x labelled (sym (ap (label_in labels) same) ∙ has) in
                subst (λ i. (length (cut_in new i) ≤ k) × Covers c.drives (cut_in new i) (node_at x.lag i)) (sym same)
                (subst (λ (z : Label). (length (cut_in new g) ≤ k) × Covers c.drives (cut_in new g) (node_at z.lag g)) one
                (subst (λ (ys : List Node). (length ys ≤ k) × Covers c.drives ys (node_at y.lag g)) (sym here) (is.few, is.covers)))
            | inr differs ↦
                subst (λ (ys : List Node). (length ys ≤ k) × Covers c.drives ys (node_at x.lag h)) (sym (other h differs))
                (keeps.covers h x has (λ was. kept (get_or-set_other stale g h false false differs ∙ was)))
          ];
      cuts = λ h x counted idle has.
          elim (cases_eq h g) [
            | inl same ↦
                let one : y ≡ x = one_label (label_in labels g) y x labelled (sym (ap (label_in labels) same) ∙ has) in
                subst (λ i. IsCutWithin base c k labels (x.arrival - 1) (node_at x.lag i) (cut_in new i)) (sym same)
                (subst (λ (z : Label). IsCutWithin base c k labels (z.arrival - 1) (node_at z.lag g) (cut_in new g)) one
                (subst (λ (ys : List Node). IsCutWithin base c k labels (y.arrival - 1) (node_at y.lag g) ys) (sym here) is))
            | inr differs ↦
                subst (λ (ys : List Node). IsCutWithin base c k labels (x.arrival - 1) (node_at x.lag h) ys) (sym (other h differs))
                (keeps.cuts h x counted (sym (unmarked_other queued g h differs) ∙ idle) has)
          ];
      none = λ h gone.
          elim (cases_eq h g) [
            | inl same ↦ absurd (let other : label_in labels g ≡ None = ap (label_in labels) (sym same) ∙ gone in cc)
            | inr differs ↦ other h differs ∙ keeps.none h gone
          ];
    }
      where
        new : List (List Node)
        new = slice_set leaves g cut

        here : cut_in new g ≡ cut
        here = get_or-set_same leaves g cut [] within

        other : (h : ℕ) → h ≢ g → cut_in new h ≡ cut_in leaves h
        other h differs = get_or-set_other leaves g h cut [] differs
