-- A drop passes or fails by one test alone, and a list of drops has one first fault at most.
use Rattle.std.proofs.Common.{◌≡◌, ℕ, zero, suc, ◌-◌, ◌<◌, ◌≤◌, inl, inr, List, [], ◌∷◌, length, take, Option, Some, refl, sym, ◌∙◌, ap, subst, arith}
use Rattle.std.specs.Prelude.{slice_get}
use Rattle.std.proofs.lemmas.Bool.{cases_order}
use Rattle.std.proofs.lemmas.Option.{slice_get_within}
use Rattle.std.proofs.lemmas.List.{take_all}
use Rattle.tm_circuit.specs.Plain.{Plain}
use Rattle.tm_flow.specs.Lists.{Each}
use Rattle.tm_flow.specs.Nets.{Shape, IsIndexWalk}
use Rattle.tm_flow.specs.Cuts.{IsBarrier}
use Rattle.tm_flow.specs.Judges.{AreEnough, HasNoWalk, IsWalkFault}
use Rattle.tm_flow.specs.declared.judge.WalkFault.{WalkFault}
use Rattle.tm_flow.specs.declared.judge.WalkFault.TheVariants as walk
use Rattle.tm_flow.proofs.ListLemmas.{each_has}
use Rattle.tm_flow.proofs.JudgeLemmas.{no_share, no_walk}
use Rattle.tm_unroll.specs.Nodes.{node_at}
use Rattle.tm_replay.specs.declared.label.Label.{Label}
use Rattle.tm_replay.specs.declared.fault.DropWhy.{DropWhy}
use Rattle.tm_replay.specs.declared.fault.DropWhy.TheVariants.{Order, TooFew, Path, Shared}
use Rattle.tm_replay.specs.declared.fault.DropFault.{DropFault}
use Rattle.tm_replay.specs.Labels.{first_labels}
use Rattle.tm_replay.specs.Served.{served}
use Rattle.tm_replay.specs.Replays.{Drop, IsLawfulDrop, lowered, Replays, labels_after}
use Rattle.tm_replay.specs.Faults.{FailsBy, IsFirstFault, HasOneFault}

-- A barrier has enough walks.
enough : {T : Type 0} (n : Shape T) (x : T) (k : ℕ) (ws : List (List ℕ)) → IsBarrier n x k ws → AreEnough k ws
enough n x k ws (inl free) = inl (ap length free.1)
enough n x k ws (inr flow) = inr flow.0

-- What has a walk fault is no barrier.
no_barrier : {T : Type 0} (n : Shape T) (x : T) (k : ℕ) (ws : List (List ℕ)) (fault : WalkFault) → 1 ≤ k → IsWalkFault n x k ws fault → IsBarrier n x k ws → ⊥
no_barrier n x k ws walk.TooFew some fails barrier = fails (enough n x k ws barrier)
no_barrier n x k ws walk.Path some fails barrier = no_walk n x ws k fails.1 barrier
no_barrier n x k ws walk.Shared some fails barrier = no_share n x ws k some barrier fails.2

module _ (base : ℕ) (c : Plain) (k target : ℕ) (some : 1 ≤ k) where
  -- A drop that fails is not lawful.
  not_lawful : (labels : List (Option Label)) (drop : Drop) (why : DropWhy) → FailsBy why base c k target labels drop → IsLawfulDrop base c k target labels drop → ⊥
  not_lawful labels drop Order fails lawful = fails lawful.order
  not_lawful labels drop TooFew fails lawful = no_barrier (served base c labels (drop.arrival - 1)) (node_at drop.lag drop.gate) k drop.walks walk.TooFew some fails.1 lawful.barrier
  not_lawful labels drop Path fails lawful = no_barrier (served base c labels (drop.arrival - 1)) (node_at drop.lag drop.gate) k drop.walks walk.Path some fails.1 lawful.barrier
  not_lawful labels drop Shared fails lawful = no_barrier (served base c labels (drop.arrival - 1)) (node_at drop.lag drop.gate) k drop.walks walk.Shared some fails.1 lawful.barrier

  -- A walk that is missing is not there.
  missing : {T : Type 0} (n : Shape T) (x : T) (ws : List (List ℕ)) → HasNoWalk n x ws → Each (IsIndexWalk n x) ws → ⊥
  missing n x ws (w, stands, none) each = none (each_has (IsIndexWalk n x) ws each w stands)

  -- A drop fails by one test.
  one_why : (labels : List (Option Label)) (drop : Drop) (a b : DropWhy) → FailsBy a base c k target labels drop → FailsBy b base c k target labels drop → a ≡ b
  one_why labels drop Order Order f g = refl
  one_why labels drop Order TooFew f g = absurd (f g.0)
  one_why labels drop Order Path f g = absurd (f g.0)
  one_why labels drop Order Shared f g = absurd (f g.0)
  one_why labels drop TooFew Order f g = absurd (g f.0)
  one_why labels drop TooFew TooFew f g = refl
  one_why labels drop TooFew Path f g = absurd (f.1 g.1.0)
  one_why labels drop TooFew Shared f g = absurd (f.1 g.1.0)
  one_why labels drop Path Order f g = absurd (g f.0)
  one_why labels drop Path TooFew f g = absurd (g.1 f.1.0)
  one_why labels drop Path Path f g = refl
  one_why labels drop Path Shared f g = absurd (missing (served base c labels (drop.arrival - 1)) (node_at drop.lag drop.gate) drop.walks f.1.1 g.1.1)
  one_why labels drop Shared Order f g = absurd (g f.0)
  one_why labels drop Shared TooFew f g = absurd (g.1 f.1.0)
  one_why labels drop Shared Path f g = absurd (missing (served base c labels (drop.arrival - 1)) (node_at drop.lag drop.gate) drop.walks g.1.1 f.1.1)
  one_why labels drop Shared Shared f g = refl

  -- Each drop of a replay is lawful at its moment.
  lawful_at : (labels : List (Option Label)) (drops : List Drop) (upto place : ℕ) (drop : Drop) → place < upto → slice_get drops place ≡ Some drop
      → Replays base c k target labels (take upto drops) → IsLawfulDrop base c k target (labels_after target labels (take place drops)) drop
  lawful_at labels [] upto place drop early at replays = absurd (none place at)
    where
      none : (i : ℕ) → slice_get [] i ≡ Some drop → ⊥
      none zero is = cc
      none (suc i) is = cc
  lawful_at labels (first ∷ drops) zero place drop early at replays = absurd (omega arith)
  lawful_at labels (first ∷ drops) (suc upto) zero drop early at replays =
      let same : first ≡ drop = cc in
      subst (λ (x : Drop). IsLawfulDrop base c k target labels x) same replays.0
  lawful_at labels (first ∷ drops) (suc upto) (suc place) drop early at replays =
      lawful_at (lowered target labels first) drops upto place drop (omega arith) at replays.1

  module _ (d : ℕ) (drops : List Drop) where
    -- No drop that replays is a fault.
    none_before : (fault : DropFault) (upto : ℕ) (is : IsFirstFault base c k d target drops fault) → is.place < upto
        → Replays base c k target (first_labels c.drives d target) (take upto drops) → ⊥
    none_before fault upto is early replays =
        not_lawful (labels_after target (first_labels c.drives d target) (take is.place drops)) is.drop fault.why is.fails
        (lawful_at (first_labels c.drives d target) drops upto is.place is.drop early is.at replays)

    same_fault : (fault other : DropFault) → IsFirstFault base c k d target drops fault → IsFirstFault base c k d target drops other → fault ≡ other
    same_fault fault other f g =
        elim (cases_order f.place g.place) [
          | inr (inl less) ↦ absurd (none_before fault g.place f less g.before)
          | inr (inr more) ↦ absurd (none_before other f.place g more f.before)
          | inl same ↦
              let drop_is : f.drop ≡ g.drop = let here : Some f.drop ≡ Some g.drop = sym f.at ∙ ap (slice_get drops) same ∙ g.at in cc in
              let moved : FailsBy fault.why base c k target (labels_after target (first_labels c.drives d target) (take g.place drops)) g.drop =
              subst (λ (x : Drop). FailsBy fault.why base c k target (labels_after target (first_labels c.drives d target) (take g.place drops)) x) drop_is
              (subst (λ i. FailsBy fault.why base c k target (labels_after target (first_labels c.drives d target) (take i drops)) f.drop) same f.fails) in
              let entry : fault.entry ≡ other.entry = f.entry ∙ ap suc same ∙ sym g.entry in
              let why : fault.why ≡ other.why = one_why (labels_after target (first_labels c.drives d target) (take g.place drops)) g.drop fault.why other.why moved g.fails in
              λ i. record { entry = entry i; why = why i }
        ]

pub one_fault : (base : ℕ) (c : Plain) (k d target : ℕ) (drops : List Drop) → 1 ≤ k → HasOneFault base c k d target drops
one_fault base c k d target drops some = record {
  replayed_has_none = λ fault replays is. none_before base c k target some d drops fault (length drops) is (slice_get_within drops is.place is.drop is.at)
      (subst (λ (ds : List Drop). Replays base c k target (first_labels c.drives d target) ds) (sym (take_all (length drops) drops (omega arith))) replays);
  one = same_fault base c k target some d drops;
}
