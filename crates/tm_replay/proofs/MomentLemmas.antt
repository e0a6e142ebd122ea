-- A replay moment by moment: one drop more, the first fault, and the end.
use Rattle.std.proofs.Common.{◌≡◌, ℕ, ◌+◌, ◌-◌, ◌<◌, ◌≤◌, List, [], ◌∷◌, ◌++◌, map, length, take, get_or, Option, None, Some, refl, sym, ◌∙◌, ap, subst, arith, Global}
use Rattle.std.specs.Prelude.{Vec, IsNone, IfSome, ◌↔◌}
use Rattle.std.specs.Option.{option_map}
use Rattle.std.proofs.lemmas.Option.{slice_get-map, slice_get_read}
use Rattle.std.proofs.lemmas.List.{map_push, length-map, length-set, take_more, take_all, take-map}
use Rattle.tm_circuit.specs.Plain.{Plain, drive_of, drive}
use Rattle.tm_circuit.specs.declared.parts.Driver.{Driver}
use Rattle.tm_flow.specs.Cuts.{IsBarrier}
use Rattle.tm_flow.specs.Judges.{IsWalkFault}
use Rattle.tm_flow.specs.declared.judge.WalkFault.{WalkFault}
use Rattle.tm_flow.specs.declared.judge.WalkFault.TheVariants as walk
use Rattle.tm_flow.specs.Nets.{Shape}
use Rattle.tm_flow.specs.Lists.{lists_in}
use Rattle.tm_unroll.specs.declared.node.Node.{Node}
use Rattle.tm_unroll.specs.Nodes.{node_at}
use Rattle.tm_replay.specs.declared.label.Label.{Label}
use Rattle.tm_replay.specs.declared.label.Lowering.{Lowering}
use Rattle.tm_replay.specs.declared.fault.DropWhy.{DropWhy}
use Rattle.tm_replay.specs.declared.fault.DropFault.{DropFault}
use Rattle.tm_replay.specs.Labels.{label_in, first_label, first_labels}
use Rattle.tm_replay.specs.Served.{served}
use Rattle.tm_replay.specs.Replays.{Drop, drop_of, IsInOrder, IsLawfulDrop, lowered, Replays, labels_after}
use Rattle.tm_replay.specs.Faults.{why_of, WalksFail, FailsBy, IsJudged, IsFirstFault}
use Rattle.tm_replay.specs.Moments.{IsMoment}
use Rattle.tm_replay.proofs.RefutationLemmas.{label_first}

-- One drop more at the end of a replay.
pub replays-push : (base : ℕ) (c : Plain) (k target : ℕ) (labels : List (Option Label)) (drops : List Drop) (drop : Drop) → Replays base c k target labels drops
    → IsLawfulDrop base c k target (labels_after target labels drops) drop → Replays base c k target labels (drops ++ drop ∷ [])
replays-push base c k target labels [] drop replays lawful = (lawful, tt)
replays-push base c k target labels (first ∷ drops) drop replays lawful =
    (replays.0, replays-push base c k target (lowered target labels first) drops drop replays.1 lawful)

pub labels_after-push : (target : ℕ) (labels : List (Option Label)) (drops : List Drop) (drop : Drop)
    → labels_after target labels (drops ++ drop ∷ []) ≡ lowered target (labels_after target labels drops) drop
labels_after-push target labels [] drop = refl
labels_after-push target labels (first ∷ drops) drop = labels_after-push target (lowered target labels first) drops drop

-- A drop whose walks are judged.
pub judged : (base : ℕ) (c : Plain) (k target : ℕ) (labels : List (Option Label)) (drop : Drop) (fault : Option WalkFault) → IsInOrder c.drives target labels drop
    → (IsNone fault ↔ IsBarrier (served base c labels (drop.arrival - 1)) (node_at drop.lag drop.gate) k drop.walks)
    → IfSome fault (IsWalkFault (served base c labels (drop.arrival - 1)) (node_at drop.lag drop.gate) k drop.walks)
    → IsJudged base c k target labels drop (option_map why_of fault)
judged base c k target labels drop None order barrier walks = record { order = order; barrier = barrier.0 refl }
judged base c k target labels drop (Some f) order barrier walks = by_fault f walks
  where
    by_fault : (g : WalkFault) → WalksFail g base c k labels drop → FailsBy (why_of g) base c k target labels drop
    by_fault walk.TooFew fails = (order, fails)
    by_fault walk.Path fails = (order, fails)
    by_fault walk.Shared fails = (order, fails)

module _ (base : ℕ) (c : Plain) (k d target : ℕ) (lowerings : List Lowering) where
  pub moment_first : (labels : List (Option Label)) → labels ≡ first_labels c.drives d target → IsMoment base c k d target (map drop_of lowerings) 0 labels
  moment_first labels is = record {
    sized = ap length is ∙ length-map c.drives (first_label d target);
    replays = tt;
    led = is;
  }

  drop_at : (place : ℕ) (lowering : Lowering) → place < length lowerings → lowering ≡ get_or lowerings place lowering
      → take (place + 1) (map drop_of lowerings) ≡ take place (map drop_of lowerings) ++ drop_of lowering ∷ []
  drop_at place lowering within at =
      let here : take (place + 1) lowerings ≡ take place lowerings ++ lowering ∷ [] =
      take_more lowerings place lowering within ∙ ap (λ (l : Lowering). take place lowerings ++ l ∷ []) (sym at) in
      take-map drop_of (place + 1) lowerings ∙ ap (map drop_of) here ∙ map_push drop_of (take place lowerings) lowering
      ∙ ap (λ (ds : List Drop). ds ++ drop_of lowering ∷ []) (sym (take-map drop_of place lowerings))

  pub moment_more : (place : ℕ) (labels next : List (Option Label)) (lowering : Lowering) → place < length lowerings → lowering ≡ get_or lowerings place lowering
      → IsMoment base c k d target (map drop_of lowerings) place labels → IsLawfulDrop base c k target labels (drop_of lowering)
      → next ≡ lowered target labels (drop_of lowering) → IsMoment base c k d target (map drop_of lowerings) (place + 1) next
  moment_more place labels next lowering within at moment lawful is =
      let more = drop_at place lowering within at in
      let after = labels_after-push target (first_labels c.drives d target) (take place (map drop_of lowerings)) (drop_of lowering) in
      record {
        sized = ap length is ∙ length-set labels lowering.gate _ ∙ moment.sized;
        replays = subst (λ (ds : List Drop). Replays base c k target (first_labels c.drives d target) ds) (sym more)
            (replays-push base c k target (first_labels c.drives d target) (take place (map drop_of lowerings)) (drop_of lowering) moment.replays
            (subst (λ (ls : List (Option Label)). IsLawfulDrop base c k target ls (drop_of lowering)) moment.led lawful));
        led = is ∙ ap (λ (ls : List (Option Label)). lowered target ls (drop_of lowering)) moment.led ∙ sym after ∙ ap (labels_after target (first_labels c.drives d target)) (sym more);
      }

  pub moment_fails : (place : ℕ) (labels : List (Option Label)) (lowering : Lowering) (fault : DropFault) → place < length lowerings
      → lowering ≡ get_or lowerings place lowering → IsMoment base c k d target (map drop_of lowerings) place labels
      → FailsBy fault.why base c k target labels (drop_of lowering) → fault.entry ≡ place + 1 → IsFirstFault base c k d target (map drop_of lowerings) fault
  moment_fails place labels lowering fault within at moment fails entry = record {
    place = place;
    drop = drop_of lowering;
    entry = omega (arith, entry);
    at = slice_get-map drop_of lowerings place ∙ ap (option_map drop_of) (slice_get_read lowerings (length lowerings) place lowering refl within at);
    before = moment.replays;
    fails = subst (λ (ls : List (Option Label)). FailsBy fault.why base c k target ls (drop_of lowering)) moment.led fails;
  }

  pub moment_last : (place : ℕ) (labels : List (Option Label)) → length lowerings ≤ place → IsMoment base c k d target (map drop_of lowerings) place labels
      → Replays base c k target (first_labels c.drives d target) (map drop_of lowerings) × (labels ≡ labels_after target (first_labels c.drives d target) (map drop_of lowerings))
  moment_last place labels past moment =
      let same = length-map lowerings drop_of in
      let all : take place (map drop_of lowerings) ≡ map drop_of lowerings = take_all place (map drop_of lowerings) (omega (arith, same, past)) in (
        subst (λ (ds : List Drop). Replays base c k target (first_labels c.drives d target) ds) all moment.replays,
        moment.led ∙ ap (labels_after target (first_labels c.drives d target)) all,
      )

-- The first labels one signal further.
pub first_more : (c : Plain) (d target s : ℕ) (labels : List (Option Label)) (x : Option Label) (driver : Driver) → s < length c.drives → drive c s ≡ drive_of driver
    → labels ≡ take s (first_labels c.drives d target) → x ≡ first_label d target (drive_of driver)
    → labels ++ x ∷ [] ≡ take (s + 1) (first_labels c.drives d target)
first_more c d target s labels x driver within drive_is so_far is =
    let few : s < length (first_labels c.drives d target) = let same = length-map c.drives (first_label d target) in omega (arith, same, within) in
    let here : label_in (first_labels c.drives d target) s ≡ x = label_first d target c.drives s ∙ ap (first_label d target) drive_is ∙ sym is in
    sym (take_more (first_labels c.drives d target) s None few ∙ ap (λ (y : Option Label). take s (first_labels c.drives d target) ++ y ∷ []) here
    ∙ ap (λ (ls : List (Option Label)). ls ++ x ∷ []) (sym so_far))

-- The net and the root of a drop.
abbrev net_of : ℕ → Plain → List (Option Label) → Lowering → Shape Node
net_of base c labels lowering = served base c labels (lowering.arrival - 1)

abbrev root_of : Lowering → Node
root_of lowering = node_at lowering.lag lowering.gate

-- A drop whose walks are judged, as the code names its parts.
pub judged_at : (base : ℕ) (c : Plain) (k most target : ℕ) (labels : List (Option Label)) (lowering : Lowering) (walks : List (Vec ℕ Global)) (fault : Option WalkFault)
    → IsInOrder c.drives target labels (drop_of lowering) → most ≡ k → walks ≡ lowering.walks.items
    → (IsNone fault ↔ IsBarrier (served base c labels (lowering.arrival - 1)) (node_at lowering.lag lowering.gate) most (lists_in walks))
    → IfSome fault (IsWalkFault (served base c labels (lowering.arrival - 1)) (node_at lowering.lag lowering.gate) most (lists_in walks))
    → IsJudged base c k target labels (drop_of lowering) (option_map why_of fault)
judged_at base c k most target labels lowering walks fault order same are barrier fails =
    judged base c k target labels (drop_of lowering) fault order
    (subst (λ n. IsNone fault ↔ IsBarrier (net_of base c labels lowering) (root_of lowering) n (lists_in lowering.walks.items)) same (subst (λ (ws : List (Vec ℕ Global)). IsNone fault ↔ IsBarrier (net_of base c labels lowering) (root_of lowering) most (lists_in ws)) are barrier))
    (subst (λ n. IfSome fault (IsWalkFault (net_of base c labels lowering) (root_of lowering) n (lists_in lowering.walks.items))) same (subst (λ (ws : List (Vec ℕ Global)). IfSome fault (IsWalkFault (net_of base c labels lowering) (root_of lowering) most (lists_in ws))) are fails))

-- What an answer says, where the labels are known by another name.
pub failed : (base : ℕ) (c : Plain) (k target : ℕ) (given labels : List (Option Label)) (drop : Drop) (answer : Option DropWhy) (why : DropWhy)
    → IsJudged base c k target given drop answer → given ≡ labels → answer ≡ Some why → FailsBy why base c k target labels drop
failed base c k target given labels drop answer why judged same is =
    subst (λ (ls : List (Option Label)). FailsBy why base c k target ls drop) same (subst (λ (a : Option DropWhy). IsJudged base c k target given drop a) is judged)

pub passed : (base : ℕ) (c : Plain) (k target : ℕ) (given labels : List (Option Label)) (drop : Drop) (answer : Option DropWhy)
    → IsJudged base c k target given drop answer → given ≡ labels → answer ≡ None → IsLawfulDrop base c k target labels drop
passed base c k target given labels drop answer judged same is =
    subst (λ (ls : List (Option Label)). IsLawfulDrop base c k target ls drop) same (subst (λ (a : Option DropWhy). IsJudged base c k target given drop a) is judged)
