-- Walks that are known before a search are walks of the net that is searched: what may be cut makes no difference to walks.
use Rattle.std.proofs.Common.{◌≡◌, ℕ, ◌+◌, ◌-◌, ◌<◌, inl, inr, List, [], ◌∷◌, ◌++◌, length, take, get_or, Option, sym, ◌∙◌, ap, subst, Global}
use Rattle.std.specs.Prelude.{Vec, slice_index_or}
use Rattle.std.proofs.lemmas.List.{map_push, take_more, take-map}
use Rattle.tm_circuit.specs.Plain.{Plain}
use Rattle.tm_flow.specs.Lists.{Each, lists_in}
use Rattle.tm_flow.specs.Nets.{IsIndexWalk}
use Rattle.tm_flow.specs.Cuts.{IsBarrier}
use Rattle.tm_unroll.specs.declared.node.Node.{Node}
use Rattle.tm_unroll.specs.Nodes.{node_at, reads}
use Rattle.tm_replay.specs.declared.label.Label.{Label}
use Rattle.tm_replay.specs.Replays.{Drop}
use Rattle.tm_replay.specs.Served.{served}
use Rattle.tm_labels.specs.Steps.{HaveBarriers, AreKnown}

-- Vectors that hold the first lists, and one more.
pub lists_more : (walks old new : List (Vec ℕ Global)) (i : ℕ) (w v : Vec ℕ Global) → i < length walks → w ≡ get_or walks i w → lists_in old ≡ take i (lists_in walks) → v.items ≡ w.items
    → new ≡ old ++ v ∷ [] → lists_in new ≡ take (i + 1) (lists_in walks)
lists_more walks old new i w v within at before same pushed =
    ap lists_in pushed ∙ map_push (λ (x : Vec ℕ Global). x.items) old v ∙ ap (λ (ls : List (List ℕ)). ls ++ v.items ∷ []) before ∙ ap (λ (l : List ℕ). take i (lists_in walks) ++ l ∷ []) same
    ∙ ap (λ (ls : List (List ℕ)). ls ++ w.items ∷ []) (take-map (λ (x : Vec ℕ Global). x.items) i walks) ∙ sym (map_push (λ (x : Vec ℕ Global). x.items) (take i walks) w)
    ∙ ap lists_in (ap (λ (x : Vec ℕ Global). take i walks ++ x ∷ []) at ∙ sym (take_more walks i w within)) ∙ sym (take-map (λ (x : Vec ℕ Global). x.items) (i + 1) walks)

module _ (base : ℕ) (c : Plain) (labels : List (Option Label)) (before within : ℕ) where
  walk_stays : (x : Node) (w : List ℕ) → IsIndexWalk (served base c labels before) x w → IsIndexWalk (served base c labels within) x w
  walk_stays x [] walk = walk
  walk_stays x (i ∷ w) walk = (walk.0, walk_stays (slice_index_or (reads c.drives x) i x) w walk.1)

  walks_stay : (x : Node) (ws : List (List ℕ)) → Each (IsIndexWalk (served base c labels before) x) ws → Each (IsIndexWalk (served base c labels within) x) ws
  walks_stay x [] walks = tt
  walks_stay x (w ∷ ws) walks = (walk_stays x w walks.0, walks_stay x ws walks.1)

  barrier_walks : (x : Node) (k : ℕ) (ws : List (List ℕ)) → IsBarrier (served base c labels before) x k ws → Each (IsIndexWalk (served base c labels within) x) ws
  barrier_walks x k ws (inl free) =
      subst (λ (vs : List (List ℕ)). Each (IsIndexWalk (served base c labels within) x) vs) (sym free.1) (walk_stays x free.0 free.2.walk, tt)
  barrier_walks x k ws (inr flow) = walks_stay x ws flow.1.walks

-- The walks of a drop of a node are walks from it, whatever number decides what may be cut.
pub known_are_walks : (base : ℕ) (c : Plain) (k : ℕ) (labels : List (Option Label)) (drops : List Drop) (within : ℕ) (x : Node) (walks : List (List ℕ)) → HaveBarriers base c k labels drops
    → AreKnown drops x walks → Each (IsIndexWalk (served base c labels within) x) walks
known_are_walks base c k labels drops within x walks have (inl none) =
    subst (λ (ws : List (List ℕ)). Each (IsIndexWalk (served base c labels within) x) ws) (sym none) tt
known_are_walks base c k labels drops within x walks have (inr known) =
    let drop = known.0 in
    let here : Node = node_at drop.lag drop.gate in
    subst (λ (y : Node). Each (IsIndexWalk (served base c labels within) y) walks) known.2
    (subst (λ (ws : List (List ℕ)). Each (IsIndexWalk (served base c labels within) here) ws) (sym known.3)
    (barrier_walks base c labels (drop.arrival - 1) within here k drop.walks (have drop known.1)))
