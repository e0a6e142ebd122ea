-- A barrier leaves no cover of at most k nodes that may be cut: each walk needs a node of its own.
use Rattle.std.proofs.Common.{◌≡◌, ℕ, ◌+◌, ◌≤◌, inl, inr, true, true≢false, List, [], ◌∷◌, length, refl, sym, ◌∙◌, arith}
use Rattle.tm_flow.specs.Lists.{Has, Each, AreApart}
use Rattle.tm_flow.specs.Nets.{Shape, IsIndexWalk, nodes_of}
use Rattle.tm_flow.specs.Cuts.{MeetsAllWalks, AreDisjoint, IsBarrier, BarrierExcludesCovers}
use Rattle.tm_flow.proofs.ListLemmas.{each_has, each_as, apart_within}

module _ {T : Type 0} (n : Shape T) (x : T) (nodes : List T)
    (may : (v : T) → Has nodes v → n.may_cut v ≡ true) (covers : MeetsAllWalks n x nodes) where
  -- one of the nodes for each walk, all of them different
  record Choice (ws : List (List ℕ)) : Type 0 where
    pub chosen : List T
    pub many : length chosen ≡ length ws
    pub apart : AreApart chosen
    pub among : Each (Has nodes) chosen
    pub on_walks : Each (λ v. (w : List ℕ) × Has ws w × Has (nodes_of n x w) v) chosen

  choice : (ws : List (List ℕ)) → Each (IsIndexWalk n x) ws → AreDisjoint n x ws → Choice ws
  choice [] walks disjoint = record { chosen = []; many = refl; apart = tt; among = tt; on_walks = tt }
  choice (w ∷ ws) walks disjoint =
      let rest : Choice ws = choice ws walks.1 disjoint.1 in
      let here : (v : T) × Has nodes v × Has (nodes_of n x w) v = covers w walks.0 in
      let OnWalks : List (List ℕ) → T → Type 0 = λ us v. (u : List ℕ) × Has us u × Has (nodes_of n x u) v in
      let new : Has rest.chosen here.0 → ⊥ =
      λ m. let other = each_has (OnWalks ws) rest.chosen rest.on_walks here.0 m in
      disjoint.0 other.0 here.0 other.1 (may here.0 here.1) here.2 other.2
      in record {
        chosen = here.0 ∷ rest.chosen;
        many = omega (arith, rest.many);
        apart = (new, rest.apart);
        among = (here.1, rest.among);
        on_walks = ((w, inl refl, here.2), each_as (OnWalks ws) (OnWalks (w ∷ ws)) (λ v o. (o.0, inr o.1, o.2)) rest.chosen rest.on_walks);
      }

  no_cover : (k : ℕ) (ws : List (List ℕ)) → IsBarrier n x k ws → length nodes ≤ k → ⊥
  no_cover k ws (inl free) few =
      let here = covers free.0 free.2.walk in
      true≢false (sym (may here.0 here.1) ∙ free.2.uncut here.0 here.2)
  no_cover k ws (inr many) few =
      let rest : Choice ws = choice ws many.1.walks many.1.disjoint in
      let at_most : length rest.chosen ≤ length nodes = apart_within rest.chosen nodes rest.apart rest.among in
      let e : length ws ≡ k + 1 = many.0 in
      let f : length rest.chosen ≡ length ws = rest.many in
      absurd (omega arith)

pub barrier_excludes_covers : {T : Type 0} (n : Shape T) → BarrierExcludesCovers n
barrier_excludes_covers n x k ws nodes barrier few may covers = no_cover n x nodes may covers k ws barrier few
