-- Covers whose leaves are replaced by covers of them.
use Rattle.std.proofs.Common.{◌≡◌, inl, inr, true, false, List, [], ◌∷◌, ◌++◌, sym, subst}
use Rattle.std.specs.Prelude.{Contains}
use Rattle.tm_circuit.specs.Plain.{Drive}
use Rattle.tm_circuit.proofs.ListLemmas.{contains-first, contains-rest, contains-cases, contains-none}
use Rattle.tm_unroll.specs.declared.node.Node.{Node}
use Rattle.tm_unroll.specs.Nodes.{reads, is_end}
use Rattle.tm_unroll.specs.Walks.{IsWalk, LeadsTo, IsReached, MeetsLeaf, Covers}
use Rattle.tm_unroll.specs.Replaced.{HaveSameNodes, Replaces, ReplacesEach}
use Rattle.tm_unroll.proofs.ChoiceLemmas.{same_or_other}

-- The rest of a walk after one of its nodes is a walk from that node.
walk_after : (drives : List Drive) (walk : List Node) (x y : Node) → IsWalk drives x walk → Contains walk y
    → (rest : List Node) × IsWalk drives y rest × ((z : Node) → Contains rest z → Contains walk z)
walk_after drives [] x y walk stands = absurd (contains-none y stands)
walk_after drives (w ∷ rest) x y walk stands =
    elim (contains-cases w rest y stands) [
      | inl is ↦ (rest, subst (λ (v : Node). IsWalk drives v rest) is walk.1, contains-rest w rest)
      | inr later ↦ let more = walk_after drives rest w y walk.1 later in (more.0, more.1, λ z h. contains-rest w rest z (more.2 z h))
    ]

-- From a node over another one to a third.
leads_through : (drives : List Drive) (through more : List Node) (x y z : Node) → LeadsTo drives x through y → LeadsTo drives y more z
    → LeadsTo drives x (through ++ y ∷ more) z
leads_through drives [] more x y z first second = (first, second)
leads_through drives (w ∷ through) more x y z first second = (first.0, leads_through drives through more w y z first.1 second)

pub reached_through : (drives : List Drive) (x y z : Node) → IsReached drives x y → IsReached drives y z → IsReached drives x z
reached_through drives x y z first second = (first.0 ++ y ∷ second.0, leads_through drives first.0 second.0 x y z first.1 second.1)

pub each_replaced : (drives : List Drive) (leaves new : List Node) (x : Node) → Covers drives leaves x → ReplacesEach drives leaves new → Covers drives new x
each_replaced drives leaves new x covers replaces = record {
  met = λ walk is. let met = covers.met walk is in at_leaf walk is met.0 met.1 met.2;
  reached = λ z stands. elim (replaces.only z stands) [
    | inl leaf ↦ covers.reached z leaf
    | inr (y, leaf, way) ↦ reached_through drives x y z (covers.reached y leaf) way
  ];
}
  where
    at_leaf : (walk : List Node) → IsWalk drives x walk → (y : Node) → Contains walk y → Contains leaves y → MeetsLeaf new walk
    at_leaf walk is y stands leaf =
        elim (replaces.each y leaf) [
          | inl stays ↦ (y, stands, stays)
          | inr (others, cover, inside) ↦
              let after = walk_after drives walk x y is stands in
              let met = cover.met after.0 after.1 in
              (met.0, after.2 met.0 met.1, inside met.0 met.2)
        ]

pub one_replaced : (drives : List Drive) (leaves others new : List Node) (x y : Node) → Covers drives leaves x → Contains leaves y → Covers drives others y
    → Replaces leaves y others new → Covers drives new x
one_replaced drives leaves others new x y covers leaf cover replaces =
    each_replaced drives leaves new x covers record {
      each = λ z stands. elim (same_or_other z y) [
        | inl is ↦ inr (others, subst (λ (v : Node). Covers drives others v) (sym is) cover, λ w h. (replaces.nodes w).1 (inr h))
        | inr differs ↦ inl ((replaces.nodes z).1 (inl (stands, differs)))
      ];
      only = λ z stands. elim ((replaces.nodes z).0 stands) [
        | inl kept ↦ inl kept.0
        | inr other ↦ inr (y, leaf, cover.reached z other)
      ];
    }

pub same_covers : (drives : List Drive) (leaves new : List Node) (x : Node) → HaveSameNodes leaves new → Covers drives leaves x → Covers drives new x
same_covers drives leaves new x same covers =
    each_replaced drives leaves new x covers record { each = λ y leaf. inl ((same y).0 leaf); only = λ z stands. inl ((same z).1 stands) }

pub reads_cover : (drives : List Drive) (x : Node) → is_end drives x ≡ false → Covers drives (reads drives x) x
reads_cover drives x goes_on = record { met = met; reached = λ y read. ([], read) }
  where
    met : (walk : List Node) → IsWalk drives x walk → MeetsLeaf (reads drives x) walk
    met [] walk = let ends : is_end drives x ≡ true = walk in absurd cc
    met (y ∷ rest) walk = (y, contains-first y rest, walk.0)
