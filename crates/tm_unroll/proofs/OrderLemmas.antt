-- The order of nodes is total, and any nodes can be put in order.
use Rattle.std.proofs.Common.{◌≡◌, ◌⊎◌, inl, inr, List, [], ◌∷◌, get_or, sym, subst, arith}
use Rattle.std.specs.Prelude.{Contains, AllPairs}
use Rattle.std.proofs.lemmas.Bool.{cases_order}
use Rattle.std.proofs.lemmas.List.Elements.{Contains-get_or}
use Rattle.std.proofs.lemmas.List.Kept.{AllPairs-cons}
use Rattle.tm_circuit.proofs.ListLemmas.{contains-first, contains-rest, contains-cases}
use Rattle.tm_unroll.specs.declared.node.Node.{Node}
use Rattle.tm_unroll.specs.Nodes.{IsBefore}
use Rattle.tm_unroll.specs.Replaced.{HaveSameNodes}
use Rattle.tm_unroll.proofs.ListLemmas.{pairs_rest, pairs_first, before-through}
use Rattle.tm_unroll.proofs.ReadLemmas.{same_node}

-- Two nodes are one, or one stands before the other.
pub node_order : (x y : Node) → IsBefore x y ⊎ ((x ≡ y) ⊎ IsBefore y x)
node_order x y =
    elim (cases_order x.signal y.signal) [
      | inl signal ↦ elim (cases_order x.advance y.advance) [
        | inl advance ↦ inr (inl (same_node x y signal advance))
        | inr (inl less) ↦ inl (inr (signal, less))
        | inr (inr more) ↦ inr (inr (inr (sym signal, more)))
      ]
      | inr (inl less) ↦ inl (inl less)
      | inr (inr more) ↦ inr (inr (inl more))
    ]

-- Ascending nodes with one more.
record HasOneMore (x : Node) (old new : List Node) : Type 0 where
  ascending : AllPairs IsBefore new
  from : (z : Node) → Contains new z → (x ≡ z) ⊎ Contains old z
  here : Contains new x
  kept : (z : Node) → Contains old z → Contains new z

one_more : (x : Node) (old : List Node) → AllPairs IsBefore old → (new : List Node) × HasOneMore x old new
one_more x [] pairs = (
  x ∷ [],
  record {
    ascending = λ i j d before inside. absurd (omega arith);
    from = contains-cases x [];
    here = contains-first x [];
    kept = contains-rest x [];
  },
)
one_more x (y ∷ old) pairs = elim (node_order x y) [
  | inl before ↦ (
    x ∷ y ∷ old,
    record {
      ascending = AllPairs-cons IsBefore x (y ∷ old) (λ k d inside. first before (get_or (y ∷ old) k d) (Contains-get_or (y ∷ old) k d inside)) pairs;
      from = contains-cases x (y ∷ old);
      here = contains-first x (y ∷ old);
      kept = contains-rest x (y ∷ old);
    },
  )
  | inr (inl same) ↦ (
    y ∷ old,
    record {
      ascending = pairs;
      from = λ z stands. inr stands;
      here = subst (λ (v : Node). Contains (y ∷ old) v) (sym same) (contains-first y old);
      kept = λ z stands. stands;
    },
  )
  | inr (inr after) ↦
      let more = one_more x old (pairs_rest IsBefore y old pairs) in
      let has = more.1 in (
        y ∷ more.0,
        record {
          ascending = AllPairs-cons IsBefore y more.0 (λ k d inside. later after (has.from (get_or more.0 k d) (Contains-get_or more.0 k d inside))) has.ascending;
          from = λ z stands. elim (contains-cases y more.0 z stands) [
            | inl is ↦ inr (subst (λ (v : Node). Contains (y ∷ old) v) is (contains-first y old))
            | inr rest ↦ elim (has.from z rest) [ inl new ↦ inl new | inr older ↦ inr (contains-rest y old z older) ]
          ];
          here = contains-rest y more.0 x has.here;
          kept = λ z stands. elim (contains-cases y old z stands) [
            | inl is ↦ subst (λ (v : Node). Contains (y ∷ more.0) v) is (contains-first y more.0)
            | inr rest ↦ contains-rest y more.0 z (has.kept z rest)
          ];
        },
      )
]
  where
    first : IsBefore x y → (z : Node) → Contains (y ∷ old) z → IsBefore x z
    first before z stands =
        elim (contains-cases y old z stands) [
          | inl is ↦ subst (λ (v : Node). IsBefore x v) is before
          | inr rest ↦ before-through x y z before (pairs_first IsBefore y old pairs z rest)
        ]

    later : IsBefore y x → {z : Node} → (x ≡ z) ⊎ Contains old z → IsBefore y z
    later after (inl is) = subst (λ (v : Node). IsBefore y v) is after
    later after {z} (inr older) = pairs_first IsBefore y old pairs z older

-- Any nodes in order, each once.
pub in_order : (nodes : List Node) → (ordered : List Node) × AllPairs IsBefore ordered × HaveSameNodes ordered nodes
in_order [] = ([], λ i j d before inside. absurd (omega arith), λ z. ((λ stands. stands), (λ stands. stands)))
in_order (x ∷ nodes) =
    let rest = in_order nodes in
    let more = one_more x rest.0 rest.1 in
    let has = more.1 in (
      more.0,
      has.ascending,
      λ z. (
        λ stands. elim (has.from z stands) [
          | inl is ↦ subst (λ (v : Node). Contains (x ∷ nodes) v) is (contains-first x nodes)
          | inr older ↦ contains-rest x nodes z ((rest.2 z).0 older)
        ],
        λ stands. elim (contains-cases x nodes z stands) [
          | inl is ↦ subst (λ (v : Node). Contains more.0 v) is has.here
          | inr later ↦ has.kept z ((rest.2 z).1 later)
        ],
      ),
    )
