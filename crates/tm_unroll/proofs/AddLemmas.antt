-- Nodes that are added to ascending ones, and leaves replaced in this way.
use Rattle.std.proofs.Common.{◌≡◌, ◌≢◌, ◌↔◌, ℕ, suc, ◌+◌, ◌<◌, ◌≤◌, ◌⊎◌, inl, inr, Bool, true, false, List, [], ◌∷◌, ◌++◌, length, get_or, take, drop, Option, Some, None, refl, sym, ◌∙◌, ap, subst, arith}
use Rattle.std.specs.Prelude.{Contains, AllPairs, MatchBool, insert}
use Rattle.std.proofs.lemmas.List.{take-append-drop, take_more, take_all, drop_more, length-drop}
use Rattle.std.proofs.lemmas.List.Edits.{length-insert}
use Rattle.std.proofs.lemmas.List.Elements.{Contains-get_or, Contains-append_left, Contains-append_right, Contains-append_cases}
use Rattle.std.proofs.lemmas.List.Kept.{AllPairs-cons}
use Rattle.tm_circuit.proofs.ListLemmas.{contains-first, contains-rest, contains-cases, contains-none}
use Rattle.tm_unroll.specs.declared.node.Node.{Node}
use Rattle.tm_unroll.specs.Nodes.{IsBefore}
use Rattle.tm_unroll.specs.Replaced.{IsInOrder, IsReplacement, ReplacesBeyond, Joins, JoinsBeyond, IsTaken, PartsAt}
use Rattle.tm_unroll.proofs.ListLemmas.{fits, apart_from_pairs, pairs_rest, pairs_first, before-never, before-through}
use Rattle.tm_unroll.proofs.OrderLemmas.{node_order}

-- ---- pairs of lists joined

pub pairs-join : {A : Type 0} (R : A → A → Type 0) (xs ys : List A) → AllPairs R xs → AllPairs R ys → ((x y : A) → Contains xs x → Contains ys y → R x y)
    → AllPairs R (xs ++ ys)
pairs-join R [] ys first second across = second
pairs-join {A} R (x ∷ xs) ys first second across =
    AllPairs-cons R x (xs ++ ys) (λ k d inside. elim (Contains-append_cases xs ys (get_or (xs ++ ys) k d) (Contains-get_or (xs ++ ys) k d inside)) [
      | inl here ↦ pairs_first R x xs first (get_or (xs ++ ys) k d) here
      | inr there ↦ across x (get_or (xs ++ ys) k d) (contains-first x xs) there
    ]) (pairs-join R xs ys (pairs_rest R x xs first) second (λ u v here there. across u v (contains-rest x xs u here) there))

record ArePairsOf {A : Type 0} (R : A → A → Type 0) (xs ys : List A) : Type 0 where
  first : AllPairs R xs
  second : AllPairs R ys
  across : (x y : A) → Contains xs x → Contains ys y → R x y

pairs-split : {A : Type 0} (R : A → A → Type 0) (xs ys : List A) → AllPairs R (xs ++ ys) → ArePairsOf R xs ys
pairs-split R [] ys pairs = record { first = λ i j d before inside. absurd (omega arith); second = pairs; across = λ x y none there. absurd (contains-none x none) }
pairs-split {A} R (x ∷ xs) ys pairs =
    let ih = pairs-split R xs ys (pairs_rest R x (xs ++ ys) pairs) in
    let each : (y : A) → Contains (xs ++ ys) y → R x y = pairs_first R x (xs ++ ys) pairs in
    record {
      first = AllPairs-cons R x xs (λ k d inside. each (get_or xs k d) (Contains-append_left xs ys (get_or xs k d) (Contains-get_or xs k d inside))) ih.first;
      second = ih.second;
      across = λ u v here there. elim (contains-cases x xs u here) [
        | inl is ↦ subst (λ (w : A). R w v) is (each v (Contains-append_right xs ys v there))
        | inr later ↦ ih.across u v later there
      ];
    }

-- A node that is neither before another one nor the same stands after it.
after_or_same : (x y : Node) → (¬ IsBefore x y) → (x ≢ y) → IsBefore y x
after_or_same x y never differs = elim (node_order x y) [ inl before ↦ absurd (never before) | inr (inl same) ↦ absurd (differs same) | inr (inr after) ↦ after ]

-- ---- the place of a node among ascending ones

pub parts_here : (nodes : List Node) (place : ℕ) (x other : Node) → AllPairs IsBefore nodes → place < length nodes → other ≡ get_or nodes place other
    → ((y : Node) → Contains (take place nodes) y → IsBefore y x) → (¬ IsBefore other x) → PartsAt nodes x place
parts_here nodes place x other pairs inside is front never = record {
  within = omega arith;
  front = front;
  back = λ y stands before. elim (contains-cases other (drop (place + 1) nodes) y (subst (λ (l : List Node). Contains l y) rest stands)) [
    | inl same ↦ never (subst (λ (v : Node). IsBefore v x) (sym same) before)
    | inr later ↦ never (before-through other y x (pairs_first IsBefore other (drop (place + 1) nodes) (subst (λ (l : List Node). AllPairs IsBefore l) rest behind) y later) before)
  ];
}
  where
    rest : drop place nodes ≡ other ∷ drop (place + 1) nodes
    rest = drop_more nodes place other inside ∙ ap (λ (v : Node). v ∷ drop (place + 1) nodes) (sym is)

    behind : AllPairs IsBefore (drop place nodes)
    behind = (pairs-split IsBefore (take place nodes) (drop place nodes) (subst (λ (l : List Node). AllPairs IsBefore l) (sym (take-append-drop place nodes)) pairs)).second

pub parts_end : (nodes : List Node) (place : ℕ) (x : Node) → length nodes ≤ place → ((y : Node) → Contains (take place nodes) y → IsBefore y x)
    → PartsAt nodes x (length nodes)
parts_end nodes place x past front = record {
  within = omega arith;
  front = λ y stands. front y (subst (λ (l : List Node). Contains l y) (take_all (length nodes) nodes (omega arith) ∙ sym (take_all place nodes past)) stands);
  back = λ y stands before. let none = length-drop (length nodes) nodes in omega (arith, none, stands.1);
}

-- ---- one node is added

pub joins_none : (added : Node → Type 0) (k : ℕ) (old : List Node) → AllPairs IsBefore old → length old ≤ k → ((z : Node) → added z → Contains old z) → Joins added k old old
joins_none added k old pairs few inside = record {
  ascending = pairs;
  few = few;
  nodes = λ z. (λ stands. inl stands, λ from. elim from [ inl stands ↦ stands | inr new ↦ inside z new ]);
}

pub joins_beyond : (added : Node → Type 0) (k : ℕ) (old : List Node) (x : Node) → AllPairs IsBefore old → k ≤ length old → (¬ Contains old x) → added x
    → JoinsBeyond added k old
joins_beyond added k old x pairs full never new all has =
    let more : suc (length old) ≤ length all = fits (x ∷ old) all (never, apart_from_pairs IsBefore old before-never pairs) (λ z stands.
    elim (contains-cases x old z stands) [
      | inl is ↦ subst (λ (v : Node). Contains all v) is (has x (inr new))
      | inr older ↦ has z (inl older)
    ]) in
    omega arith

pub joins_one : (added : Node → Type 0) (k place : ℕ) (old : List Node) (x : Node) → AllPairs IsBefore old → length old < k → (¬ Contains old x) → PartsAt old x place
    → ((z : Node) → added z ↔ (x ≡ z)) → Joins added k old (insert old place x)
joins_one added k place old x pairs room never parts only = record {
  ascending = pairs-join IsBefore (take place old) (x ∷ drop place old) split.first (AllPairs-cons IsBefore x (drop place old) (λ i d inside. later (get_or (drop place old) i d) (Contains-get_or (drop place old) i d inside)) split.second) across;
  few = let longer = length-insert old place x parts.within in omega (arith, longer);
  nodes = λ z. (from z, to z);
}
  where
    seam : take place old ++ drop place old ≡ old
    seam = take-append-drop place old

    split : ArePairsOf IsBefore (take place old) (drop place old)
    split = pairs-split IsBefore (take place old) (drop place old) (subst (λ (l : List Node). AllPairs IsBefore l) (sym seam) pairs)

    in_old : (z : Node) → Contains (drop place old) z → Contains old z
    in_old z stands = subst (λ (l : List Node). Contains l z) seam (Contains-append_right (take place old) (drop place old) z stands)

    later : (y : Node) → Contains (drop place old) y → IsBefore x y
    later y stands = after_or_same y x (parts.back y stands) (λ e. never (subst (λ (v : Node). Contains old v) e (in_old y stands)))

    across : (u v : Node) → Contains (take place old) u → Contains (x ∷ drop place old) v → IsBefore u v
    across u v here there =
        elim (contains-cases x (drop place old) v there) [
          | inl is ↦ subst (λ (w : Node). IsBefore u w) is (parts.front u here)
          | inr behind ↦ split.across u v here behind
        ]

    from : (z : Node) → Contains (insert old place x) z → Contains old z ⊎ added z
    from z stands =
        elim (Contains-append_cases (take place old) (x ∷ drop place old) z stands) [
          | inl front ↦ inl (subst (λ (l : List Node). Contains l z) seam (Contains-append_left (take place old) (drop place old) z front))
          | inr back ↦ elim (contains-cases x (drop place old) z back) [ inl is ↦ inr ((only z).1 is) | inr behind ↦ inl (in_old z behind) ]
        ]

    at_back : (z : Node) → Contains (x ∷ drop place old) z → Contains (insert old place x) z
    at_back z stands = Contains-append_right (take place old) (x ∷ drop place old) z stands

    to : (z : Node) → Contains old z ⊎ added z → Contains (insert old place x) z
    to z (inr new) = at_back z (subst (λ (v : Node). Contains (x ∷ drop place old) v) ((only z).0 new) (contains-first x (drop place old)))
    to z (inl older) =
        elim (Contains-append_cases (take place old) (drop place old) z (subst (λ (l : List Node). Contains l z) (sym seam) older)) [
          | inl front ↦ Contains-append_left (take place old) (x ∷ drop place old) z front
          | inr back ↦ at_back z (contains-rest x (drop place old) z back)
        ]

-- What is taken of a list with one node.
pub taken_one : (but : Option Node) (x : Node) → (but ≢ Some x) → (z : Node) → IsTaken but (x ∷ []) z ↔ (x ≡ z)
taken_one but x differs z = (
  λ taken. elim (contains-cases x [] z taken.0) [ inl is ↦ is | inr none ↦ absurd (contains-none z none) ],
  λ is. (subst (λ (v : Node). Contains (x ∷ []) v) is (contains-first x []), subst (λ (v : Node). but ≢ Some v) is differs),
)

-- ---- the nodes of a list are added, one after another

pub joins_more : (but : Option Node) (nodes : List Node) (i : ℕ) (x : Node) (k : ℕ) (old now new : List Node) → i < length nodes → x ≡ get_or nodes i x
    → Joins (IsTaken but (take i nodes)) k old now → Joins (IsTaken but (x ∷ [])) k now new → Joins (IsTaken but (take (i + 1) nodes)) k old new
joins_more but nodes i x k old now new inside is before one = record {
  ascending = one.ascending;
  few = one.few;
  nodes = λ z. (from z, to z);
}
  where
    more : take (i + 1) nodes ≡ take i nodes ++ x ∷ []
    more = take_more nodes i x inside ∙ ap (λ v. take i nodes ++ v ∷ []) (sym is)

    from_now : (z : Node) → Contains old z ⊎ IsTaken but (take i nodes) z → Contains old z ⊎ IsTaken but (take (i + 1) nodes) z
    from_now z (inl older) = inl older
    from_now z (inr taken) = inr (subst (λ (l : List Node). Contains l z) (sym more) (Contains-append_left (take i nodes) (x ∷ []) z taken.0), taken.1)

    from : (z : Node) → Contains new z → Contains old z ⊎ IsTaken but (take (i + 1) nodes) z
    from z stands =
        elim ((one.nodes z).0 stands) [
          | inl earlier ↦ from_now z ((before.nodes z).0 earlier)
          | inr taken ↦ inr (subst (λ (l : List Node). Contains l z) (sym more) (Contains-append_right (take i nodes) (x ∷ []) z taken.0), taken.1)
        ]

    to : (z : Node) → Contains old z ⊎ IsTaken but (take (i + 1) nodes) z → Contains new z
    to z (inl older) = (one.nodes z).1 (inl ((before.nodes z).1 (inl older)))
    to z (inr taken) =
        elim (Contains-append_cases (take i nodes) (x ∷ []) z (subst (λ (l : List Node). Contains l z) more taken.0)) [
          | inl earlier ↦ (one.nodes z).1 (inl ((before.nodes z).1 (inr (earlier, taken.1))))
          | inr here ↦ (one.nodes z).1 (inr (here, taken.1))
        ]

pub beyond_more : (but : Option Node) (nodes : List Node) (i : ℕ) (x : Node) (k : ℕ) (old now : List Node) → i < length nodes → x ≡ get_or nodes i x
    → Joins (IsTaken but (take i nodes)) k old now → JoinsBeyond (IsTaken but (x ∷ [])) k now → JoinsBeyond (IsTaken but nodes) k old
beyond_more but nodes i x k old now inside is before beyond all has = beyond all (λ z from. elim from [
  | inl earlier ↦ has z (elim ((before.nodes z).0 earlier) as (λ _. Contains old z ⊎ IsTaken but nodes z) [ inl older ↦ inl older | inr taken ↦ inr (in_nodes z taken.0, taken.1) ])
  | inr taken ↦ elim (contains-cases x [] z taken.0) [
    | inl same ↦ has z (inr (subst (λ (v : Node). Contains nodes v) same (i, inside, sym is), taken.1))
    | inr none ↦ absurd (contains-none z none)
  ]
])
  where
    in_nodes : (z : Node) → Contains (take i nodes) z → Contains nodes z
    in_nodes z stands = subst (λ (l : List Node). Contains l z) (take-append-drop i nodes) (Contains-append_left (take i nodes) (drop i nodes) z stands)

-- The nodes so far are added, and where there was room for k the capacity is the same.
pub record HasAdded (added : Node → Type 0) (k room now_room : ℕ) (old now : List Node) : Type 0 where
  pub joins : Joins added k old now
  pub capacity : k ≤ room → now_room ≡ room

pub joins_first : (but : Option Node) (nodes : List Node) (k : ℕ) (old : List Node) → AllPairs IsBefore old → length old ≤ k → Joins (IsTaken but (take 0 nodes)) k old old
joins_first but nodes k old pairs few = joins_none (IsTaken but (take 0 nodes)) k old pairs few (λ z taken. absurd (contains-none z taken.0))

pub joins_all : (but : Option Node) (nodes : List Node) (i k : ℕ) (old new : List Node) → length nodes ≤ i → Joins (IsTaken but (take i nodes)) k old new
    → Joins (IsTaken but nodes) k old new
joins_all but nodes i k old new past joins = subst (λ (l : List Node). Joins (IsTaken but l) k old new) (take_all i nodes past) joins

-- ---- all nodes of a list in order

none_left_out : (but : Option Node) (z : Node) → but ≡ None → but ≢ Some z
none_left_out but z none e = cc

not_beyond : (nodes : List Node) → ¬ JoinsBeyond (IsTaken None nodes) (length nodes) []
not_beyond nodes beyond =
    let more = beyond nodes (λ z from. elim from [ inl none ↦ absurd (contains-none z none) | inr taken ↦ taken.0 ]) in
    omega (arith, more)

ordered : (nodes new : List Node) → Joins (IsTaken None nodes) (length nodes) [] new → IsInOrder nodes new
ordered nodes new joins = record {
  ascending = joins.ascending;
  few = joins.few;
  same = λ z. (
    λ stands. (joins.nodes z).1 (inr (stands, none_left_out None z refl)),
    λ stands. elim ((joins.nodes z).0 stands) [ inl none ↦ absurd (contains-none z none) | inr taken ↦ taken.0 ],
  );
}

pub all_ordered : (nodes old new : List Node) (all : Bool) → old ≡ []
    → MatchBool all (Joins (IsTaken None nodes) (length nodes) old new) (JoinsBeyond (IsTaken None nodes) (length nodes) old) → IsInOrder nodes new
all_ordered nodes old new true none joins = ordered nodes new (subst (λ (l : List Node). Joins (IsTaken None nodes) (length nodes) l new) none joins)
all_ordered nodes old new false none beyond = absurd (not_beyond nodes (subst (λ (l : List Node). JoinsBeyond (IsTaken None nodes) (length nodes) l) none beyond))

-- ---- a leaf is replaced

other_kept : (leaf z : Node) → (z ≢ leaf) → Some leaf ≢ Some z
other_kept leaf z differs e = let same : leaf ≡ z = cc in differs (sym same)

other_from : (leaf z : Node) → (Some leaf ≢ Some z) → z ≢ leaf
other_from leaf z differs e = differs (ap Some (sym e))

pub replaced : (k : ℕ) (leaves : List Node) (leaf : Node) (others now new : List Node) → Joins (IsTaken (Some leaf) leaves) k [] now → Joins (IsTaken None others) k now new
    → IsReplacement k leaves leaf others new
replaced k leaves leaf others now new kept added = record {
  ascending = added.ascending;
  few = added.few;
  replaces = record { nodes = λ z. (from z, to z) };
}
  where
    from_now : (z : Node) → Contains [] z ⊎ IsTaken (Some leaf) leaves z → (Contains leaves z × (z ≢ leaf)) ⊎ Contains others z
    from_now z (inl none) = absurd (contains-none z none)
    from_now z (inr taken) = inl (taken.0, other_from leaf z taken.1)

    from : (z : Node) → Contains new z → (Contains leaves z × (z ≢ leaf)) ⊎ Contains others z
    from z stands = elim ((added.nodes z).0 stands) [ inl earlier ↦ from_now z ((kept.nodes z).0 earlier) | inr taken ↦ inr taken.0 ]

    to : (z : Node) → (Contains leaves z × (z ≢ leaf)) ⊎ Contains others z → Contains new z
    to z (inl stays) = (added.nodes z).1 (inl ((kept.nodes z).1 (inr (stays.0, other_kept leaf z stays.1))))
    to z (inr other) = (added.nodes z).1 (inr (other, none_left_out None z refl))

pub beyond_first : (k : ℕ) (leaves : List Node) (leaf : Node) (others : List Node) → JoinsBeyond (IsTaken (Some leaf) leaves) k [] → ReplacesBeyond k leaves leaf others
beyond_first k leaves leaf others beyond new replaces = beyond new (λ z from. elim from [
  | inl none ↦ absurd (contains-none z none)
  | inr taken ↦ (replaces.nodes z).1 (inl (taken.0, other_from leaf z taken.1))
])

pub beyond_second : (k : ℕ) (leaves : List Node) (leaf : Node) (others now : List Node) → Joins (IsTaken (Some leaf) leaves) k [] now → JoinsBeyond (IsTaken None others) k now
    → ReplacesBeyond k leaves leaf others
beyond_second k leaves leaf others now kept beyond new replaces = beyond new (λ z from. elim from [
  | inl earlier ↦ at_now z ((kept.nodes z).0 earlier)
  | inr taken ↦ (replaces.nodes z).1 (inr taken.0)
])
  where
    at_now : (z : Node) → Contains [] z ⊎ IsTaken (Some leaf) leaves z → Contains new z
    at_now z (inl none) = absurd (contains-none z none)
    at_now z (inr taken) = (replaces.nodes z).1 (inl (taken.0, other_from leaf z taken.1))
