-- The search for the nodes between a root and its leaves: it goes through its list in order, and what it adds stands at the end.
use Rattle.std.proofs.Common.{◌≡◌, ◌≢◌, ℕ, zero, suc, ◌+◌, ◌*◌, ◌<◌, ◌≤◌, ◌⊎◌, inl, inr, Bool, true, false, List, [], ◌∷◌, ◌++◌, length, length-append, Some, None, refl, sym, ◌∙◌, ap, subst, arith}
use Rattle.std.specs.Prelude.{AllPairs, Contains, slice_get}
use Rattle.std.specs.List.{list_any}
use Rattle.std.proofs.Math.Nat.{suc-mul, zero-mul, mul-le-mul_right}
use Rattle.std.proofs.lemmas.Bool.{false≢true, cases_lt}
use Rattle.std.proofs.lemmas.List.Elements.{Contains-append_left, Contains-append_right, Contains-append_cases}
use Rattle.tm_circuit.specs.Plain.{Plain}
use Rattle.tm_circuit.specs.Sound.{IsSound}
use Rattle.tm_circuit.proofs.ListLemmas.{contains-first, contains-rest, contains-cases, contains-none}
use Rattle.tm_unroll.specs.declared.node.Node.{Node}
use Rattle.tm_unroll.specs.Nodes.{node_at, reads, is_end}
use Rattle.tm_unroll.proofs.ListLemmas.{fits, apart_from_pairs, contains-at, at-within, one-at, place-of}
use Rattle.tm_unroll.proofs.ReadLemmas.{same_node, falls_lem}
use Rattle.tm_unroll.proofs.CountLemmas.{read_within}
use Rattle.tm_unroll.proofs.SearchLemmas.{node_eq, node_found}
use Rattle.tm_cone.specs.Values.{HasReadsIn, IsGuarded, IsCone}
use Rattle.tm_cone.specs.Searches.{Meets}
use Rattle.tm_cone.proofs.MeetLemmas.{only_one}

-- A node stands in a list or not.
pub stands_or_not : (nodes : List Node) (x : Node) → Contains nodes x ⊎ (¬ Contains nodes x)
stands_or_not nodes x = by (list_any (λ (y : Node). node_eq x y) nodes) refl
  where
    by : (b : Bool) → list_any (λ (y : Node). node_eq x y) nodes ≡ b → Contains nodes x ⊎ (¬ Contains nodes x)
    by true is = inl ((node_found x nodes).0 is)
    by false is = inr (λ stands. false≢true (sym is ∙ (node_found x nodes).1 stands))

-- ---- guarded nodes

-- A guarded node is no end.
pub guarded_goes_on : (drives : _) (leaves : List Node) (x : Node) → IsGuarded drives leaves x → is_end drives x ≡ false
guarded_goes_on drives leaves x guarded = by (is_end drives x) refl
  where
    by : (b : Bool) → is_end drives x ≡ b → is_end drives x ≡ false
    by true is = let met = guarded [] is in absurd (contains-none met.0 met.1)
    by false is = is

-- What a guarded node reads is a leaf or guarded.
pub guarded_reads : (drives : _) (leaves : List Node) (x y : Node) → IsGuarded drives leaves x → Contains (reads drives x) y → Contains leaves y ⊎ IsGuarded drives leaves y
guarded_reads drives leaves x y guarded read =
    elim (stands_or_not leaves y) [
      | inl leaf ↦ inl leaf
      | inr other ↦ inr (λ walk is.
          let met = guarded (y ∷ walk) (read, is) in
          elim (contains-cases y walk met.0 met.1) [
            | inl first ↦ absurd (other (subst (λ (z : Node). Contains leaves z) (sym first) met.2))
            | inr later ↦ (met.0, later, met.2)
          ])
    ]

-- ---- how many nodes there are

-- The nodes of a signal below an advance.
row : (s m : ℕ) → (all : List Node) × (length all ≡ m) × ((b : ℕ) → b < m → Contains all (node_at b s))
row s zero = ([], refl, λ b low. absurd (omega arith))
row s (suc m) =
    let r = row s m in (
      node_at m s ∷ r.0,
      ap suc r.1,
      λ b low. elim (cases_lt b m) [
        | inl lower ↦ contains-rest (node_at m s) r.0 (node_at b s) (r.2 b lower)
        | inr high ↦ let e : m ≡ b = omega arith in subst (λ a. Contains (node_at m s ∷ r.0) (node_at a s)) e (contains-first (node_at m s) r.0)
      ],
    )

-- The nodes of the signals below one, no further ahead than an advance.
all_nodes : (n a : ℕ) → (all : List Node) × (length all ≡ n * suc a) × ((x : Node) → x.signal < n → x.advance ≤ a → Contains all x)
all_nodes zero a = ([], sym (zero-mul (suc a)), λ x low small. absurd (omega arith))
all_nodes (suc n) a =
    let r = row n (suc a) in
    let q = all_nodes n a in (
      r.0 ++ q.0,
      omega (arith, length-append r.0 q.0, r.1, q.1, suc-mul n (suc a)),
      λ x low small. elim (cases_lt x.signal n) [
        | inl lower ↦ Contains-append_right r.0 q.0 x (q.2 x lower small)
        | inr high ↦
            let e : n ≡ x.signal = omega arith in
            Contains-append_left r.0 q.0 x (subst (λ (y : Node). Contains r.0 y) (same_node (node_at x.advance n) x e refl) (r.2 x.advance (omega arith)))
      ],
    )

-- They are few enough to be counted.
pub few_steps : (n a : ℕ) → n ≤ 900000 → a < 256 → n * suc a ≤ 230400000
few_steps n a few near =
    let product = mul-le-mul_right (suc a) few in
    omega arith

-- ---- the search

-- A node of a circuit that is no further ahead than another.
pub record IsWithin (c : Plain) (root x : Node) : Type 0 where
  pub signal : x.signal < length c.drives
  pub near : x.advance ≤ root.advance

-- A search under way: each node that it has met is a leaf or guarded, and of those that it has gone through, the first ones of its
-- list, so many, each is a leaf, or no end and all that it reads is met.
pub record IsGoing (c : Plain) (leaves : List Node) (root : Node) (gone : ℕ) (nodes : List Node) : Type 0 where
  pub root_in : Contains nodes root
  pub within : (x : Node) → Contains nodes x → IsWithin c root x
  pub guarded : (x : Node) → Contains nodes x → Contains leaves x ⊎ IsGuarded c.drives leaves x
  pub done : (i : ℕ) (x : Node) → i < gone → slice_get nodes i ≡ Some x
      → Contains leaves x ⊎ ((is_end c.drives x ≡ false) × HasReadsIn c.drives nodes x)
  pub apart : AllPairs (λ a b. a ≢ b) nodes

-- What the search has met is few.
pub going_few : (c : Plain) (leaves : List Node) (root : Node) (gone : ℕ) (nodes : List Node) → IsGoing c leaves root gone nodes → length nodes ≤ length c.drives * suc root.advance
going_few c leaves root gone nodes going =
    let among = all_nodes (length c.drives) root.advance in
    let some = fits nodes among.0 (apart_from_pairs (λ (a : Node) (b : Node). a ≢ b) nodes (λ x differs. differs refl) going.apart)
    (λ x h. let within = going.within x h in among.2 x within.signal within.near) in
    omega (arith, some, among.1)

-- It begins with the root.
pub going_starts : (c : Plain) (leaves : List Node) (root : Node) (old nodes : List Node) → root.signal < length c.drives → IsGuarded c.drives leaves root → old ≡ []
    → Meets (root ∷ []) old nodes → IsGoing c leaves root 0 nodes
going_starts c leaves root old nodes signal guarded empty meets = record {
  root_in = meets.met root (contains-first root []);
  within = λ x h. subst (λ (y : Node). IsWithin c root y) (is_root x h) (record { signal = signal; near = omega arith });
  guarded = λ x h. inr (subst (λ (y : Node). IsGuarded c.drives leaves y) (is_root x h) guarded);
  done = λ i x low at. absurd (omega arith);
  apart = meets.apart (subst (λ (l : List Node). AllPairs (λ a b. a ≢ b) l) (sym empty) (λ i j d before inside. absurd (omega arith)));
}
  where
    is_root : (x : Node) → Contains nodes x → root ≡ x
    is_root x h =
        elim (Contains-append_cases old meets.more x (subst (λ (l : List Node). Contains l x) meets.is h)) [
          | inl before ↦ absurd (contains-none x (subst (λ (l : List Node). Contains l x) empty before))
          | inr new ↦ only_one root x (meets.from x new)
        ]

-- Where nothing stands a list has ended.
pub at-none : (xs : List Node) (i : ℕ) → slice_get xs i ≡ None → length xs ≤ i
at-none [] i is = omega arith
at-none (x ∷ xs) zero is = cc
at-none (x ∷ xs) (suc i) is = let past = at-none xs i is in omega arith

at-append : (xs ys : List Node) (i : ℕ) (x : Node) → i < length xs → slice_get (xs ++ ys) i ≡ Some x → slice_get xs i ≡ Some x
at-append [] ys i x low is = absurd (omega arith)
at-append (y ∷ xs) ys zero x low is = is
at-append (y ∷ xs) ys (suc i) x low is = at-append xs ys i x (omega arith) is

module _ (c : Plain) (leaves : List Node) (root : Node) (gone : ℕ) (nodes : List Node) (x : Node) (going : IsGoing c leaves root gone nodes) (here : slice_get nodes gone ≡ Some x) where
  -- A leaf is passed over.
  pub going_leaf : Contains leaves x → IsGoing c leaves root (gone + 1) nodes
  going_leaf leaf = record {
    root_in = going.root_in;
    within = going.within;
    guarded = going.guarded;
    done = λ i y low at. elim (cases_lt i gone) [
      | inl lower ↦ going.done i y lower at
      | inr high ↦
          let e : i ≡ gone = omega arith in
          inl (subst (λ (z : Node). Contains leaves z) (one-at nodes gone x y here (subst (λ k. slice_get nodes k ≡ Some y) e at)) leaf)
    ];
    apart = going.apart;
  }

  -- Any other node is gone through.
  module _ (sound : IsSound c) (new : List Node) (other : ¬ Contains leaves x) (meets : Meets (reads c.drives x) nodes new) where
    stands : Contains nodes x
    stands = contains-at nodes gone x here

    guards : IsGuarded c.drives leaves x
    guards = elim (going.guarded x stands) [ inl leaf ↦ absurd (other leaf) | inr guarded ↦ guarded ]

    keeps : (y : Node) → Contains nodes y → Contains new y
    keeps y h = subst (λ (l : List Node). Contains l y) (sym meets.is) (Contains-append_left nodes meets.more y h)

    only : (y : Node) → Contains new y → Contains nodes y ⊎ Contains (reads c.drives x) y
    only y h =
        elim (Contains-append_cases nodes meets.more y (subst (λ (l : List Node). Contains l y) meets.is h)) [
          | inl before ↦ inl before
          | inr added ↦ inr (meets.from y added)
        ]

    read_is_within : (y : Node) → Contains (reads c.drives x) y → IsWithin c root y
    read_is_within y read =
        let mine = going.within x stands in
        let near = mine.near in
        record {
          signal = read_within c sound x y mine.signal read;
          near = elim (falls_lem c sound x y read) [ inl less ↦ omega arith | inr same ↦ let e = same.0 in omega arith ];
        }

    done_more : (i : ℕ) (y : Node) → i < gone + 1 → slice_get new i ≡ Some y → Contains leaves y ⊎ ((is_end c.drives y ≡ false) × HasReadsIn c.drives new y)
    done_more i y low at =
        let inside = at-within nodes gone x here in
        let before : slice_get nodes i ≡ Some y = at-append nodes meets.more i y (omega arith) (subst (λ (l : List Node). slice_get l i ≡ Some y) meets.is at) in
        elim (cases_lt i gone) [
          | inl lower ↦ elim (going.done i y lower before) [
            | inl leaf ↦ inl leaf
            | inr gone_on ↦ inr (gone_on.0, λ z read. keeps z (gone_on.1 z read))
          ]
          | inr high ↦
              let e : i ≡ gone = omega arith in
              let is : x ≡ y = one-at nodes gone x y here (subst (λ k. slice_get nodes k ≡ Some y) e before) in
              inr (subst (λ (v : Node). (is_end c.drives v ≡ false) × HasReadsIn c.drives new v) is
              (guarded_goes_on c.drives leaves x guards, λ z read. meets.met z read))
        ]

    pub going_on : IsGoing c leaves root (gone + 1) new
    going_on = record {
      root_in = keeps root going.root_in;
      within = λ y h. elim (only y h) [ inl before ↦ going.within y before | inr read ↦ read_is_within y read ];
      guarded = λ y h. elim (only y h) [ inl before ↦ going.guarded y before | inr read ↦ guarded_reads c.drives leaves x y guards read ];
      done = done_more;
      apart = meets.apart going.apart;
    }

-- With nothing left it has the nodes down to the leaves.
pub going_ends : (c : Plain) (leaves : List Node) (root : Node) (gone : ℕ) (nodes : List Node) → IsGoing c leaves root gone nodes → length nodes ≤ gone
    → IsCone c.drives leaves root nodes
going_ends c leaves root gone nodes going all = record {
  root_in = going.root_in;
  signals = λ x h. (going.within x h).signal;
  closed = λ x h. let place = place-of nodes x h in let inside = at-within nodes place.0 x place.1 in going.done place.0 x (omega arith) place.1;
}
