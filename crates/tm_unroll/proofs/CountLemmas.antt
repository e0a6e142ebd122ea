-- How many nodes a search can meet: each is a signal, at most as far ahead as the root.
use Rattle.std.proofs.Common.{◌≡◌, ◌≢◌, ℕ, zero, suc, ◌+◌, ◌-◌, ◌*◌, ◌<◌, ◌≤◌, inl, inr, false, List, [], ◌∷◌, ◌++◌, length, length-append, refl, sym, ◌∙◌, ap, subst, arith}
use Rattle.std.proofs.Math.Nat.{suc-mul, zero-mul}
use Rattle.std.specs.Prelude.{Contains}
use Rattle.std.proofs.lemmas.Bool.{cases_lt}
use Rattle.std.proofs.lemmas.List.{length_push}
use Rattle.std.proofs.lemmas.List.Elements.{Contains-append_left, Contains-append_right}
use Rattle.tm_circuit.specs.Plain.{Plain, Drive, input, latch, gate, drive_in}
use Rattle.tm_circuit.specs.Sound.{IsSound, ReadsBelow}
use Rattle.tm_circuit.proofs.ListLemmas.{contains-first, contains-rest, contains-cases, contains-none, contains-unmap}
use Rattle.tm_unroll.specs.declared.node.Node.{Node}
use Rattle.tm_unroll.specs.declared.cover.Search.{Search}
use Rattle.tm_unroll.specs.Nodes.{node_at, reads_of, reads}
use Rattle.tm_unroll.specs.Walks.{LeadsTo}
use Rattle.tm_unroll.specs.Searches.{met_by, left_by, MeetsMore, IsSearch}
use Rattle.tm_unroll.proofs.ListLemmas.{fits, apart_from_pairs}
use Rattle.tm_unroll.proofs.ReadLemmas.{same_node, falls_lem}
use Rattle.tm_unroll.proofs.SearchLemmas.{Pops}

-- What a signal reads are signals.
pub read_within : (c : Plain) → IsSound c → (x y : Node) → x.signal < length c.drives → Contains (reads c.drives x) y → y.signal < length c.drives
read_within c sound x y inside read = by_drive (drive_in c.drives x.signal) (sound.range.reads x.signal (latch x.signal false) inside) x.advance read
  where
    by_drive : (d : Drive) → ReadsBelow (length c.drives) d → (a : ℕ) → Contains (reads_of d a) y → y.signal < length c.drives
    by_drive input below a r = absurd (contains-none y r)
    by_drive (latch next init) below zero r = absurd (contains-none y r)
    by_drive (latch next init) below (suc less) r =
        elim (contains-cases (node_at less next) [] y r) [
          | inl is ↦ subst (λ (n : Node). n.signal < length c.drives) is below
          | inr none ↦ absurd (contains-none y none)
        ]
    by_drive (gate pins cover) below a r =
        let from = contains-unmap (λ p. node_at a p) pins y r in
        let (k, low, is) = from.1 in
        subst (λ (n : Node). n.signal < length c.drives) from.2 (subst (λ p. p < length c.drives) is (below k from.0 low))

-- What a node reads is no further ahead.
not_ahead : (c : Plain) → IsSound c → (x y : Node) → Contains (reads c.drives x) y → y.advance ≤ x.advance
not_ahead c sound x y read = elim (falls_lem c sound x y read) [ inl less ↦ omega arith | inr same ↦ let e = same.0 in omega arith ]

-- What is reached from a signal are signals, no further ahead.
pub reached_within : (c : Plain) → IsSound c → (x y : Node) (through : List Node) → LeadsTo c.drives x through y → x.signal < length c.drives
    → (y.signal < length c.drives) × (y.advance ≤ x.advance)
reached_within c sound x y [] leads inside = (read_within c sound x y inside leads, not_ahead c sound x y leads)
reached_within c sound x y (z ∷ through) leads inside =
    let rest = reached_within c sound z y through leads.1 (read_within c sound x z inside leads.0) in
    let first = not_ahead c sound x z leads.0 in
    (rest.0, omega (arith, rest.1, first))

-- The nodes of a signal below an advance.
row : (s m : ℕ) → (all : List Node) × (length all ≡ m) × ((b : ℕ) → b < m → Contains all (node_at b s))
row s zero = ([], refl, λ b low. absurd (omega arith))
row s (suc m) =
    let r = row s m in (
      node_at m s ∷ r.0,
      ap suc r.1,
      λ b low. elim (cases_lt b m) [
        | inl lower ↦ contains-rest (node_at m s) r.0 (node_at b s) (r.2 b lower)
        | inr high ↦ let e : m ≡ b = omega arith in subst (λ a. Contains (node_at m s ∷ r.0) (node_at a s)) e (contains-first (node_at m s) r.0)
      ],
    )

-- The nodes of the signals below one, no further ahead than an advance.
all_nodes : (n a : ℕ) → (all : List Node) × (length all ≡ n * suc a) × ((x : Node) → x.signal < n → x.advance ≤ a → Contains all x)
all_nodes zero a = ([], sym (zero-mul (suc a)), λ x low small. absurd (omega arith))
all_nodes (suc n) a =
    let r = row n (suc a) in
    let q = all_nodes n a in (
      r.0 ++ q.0,
      omega (arith, length-append r.0 q.0, r.1, q.1, suc-mul n (suc a)),
      λ x low small. elim (cases_lt x.signal n) [
        | inl lower ↦ Contains-append_right r.0 q.0 x (q.2 x lower small)
        | inr high ↦
            let e : n ≡ x.signal = omega arith in
            Contains-append_left r.0 q.0 x (subst (λ (y : Node). Contains r.0 y) (same_node (node_at x.advance n) x e refl) (r.2 x.advance (omega arith)))
      ],
    )

-- A search has met no more nodes than there are signals at each advance up to the root's.
pub met_few : (c : Plain) → IsSound c → (s : Search) → IsSearch c.drives s → length (met_by s) ≤ length c.drives * suc s.root.advance
met_few c sound s search =
    let among = all_nodes (length c.drives) s.root.advance in
    let some = fits (met_by s) among.0 (apart_from_pairs (λ (a : Node) (b : Node). a ≢ b) (met_by s) (λ x differs. differs refl) search.apart) (λ x h.
    let way = search.reached x h in
    let within = reached_within c sound s.root x way.0 way.1 search.root in
    among.2 x within.0 within.1) in
    omega (arith, some, among.1)

-- What is met is a signal.
pub met_within : (c : Plain) → IsSound c → (s : Search) → IsSearch c.drives s → (x : Node) → Contains (met_by s) x → x.signal < length c.drives
met_within c sound s search x h = let way = search.reached x h in (reached_within c sound s.root x way.0 way.1 search.root).0

-- The room for nodes that are not met, and the nodes that are left.
abbrev pub room : List Drive → Search → ℕ
room drives s = length drives * suc s.root.advance + length (left_by s) - length (met_by s)

-- A turn takes one node, and what it meets is left, so that the room becomes less.
pub room_less : (c : Plain) → IsSound c → (s p n : Search) (x : Node) (nodes : List Node) → IsSearch c.drives s → IsSearch c.drives n → Pops x s p → MeetsMore nodes p n
    → room c.drives n < room c.drives s
room_less c sound s p n x nodes search after pops m =
    let root : n.root ≡ s.root = m.root ∙ pops.root in
    let same : length c.drives * suc n.root.advance ≡ length c.drives * suc s.root.advance = ap (λ (r : Node). length c.drives * suc r.advance) root in
    let few = met_few c sound s search in
    let few' = met_few c sound n after in
    let balanced = m.balanced in
    let met : length (met_by p) ≡ length (met_by s) = ap length pops.met in
    let left : length (left_by s) ≡ length (left_by p) + 1 = ap length pops.left ∙ length_push (left_by p) x in
    less (length c.drives * suc s.root.advance) (length c.drives * suc n.root.advance) (length (left_by s)) (length (met_by s)) (length (left_by p)) (length (met_by p)) (length (left_by n)) (length (met_by n)) same few few' balanced met left
  where
    less : (a b ls ms lp mp ln mn : ℕ) → b ≡ a → ms ≤ a → mn ≤ b → mn + lp ≡ mp + ln → mp ≡ ms → ls ≡ lp + 1 → b + ln - mn < a + ls - ms
    less a b ls ms lp mp ln mn h1 h2 h3 h4 h5 h6 = omega arith
