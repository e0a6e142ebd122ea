-- How low a node may be and still be reached: reads lead only to lower nodes.
use Rattle.std.proofs.Common.{◌≡◌, ℕ, ◌+◌, ◌<◌, ◌≤◌, ◌⊎◌, inl, inr, List, [], ◌∷◌, ◌++◌, Option, None, Some, length, get_or, take, drop, sym, ◌∙◌, ap, subst, arith}
use Rattle.std.specs.Prelude.{Contains, IfSome, MatchOption}
use Rattle.std.proofs.lemmas.Bool.{cases_lt}
use Rattle.std.proofs.lemmas.List.{take_more, take_all, take-append-drop}
use Rattle.std.proofs.lemmas.List.Elements.{Contains-push, Contains-push_cases, Contains-append_left}
use Rattle.tm_circuit.specs.Plain.{Plain}
use Rattle.tm_circuit.specs.Chain.{rank}
use Rattle.tm_circuit.specs.Sound.{IsSound}
use Rattle.tm_unroll.specs.declared.node.Node.{Node}
use Rattle.tm_unroll.specs.declared.cover.Search.{Search}
use Rattle.tm_unroll.specs.Nodes.{reads}
use Rattle.tm_unroll.specs.Walks.{LeadsTo}
use Rattle.tm_unroll.specs.Falls.{IsLower}
use Rattle.tm_unroll.specs.Searches.{met_by, IsLowestMissing, IsLowerOf}
use Rattle.tm_unroll.proofs.ReadLemmas.{falls_lem}

lower_trans : (c : Plain) (x y z : Node) → IsLower c x y → IsLower c y z → IsLower c x z
lower_trans c x y z (inl a) (inl b) = inl (omega arith)
lower_trans c x y z (inl a) (inr b) = inl (let e = b.0 in omega arith)
lower_trans c x y z (inr a) (inl b) = inl (let e = a.0 in omega arith)
lower_trans c x y z (inr a) (inr b) = inr (a.0 ∙ b.0, let p = a.1 in let q = b.1 in omega arith)

not_below : (c : Plain) (x : Node) → ¬ IsLower c x x
not_below c x (inl a) = omega arith
not_below c x (inr a) = let p = a.1 in omega arith

-- What is lower than a node is lower than one that is no lower than it, and so on for a floor.
above_floor : (c : Plain) (floor y z : Node) → ¬ IsLower c y floor → IsLower c y z → IsLower c floor z
above_floor c floor y z not low = by (cases_lt floor.advance z.advance)
  where
    same : z.advance ≤ floor.advance → (y.advance < z.advance) ⊎ ((y.advance ≡ z.advance) × (rank c y.signal < rank c z.signal)) → IsLower c floor z
    same up (inl less) = absurd (not (inl (omega arith)))
    same up (inr equal) =
        let e = equal.0 in
        let low' = equal.1 in
        elim (cases_lt z.advance floor.advance) [
          | inl more ↦ absurd (not (inl (omega arith)))
          | inr other ↦ elim (cases_lt (rank c y.signal) (rank c floor.signal)) [
            | inl worse ↦ absurd (not (inr (omega arith, worse)))
            | inr fine ↦ inr (omega arith, omega arith)
          ]
        ]

    by : (floor.advance < z.advance) ⊎ (z.advance ≤ floor.advance) → IsLower c floor z
    by (inl less) = inl less
    by (inr up) = same up low

-- What is reached is lower.
leads_lower : (c : Plain) → IsSound c → (x y : Node) (through : List Node) → LeadsTo c.drives x through y → IsLower c y x
leads_lower c sound x y [] leads = falls_lem c sound x y leads
leads_lower c sound x y (z ∷ through) leads = lower_trans c y z x (leads_lower c sound z y through leads.1) (falls_lem c sound x z leads.0)

-- Some seen nodes have a node that is no lower than the floor and is reached, where each of them that is above the floor reads
-- nothing else than seen nodes.
pub reaches_down : (c : Plain) → IsSound c → (floor : Node) (seen : List Node) (y : Node) → ¬ IsLower c y floor
    → ((z w : Node) → Contains seen z → IsLower c floor z → Contains (reads c.drives z) w → Contains seen w)
    → (x : Node) → ((w : Node) → Contains (reads c.drives x) w → Contains seen w) → (through : List Node) → LeadsTo c.drives x through y → Contains seen y
reaches_down c sound floor seen y high closed x first [] leads = first y leads
reaches_down c sound floor seen y high closed x first (z ∷ through) leads =
    let up : IsLower c floor z = above_floor c floor y z high (leads_lower c sound z y through leads.1) in
    reaches_down c sound floor seen y high closed z (λ w read. closed z w (first z leads.0) up read) through leads.1

-- What stands up to a place stands in the list.
taken : (nodes : List Node) (i : ℕ) (x : Node) → Contains (take i nodes) x → Contains nodes x
taken nodes i x h = subst (λ (l : List Node). Contains l x) (take-append-drop i nodes) (Contains-append_left (take i nodes) (drop i nodes) x h)

-- The lowest missing leaf is one of them.
pub floor_known : (c : Plain) (leaves : List Node) (s : Search) (i : ℕ) (P : Node → Type 0) → ((x : Node) → Contains leaves x → P x) → (floor : Option Node)
    → MatchOption floor ((x : Node) → Contains (take i leaves) x → Contains (met_by s) x) (IsLowestMissing c (take i leaves) s) → IfSome floor P
floor_known c leaves s i P all None low = tt
floor_known c leaves s i P all (Some floor) low = all floor (taken leaves i floor low.leaf)

-- All leaves up to the last are all leaves.
pub floor_of_all : (c : Plain) (leaves : List Node) (s : Search) (i : ℕ) → length leaves ≤ i → (floor : Option Node)
    → MatchOption floor ((x : Node) → Contains (take i leaves) x → Contains (met_by s) x) (IsLowestMissing c (take i leaves) s)
    → MatchOption floor ((x : Node) → Contains leaves x → Contains (met_by s) x) (IsLowestMissing c leaves s)
floor_of_all c leaves s i past floor low =
    subst (λ (l : List Node). MatchOption floor ((x : Node) → Contains l x → Contains (met_by s) x) (IsLowestMissing c l s)) (take_all i leaves past) low

-- The lowest missing leaf up to a place, where there is one, and one leaf more.
module _ (c : Plain) (leaves : List Node) (s : Search) (i : ℕ) (x : Node) (within : i < length leaves) (is : x ≡ get_or leaves i x) where
  one_more : take (i + 1) leaves ≡ take i leaves ++ x ∷ []
  one_more = take_more leaves i x within ∙ ap (λ v. take i leaves ++ v ∷ []) (sym is)

  more_cases : (y : Node) → Contains (take (i + 1) leaves) y → Contains (take i leaves) y ⊎ (x ≡ y)
  more_cases y h = Contains-push_cases (take i leaves) x y (subst (λ (l : List Node). Contains l y) one_more h)

  still : (y : Node) → Contains (take i leaves) y → Contains (take (i + 1) leaves) y
  still y h = subst (λ (l : List Node). Contains l y) (sym one_more) (Contains-append_left (take i leaves) (x ∷ []) y h)

  last : Contains (take (i + 1) leaves) x
  last = subst (λ (l : List Node). Contains l x) (sym one_more) (Contains-push (take i leaves) x)

  all_met : Contains (met_by s) x → ((y : Node) → Contains (take i leaves) y → Contains (met_by s) y) → (y : Node) → Contains (take (i + 1) leaves) y → Contains (met_by s) y
  all_met here before y h = elim (more_cases y h) [ inl old ↦ before y old | inr same ↦ subst (λ (z : Node). Contains (met_by s) z) same here ]

  floor_stays : Contains (met_by s) x → (floor : Node) → IsLowestMissing c (take i leaves) s floor → IsLowestMissing c (take (i + 1) leaves) s floor
  floor_stays here floor low = record {
    leaf = still floor low.leaf;
    missing = low.missing;
    lowest = λ y h other. elim (more_cases y h) [
      | inl old ↦ low.lowest y old other
      | inr same ↦ absurd (other (subst (λ (z : Node). Contains (met_by s) z) same here))
    ];
  }

  -- The leaf is missing, and lower than the floor so far or the first that is missing.
  new_floor : ¬ Contains (met_by s) x → ((y : Node) → Contains (take i leaves) y → ¬ Contains (met_by s) y → ¬ IsLower c y x) → IsLowestMissing c (take (i + 1) leaves) s x
  new_floor other low = record {
    leaf = last;
    missing = other;
    lowest = λ y h missing. elim (more_cases y h) [
      | inl old ↦ low y old missing
      | inr same ↦ subst (λ (z : Node). ¬ IsLower c z x) same (not_below c x)
    ];
  }

  -- The floor so far is no higher than the leaf.
  old_floor : (floor : Node) → IsLowestMissing c (take i leaves) s floor → ¬ IsLower c x floor → IsLowestMissing c (take (i + 1) leaves) s floor
  old_floor floor low high = record {
    leaf = still floor low.leaf;
    missing = low.missing;
    lowest = λ y h missing. elim (more_cases y h) [ inl old ↦ low.lowest y old missing | inr same ↦ subst (λ (z : Node). ¬ IsLower c z floor) same high ];
  }

  pub floor_more : ¬ Contains (met_by s) x → (before : Option Node) (lower : Node) → IsLowerOf c before x lower
      → MatchOption before ((y : Node) → Contains (take i leaves) y → Contains (met_by s) y) (IsLowestMissing c (take i leaves) s)
      → IsLowestMissing c (take (i + 1) leaves) s lower
  floor_more other None lower of before =
      subst (λ (f : Node). IsLowestMissing c (take (i + 1) leaves) s f) (sym of) (new_floor other (λ y h missing. absurd (missing (before y h))))
  floor_more other (Some floor) lower (inl of) before =
      subst (λ (f : Node). IsLowestMissing c (take (i + 1) leaves) s f) (sym of.0) (old_floor floor before of.1)
  floor_more other (Some floor) lower (inr of) before =
      subst (λ (f : Node). IsLowestMissing c (take (i + 1) leaves) s f) (sym of.0)
      (new_floor other (λ y h missing low. before.lowest y h missing (lower_trans c y x floor low of.1)))

  pub lowest_more : Contains (met_by s) x → (before : Option Node) → MatchOption before ((y : Node) → Contains (take i leaves) y → Contains (met_by s) y) (IsLowestMissing c (take i leaves) s)
      → MatchOption before ((y : Node) → Contains (take (i + 1) leaves) y → Contains (met_by s) y) (IsLowestMissing c (take (i + 1) leaves) s)
  lowest_more here None before = all_met here before
  lowest_more here (Some floor) before = floor_stays here floor before
