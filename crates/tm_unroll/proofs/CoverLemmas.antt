-- How a set of nodes shows a cover, and how a walk or a leaf refutes one.
use Rattle.std.proofs.Common.{◌≡◌, ◌⊎◌, inl, inr, true, false, List, [], ◌∷◌, ◌++◌, sym, subst}
use Rattle.std.specs.Prelude.{Contains}
use Rattle.tm_circuit.specs.Plain.{Drive}
use Rattle.std.proofs.lemmas.List.Elements.{Contains-push_cases}
use Rattle.tm_circuit.proofs.ListLemmas.{contains-first, contains-rest, contains-cases, contains-none}
use Rattle.tm_unroll.specs.declared.node.Node.{Node}
use Rattle.tm_unroll.specs.Nodes.{reads, is_end}
use Rattle.tm_unroll.specs.Walks.{IsWalk, LeadsTo, IsReached, MeetsLeaf, Covers}

-- A node is guarded by leaves and seen nodes: it is no end, and each node that it reads is a leaf or was seen.
pub record IsGuarded (drives : List Drive) (leaves seen : List Node) (x : Node) : Type 0 where
  pub goes_on : is_end drives x ≡ false
  pub each : (y : Node) → Contains (reads drives x) y → Contains leaves y ⊎ Contains seen y

-- Where each seen node is guarded, every walk from a guarded node meets a leaf.
pub closed_meets : (drives : List Drive) (leaves seen : List Node) → ((y : Node) → Contains seen y → IsGuarded drives leaves seen y)
    → (x : Node) → IsGuarded drives leaves seen x → (walk : List Node) → IsWalk drives x walk → MeetsLeaf leaves walk
closed_meets drives leaves seen closed x guarded [] walk = let stops : is_end drives x ≡ true = walk in let goes = guarded.goes_on in cc
closed_meets drives leaves seen closed x guarded (y ∷ rest) walk =
    elim (guarded.each y walk.0) [
      | inl leaf ↦ (y, contains-first y rest, leaf)
      | inr more ↦
          let met = closed_meets drives leaves seen closed y (closed y more) rest walk.1 in
          (met.0, contains-rest y rest met.0 met.1, met.2)
    ]

-- A walk that meets no leaf refutes a cover.
pub missed_refutes : (drives : List Drive) (leaves : List Node) (x : Node) (walk : List Node) → IsWalk drives x walk
    → ((y : Node) → Contains walk y → ¬ Contains leaves y) → ¬ Covers drives leaves x
missed_refutes drives leaves x walk is misses covers =
    let met = covers.met walk is in
    misses met.0 met.1 met.2

-- A leaf that is not reached refutes a cover.
pub unreached_refutes : (drives : List Drive) (leaves : List Node) (x y : Node) → Contains leaves y → ¬ IsReached drives x y → ¬ Covers drives leaves x
unreached_refutes drives leaves x y leaf far covers = far (covers.reached y leaf)

-- Reads lead one step further.
pub leads_further : (drives : List Drive) (x y z : Node) (through : List Node) → LeadsTo drives x through y → Contains (reads drives y) z
    → IsReached drives x z
leads_further drives x y z [] leads read = (y ∷ [], (leads, read))
leads_further drives x y z (w ∷ through) leads read =
    let ih = leads_further drives w y z through leads.1 read in
    (w ∷ ih.0, (leads.0, ih.1))

-- A set that has what the node reads, and with each of its nodes what that node reads, has all that is reached.
pub closed_reaches : (drives : List Drive) (seen : List Node) (x : Node) → ((y : Node) → Contains (reads drives x) y → Contains seen y)
    → ((z y : Node) → Contains seen z → Contains (reads drives z) y → Contains seen y)
    → (y : Node) (through : List Node) → LeadsTo drives x through y → Contains seen y
closed_reaches drives seen x first closed y [] leads = first y leads
closed_reaches drives seen x first closed y (z ∷ through) leads =
    closed_reaches drives seen z (λ w read. closed z w (first z leads.0) read) closed y through leads.1

-- Reads lead from a node to `y`, and neither `y` nor a node in between is a leaf.
pub record IsFree (drives : List Drive) (leaves : List Node) (x y : Node) : Type 0 where
  pub through : List Node
  pub leads : LeadsTo drives x through y
  pub avoids : (z : Node) → Contains (through ++ y ∷ []) z → ¬ Contains leaves z

-- What a node reads is free where it is no leaf.
pub free_first : (drives : List Drive) (leaves : List Node) (x y : Node) → Contains (reads drives x) y → ¬ Contains leaves y → IsFree drives leaves x y
free_first drives leaves x y read other = record { through = []; leads = read; avoids = λ z stands leaf. other (subst (λ (w : Node). Contains leaves w) (only z stands) leaf) }
  where
    only : (z : Node) → Contains (y ∷ []) z → z ≡ y
    only z stands = elim (contains-cases y [] z stands) [ inl is ↦ sym is | inr none ↦ absurd (contains-none z none) ]

-- What a free node reads is free where it is no leaf.
pub free_more : (drives : List Drive) (leaves : List Node) (x y z : Node) → IsFree drives leaves x y → Contains (reads drives y) z → ¬ Contains leaves z
    → IsFree drives leaves x z
free_more drives leaves x y z free read other = record {
  through = free.through ++ y ∷ [];
  leads = leads_on drives x y z free.through free.leads read;
  avoids = λ w stands leaf. elim (Contains-push_cases (free.through ++ y ∷ []) z w stands) [
    | inl earlier ↦ free.avoids w earlier leaf
    | inr is ↦ other (subst (λ (v : Node). Contains leaves v) (sym is) leaf)
  ];
}
  where
    leads_on : (ds : List Drive) (a b e : Node) (through : List Node) → LeadsTo ds a through b → Contains (reads ds b) e → LeadsTo ds a (through ++ b ∷ []) e
    leads_on ds a b e [] leads more = (leads, more)
    leads_on ds a b e (w ∷ through) leads more = (leads.0, leads_on ds w b e through leads.1 more)

-- A free node is reached.
pub free_reached : (drives : List Drive) (leaves : List Node) (x y : Node) → IsFree drives leaves x y → IsReached drives x y
free_reached drives leaves x y free = (free.through, free.leads)

-- A free end refutes a cover.
pub free_end_refutes : (drives : List Drive) (leaves : List Node) (x y : Node) → IsFree drives leaves x y → is_end drives y ≡ true → ¬ Covers drives leaves x
free_end_refutes drives leaves x y free stops =
    missed_refutes drives leaves x (free.through ++ y ∷ []) (walks_on drives x y free.through free.leads stops) free.avoids
  where
    walks_on : (ds : List Drive) (a b : Node) (through : List Node) → LeadsTo ds a through b → is_end ds b ≡ true → IsWalk ds a (through ++ b ∷ [])
    walks_on ds a b [] leads ends = (leads, ends)
    walks_on ds a b (w ∷ through) leads ends = (leads.0, walks_on ds w b through leads.1 ends)

-- A root that is an end has no cover.
pub end_refutes : (drives : List Drive) (leaves : List Node) (x : Node) → is_end drives x ≡ true → ¬ Covers drives leaves x
end_refutes drives leaves x stops = missed_refutes drives leaves x [] stops (λ y none. absurd (contains-none y none))
