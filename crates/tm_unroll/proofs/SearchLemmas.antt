-- How a search goes on: the nodes that it meets, and the turns before the leaves and behind them.
use Rattle.std.proofs.Common.{◌≡◌, ◌≢◌, ◌==◌, ℕ, zero, suc, ◌+◌, ◌-◌, ◌<◌, ◌⊎◌, inl, inr, Bool, true, false, cond, not, ◌&&◌, ◌||◌, List, [], ◌∷◌, ◌++◌, map, length, get_or, take, refl, sym, ◌∙◌, ap, subst, arith}
use Rattle.std.specs.Prelude.{AllPairs, Contains}
use Rattle.std.specs.List.{list_any}
use Rattle.std.specs.Bool.{Decides}
use Rattle.std.proofs.lemmas.Bool.{false≢true}
use Rattle.std.proofs.lemmas.Bool.Decides.{Decides-or, Decides-and, Decides-like, Decides-eqb}
use Rattle.std.proofs.lemmas.List.{take_more, map-append, length_push}
use Rattle.std.proofs.lemmas.List.Elements.{Contains-push, Contains-push_cases, Contains-append_left, Contains-append_right, Contains-append_cases}
use Rattle.tm_circuit.specs.Plain.{Plain, Drive, input, latch, gate, drive_in, is_gate}
use Rattle.tm_circuit.specs.Chain.{IsGate}
use Rattle.tm_circuit.specs.Sound.{IsSound}
use Rattle.tm_circuit.proofs.ListLemmas.{contains-first, contains-rest, contains-cases, contains-none}
use Rattle.tm_unroll.specs.declared.node.Node.{Node}
use Rattle.tm_unroll.specs.declared.cover.Search.{Search}
use Rattle.tm_unroll.specs.Nodes.{node_at, reads_of, reads, is_end_of, is_end}
use Rattle.tm_unroll.specs.Walks.{IsWalk, IsReached, MeetsLeaf, Covers}
use Rattle.tm_unroll.specs.Searches.{met_by, left_by, MeetsMore, HasMetReads, IsStart, IsSearch, IsBeforeLeaves, TakesUp, IsLowestMissing, HasGoneDownTo}
use Rattle.tm_unroll.proofs.ListLemmas.{pairs-push}
use Rattle.tm_unroll.proofs.ReadLemmas.{same_node}
use Rattle.tm_unroll.proofs.FloorLemmas.{reaches_down}
use Rattle.tm_unroll.proofs.CoverLemmas.{leads_further, IsFree, free_first, free_more, free_end_refutes}
use Rattle.tm_unroll.proofs.JudgeLemmas.{gate_within}

-- Nodes are equal where their parts are.
abbrev pub node_eq : Node → Node → Bool
node_eq x y = (x.signal == y.signal) && (x.advance == y.advance)

pub node_decides : (x y : Node) → Decides (node_eq x y) (x ≡ y)
node_decides x y =
    Decides-like (node_eq x y) (λ h. same_node x y h.0 h.1) (λ e. (ap (λ (n : Node). n.signal) e, ap (λ (n : Node). n.advance) e))
    (Decides-and (x.signal == y.signal) (x.advance == y.advance) (Decides-eqb x.signal y.signal) (Decides-eqb x.advance y.advance))

-- A test for one node finds it in a list exactly where it stands there.
pub found_by : (x : Node) (test : Node → Bool) → ((y : Node) → Decides (test y) (x ≡ y)) → (nodes : List Node) → Decides (list_any test nodes) (Contains nodes x)
found_by x test each [] = (λ e. cc, λ h. absurd (contains-none x h))
found_by x test each (y ∷ nodes) =
    Decides-like (test y || list_any test nodes)
    (λ h. elim h [ inl e ↦ subst (λ (z : Node). Contains (z ∷ nodes) x) e (contains-first x nodes) | inr later ↦ contains-rest y nodes x later ])
    (λ h. elim (contains-cases y nodes x h) [ inl e ↦ inl (sym e) | inr later ↦ inr later ])
    (Decides-or (test y) (list_any test nodes) (each y) (found_by x test each nodes))

-- The same where the test has the node on its other side.
pub node_found : (x : Node) (nodes : List Node) → Decides (list_any (λ (y : Node). node_eq x y) nodes) (Contains nodes x)
node_found x nodes = found_by x (λ (y : Node). node_eq x y) (λ y. node_decides x y) nodes

pub node_found_back : (x : Node) (nodes : List Node) → Decides (list_any (λ (y : Node). node_eq y x) nodes) (Contains nodes x)
node_found_back x nodes =
    found_by x (λ (y : Node). node_eq y x) (λ y. Decides-like (node_eq y x) (λ (e : y ≡ x). sym e) (λ (e : x ≡ y). sym e) (node_decides y x)) nodes

only_one : (x y : Node) → Contains (x ∷ []) y → x ≡ y
only_one x y stands = elim (contains-cases x [] y stands) [ inl is ↦ is | inr none ↦ absurd (contains-none y none) ]

-- A search meets no node.
pub meets_none : (s : Search) → MeetsMore [] s s
meets_none s = record {
  root = refl;
  kept = λ x h. h;
  met = λ x h. absurd (contains-none x h);
  only = λ x h. inl h;
  fresh = λ x h. inl h;
  stays = λ x h. h;
  left = λ x h. inl h;
  apart = λ h. h;
  balanced = refl;
}

-- A search meets a node that it had not met.
meets_new : (old new : Search) (x : Node) → new.root ≡ old.root → met_by new ≡ met_by old ++ x ∷ [] → left_by new ≡ left_by old ++ x ∷ []
    → ¬ Contains (met_by old) x → MeetsMore (x ∷ []) old new
meets_new old new x root met left other = record {
  root = root;
  kept = λ y h. subst (λ (l : List Node). Contains l y) (sym met) (Contains-append_left (met_by old) (x ∷ []) y h);
  met = λ y h. subst (λ (l : List Node). Contains l y) (sym met) (Contains-append_right (met_by old) (x ∷ []) y h);
  only = λ y h. Contains-append_cases (met_by old) (x ∷ []) y (subst (λ (l : List Node). Contains l y) met h);
  fresh = λ y h. elim (Contains-append_cases (met_by old) (x ∷ []) y (subst (λ (l : List Node). Contains l y) met h)) [
    | inl before ↦ inl before
    | inr new ↦ inr (subst (λ (l : List Node). Contains l y) (sym left) (Contains-append_right (left_by old) (x ∷ []) y new))
  ];
  stays = λ y h. subst (λ (l : List Node). Contains l y) (sym left) (Contains-append_left (left_by old) (x ∷ []) y h);
  left = λ y h. Contains-append_cases (left_by old) (x ∷ []) y (subst (λ (l : List Node). Contains l y) left h);
  apart = λ h. subst (λ (l : List Node). AllPairs (λ a b. a ≢ b) l) (sym met)
      (pairs-push (λ (a : Node) (b : Node). a ≢ b) (met_by old) x h (λ y stands e. other (subst (λ (v : Node). Contains (met_by old) v) e stands)));
  balanced = omega (arith, ap length met, ap length left, length_push (met_by old) x, length_push (left_by old) x);
}

-- A search meets a node that it had met before.
meets_again : (old new : Search) (x : Node) → new.root ≡ old.root → met_by new ≡ met_by old → left_by new ≡ left_by old → Contains (met_by old) x → MeetsMore (x ∷ []) old new
meets_again old new x root met left there = record {
  root = root;
  kept = λ y h. subst (λ (l : List Node). Contains l y) (sym met) h;
  met = λ y h. subst (λ (v : Node). Contains (met_by new) v) (only_one x y h) (subst (λ (l : List Node). Contains l x) (sym met) there);
  only = λ y h. inl (subst (λ (l : List Node). Contains l y) met h);
  fresh = λ y h. inl (subst (λ (l : List Node). Contains l y) met h);
  stays = λ y h. subst (λ (l : List Node). Contains l y) (sym left) h;
  left = λ y h. inl (subst (λ (l : List Node). Contains l y) left h);
  apart = λ h. subst (λ (l : List Node). AllPairs (λ a b. a ≢ b) l) (sym met) h;
  balanced = omega (arith, ap length met, ap length left);
}

not_yes : (b : Bool) → not b ≡ true → b ≡ false
not_yes true h = cc
not_yes false h = refl

not_not : (b : Bool) → not b ≡ false → b ≡ true
not_not true h = refl
not_not false h = cc

module _ (old new : Search) (x : Node) (test : Node → Bool) (is_new : Bool) (each : (y : Node) → Decides (test y) (x ≡ y)) (root : new.root ≡ old.root)
    (added : is_new ≡ not (list_any test (met_by old))) (keys : met_by new ≡ cond (list_any test (met_by old)) (met_by old) (met_by old ++ x ∷ [])) where
  -- What a set adds and the stack takes is met.
  pub met_new : is_new ≡ true → left_by new ≡ left_by old ++ x ∷ [] → MeetsMore (x ∷ []) old new
  met_new added' left =
      let none : list_any test (met_by old) ≡ false = not_yes (list_any test (met_by old)) (sym added ∙ added') in
      meets_new old new x root (keys ∙ ap (λ b. cond b (met_by old) (met_by old ++ x ∷ [])) none) left
      (λ stands. false≢true (sym none ∙ (found_by x test each (met_by old)).1 stands))

  -- What a set does not add had been met.
  pub met_again : is_new ≡ false → left_by new ≡ left_by old → MeetsMore (x ∷ []) old new
  met_again kept left =
      let any : list_any test (met_by old) ≡ true = not_not (list_any test (met_by old)) (sym added ∙ kept) in
      meets_again old new x root (keys ∙ ap (λ b. cond b (met_by old) (met_by old ++ x ∷ [])) any) left
      ((found_by x test each (met_by old)).0 any)

-- A search meets nodes one after another.
pub meets_more : (old mid new : Search) (xs ys : List Node) → MeetsMore xs old mid → MeetsMore ys mid new → MeetsMore (xs ++ ys) old new
meets_more old mid new xs ys m n = record {
  root = n.root ∙ m.root;
  kept = λ x h. n.kept x (m.kept x h);
  met = λ x h. elim (Contains-append_cases xs ys x h) [ inl a ↦ n.kept x (m.met x a) | inr b ↦ n.met x b ];
  only = λ x h. elim (n.only x h) [
    | inl a ↦ elim (m.only x a) [ inl before ↦ inl before | inr i ↦ inr (Contains-append_left xs ys x i) ]
    | inr b ↦ inr (Contains-append_right xs ys x b)
  ];
  fresh = λ x h. elim (n.fresh x h) [ inl a ↦ elim (m.fresh x a) [ inl before ↦ inl before | inr i ↦ inr (n.stays x i) ] | inr b ↦ inr b ];
  stays = λ x h. n.stays x (m.stays x h);
  left = λ x h. elim (n.left x h) [
    | inl a ↦ elim (m.left x a) [ inl before ↦ inl before | inr i ↦ inr (Contains-append_left xs ys x i) ]
    | inr b ↦ inr (Contains-append_right xs ys x b)
  ];
  apart = λ h. n.apart (m.apart h);
  balanced = let e = m.balanced in let f = n.balanced in omega arith;
}

-- A search meets one pin more.
pub pins_more : (old mid new : Search) (pins : List ℕ) (a i p : ℕ) → MeetsMore (map (λ q. node_at a q) (take i pins)) old mid → i < length pins → p ≡ get_or pins i p
    → MeetsMore (node_at a p ∷ []) mid new → MeetsMore (map (λ q. node_at a q) (take (i + 1) pins)) old new
pins_more old mid new pins a i p m within is n =
    let more : take (i + 1) pins ≡ take i pins ++ p ∷ [] = take_more pins i p within ∙ ap (λ v. take i pins ++ v ∷ []) (sym is) in
    let nodes : map (λ q. node_at a q) (take (i + 1) pins) ≡ map (λ q. node_at a q) (take i pins) ++ node_at a p ∷ [] = ap (λ l. map (λ q. node_at a q) l) more ∙ map-append (λ q. node_at a q) (take i pins) (p ∷ []) in
    subst (λ (l : List Node). MeetsMore l old new) (sym nodes) (meets_more old mid new (map (λ q. node_at a q) (take i pins)) (node_at a p ∷ []) m n)

-- What a node reads goes by the drive of its signal.
pub reads_by : (drives : List Drive) (x : Node) (d : Drive) (old new : Search) → drive_in drives x.signal ≡ d → MeetsMore (reads_of d x.advance) old new → MeetsMore (reads drives x) old new
reads_by drives x d old new is m = subst (λ e. MeetsMore (reads_of e x.advance) old new) (sym is) m

-- A latch with no advance to spend reads nothing.
pub reads_by_end : (drives : List Drive) (x : Node) (next : ℕ) (init : Bool) (s : Search) → drive_in drives x.signal ≡ latch next init → x.advance ≡ 0 → MeetsMore (reads drives x) s s
reads_by_end drives x next init s is low =
    reads_by drives x (latch next init) s s is (subst (λ a. MeetsMore (reads_of (latch next init) a) s s) (sym low) (meets_none s))

-- A latch with an advance to spend reads its next.
pub reads_by_next : (drives : List Drive) (x : Node) (next : ℕ) (init : Bool) (old new : Search) → drive_in drives x.signal ≡ latch next init → x.advance ≢ 0
    → MeetsMore (node_at (x.advance - 1) next ∷ []) old new → MeetsMore (reads drives x) old new
reads_by_next drives x next init old new is high m =
    reads_by drives x (latch next init) old new is (subst (λ (l : List Node). MeetsMore l old new) (sym (next_read x.advance high)) m)
  where
    next_read : (a : ℕ) → a ≢ 0 → reads_of (latch next init) a ≡ node_at (a - 1) next ∷ []
    next_read zero high' = absurd (high' refl)
    next_read (suc less) high' = let e : less ≡ suc less - 1 = omega arith in ap (λ b. node_at b next ∷ []) e

gate_goes_on : (d : Drive) (a : ℕ) → is_gate d ≡ true → is_end_of d a ≡ false
gate_goes_on input a is = cc
gate_goes_on (latch next init) a is = cc
gate_goes_on (gate pins cover) a is = refl

-- A search begins with what its root reads.
pub started : (drives : List Drive) (old new : Search) → IsGate drives old.root.signal → met_by old ≡ [] → left_by old ≡ [] → MeetsMore (reads drives old.root) old new
    → IsStart drives new
started drives old new is none empty m = record {
  root = subst (λ (r : Node). r.signal < length drives) (sym m.root) (gate_within drives old.root.signal is);
  goes_on = subst (λ (r : Node). is_end drives r ≡ false) (sym m.root) (gate_goes_on (drive_in drives old.root.signal) old.root.advance is);
  first = λ y read. m.met y (subst (λ (r : Node). Contains (reads drives r) y) m.root read);
  only = λ x h. subst (λ (r : Node). Contains (reads drives r) x) (sym m.root) (elim (m.only x h) [ inl before ↦ absurd (nothing x before) | inr read ↦ read ]);
  all = λ x h. elim (m.fresh x h) [ inl before ↦ absurd (nothing x before) | inr waits ↦ waits ];
  left = λ x h. elim (m.left x h) [ inl before ↦ absurd (contains-none x (subst (λ (l : List Node). Contains l x) empty before)) | inr read ↦ m.met x read ];
  apart = m.apart (subst (λ (l : List Node). AllPairs (λ a b. a ≢ b) l) (sym none) (λ i j d before inside. absurd (omega arith)));
}
  where
    nothing : (x : Node) → Contains (met_by old) x → ⊥
    nothing x h = contains-none x (subst (λ (l : List Node). Contains l x) none h)

-- The newest of the nodes that are left is taken.
pub record Pops (x : Node) (old new : Search) : Type 0 where
  pub root : new.root ≡ old.root
  pub met : met_by new ≡ met_by old
  pub left : left_by old ≡ left_by new ++ x ∷ []

-- A search under way before the leaves.
pub record IsGoingBefore (drives : List Drive) (leaves : List Node) (s : Search) : Type 0 where
  pub goes_on : is_end drives s.root ≡ false
  pub search : IsSearch drives s
  pub free : (x : Node) → Contains (met_by s) x → ¬ Contains leaves x → IsFree drives leaves s.root x
  pub done : (x : Node) → Contains (met_by s) x
      → Contains (left_by s) x ⊎ (Contains leaves x ⊎ ((is_end drives x ≡ false) × HasMetReads drives s x))

-- A search under way behind the leaves, which goes through the nodes that are above a floor.
pub record IsGoingBehind (drives : List Drive) (above : Node → Type 0) (s : Search) : Type 0 where
  pub search : IsSearch drives s
  pub done : (x : Node) → Contains (met_by s) x → Contains (left_by s) x ⊎ (above x → HasMetReads drives s x)

-- A search begins before the leaves.
pub before_starts : (drives : List Drive) (leaves : List Node) (s : Search) → IsStart drives s → IsGoingBefore drives leaves s
before_starts drives leaves s start = record {
  goes_on = start.goes_on;
  search = record {
    root = start.root;
    first = start.first;
    reached = λ x h. ([], start.only x h);
    left = start.left;
    apart = start.apart;
  };
  free = λ x h other. free_first drives leaves s.root x (start.only x h) other;
  done = λ x h. inl (start.all x h);
}

-- What is left of a search that has one node to go through less.
module _ (drives : List Drive) (s p : Search) (x : Node) (search : IsSearch drives s) (pops : Pops x s p) where
  pub popped_met : Contains (met_by s) x
  popped_met = search.left x (subst (λ (l : List Node). Contains l x) (sym pops.left) (Contains-push (left_by p) x))

  -- It goes on from there by what the node reads.
  module _ (n : Search) (nodes : List Node) (some : (y : Node) → Contains nodes y → Contains (reads drives x) y) (m : MeetsMore nodes p n) where
    same_root : n.root ≡ s.root
    same_root = m.root ∙ pops.root

    keeps : (y : Node) → Contains (met_by s) y → Contains (met_by n) y
    keeps y h = m.kept y (subst (λ (l : List Node). Contains l y) (sym pops.met) h)

    only : (y : Node) → Contains (met_by n) y → Contains (met_by s) y ⊎ Contains nodes y
    only y h = elim (m.only y h) [ inl a ↦ inl (subst (λ (l : List Node). Contains l y) pops.met a) | inr r ↦ inr r ]

    keeps_reads : (y : Node) → HasMetReads drives s y → HasMetReads drives n y
    keeps_reads y all z read = keeps z (all z read)

    -- What was left is left still, but for the node.
    still_left : (y : Node) → Contains (left_by s) y → Contains (left_by n) y ⊎ (x ≡ y)
    still_left y h =
        elim (Contains-push_cases (left_by p) x y (subst (λ (l : List Node). Contains l y) pops.left h)) [
          | inl before ↦ inl (m.stays y before)
          | inr is ↦ inr is
        ]

    -- A node that is met now is left, or had been met.
    now_met : (y : Node) → Contains (met_by n) y → Contains (left_by n) y ⊎ Contains (met_by s) y
    now_met y h = elim (m.fresh y h) [ inl a ↦ inr (subst (λ (l : List Node). Contains l y) pops.met a) | inr waits ↦ inl waits ]

    pub searches_on : IsSearch drives n
    searches_on = record {
      root = subst (λ (r : Node). r.signal < length drives) (sym same_root) search.root;
      first = λ y read. keeps y (search.first y (subst (λ (r : Node). Contains (reads drives r) y) same_root read));
      reached = λ y h. subst (λ (r : Node). IsReached drives r y) (sym same_root) (elim (only y h) [
        | inl before ↦ search.reached y before
        | inr read ↦ let way = search.reached x popped_met in leads_further drives s.root x y way.0 way.1 (some y read)
      ]);
      left = λ y h. elim (m.left y h) [
        | inl before ↦ keeps y (search.left y (subst (λ (l : List Node). Contains l y) (sym pops.left) (Contains-append_left (left_by p) (x ∷ []) y before)))
        | inr read ↦ m.met y read
      ];
      apart = m.apart (subst (λ (l : List Node). AllPairs (λ a b. a ≢ b) l) (sym pops.met) search.apart);
    }

    -- A turn behind the leaves.
    pub behind_turns : (above : Node → Type 0) → IsGoingBehind drives above s → (above x → (y : Node) → Contains (reads drives x) y → Contains nodes y) → IsGoingBehind drives above n
    behind_turns above going all = record {
      search = searches_on;
      done = λ y h. elim (now_met y h) [
        | inl waits ↦ inl waits
        | inr before ↦ elim (going.done y before) [
          | inl left ↦ elim (still_left y left) [
            | inl waits ↦ inl waits
            | inr is ↦ inr (λ up z read. m.met z (all (subst (λ (v : Node). above v) (sym is) up) z (subst (λ (v : Node). Contains (reads drives v) z) (sym is) read)))
          ]
          | inr gone ↦ inr (λ up. keeps_reads y (gone up))
        ]
      ];
    }

    -- A turn before the leaves.
    module _ (leaves : List Node) (going : IsGoingBefore drives leaves s)
        (turn : Contains leaves x ⊎ ((is_end drives x ≡ false) × ((y : Node) → Contains (reads drives x) y → Contains nodes y)))
        (stops : Contains leaves x → (y : Node) → ¬ Contains nodes y) (known : Contains leaves x ⊎ (¬ Contains leaves x)) where
      goes_free : (y : Node) → Contains nodes y → ¬ Contains leaves y → IsFree drives leaves s.root y
      goes_free y read other = elim known [
        | inl leaf ↦ absurd (stops leaf y read)
        | inr no_leaf ↦ free_more drives leaves s.root x y (going.free x popped_met no_leaf) (some y read) other
      ]

      gone_through : (y : Node) → x ≡ y → Contains leaves y ⊎ ((is_end drives y ≡ false) × HasMetReads drives n y)
      gone_through y is =
          subst (λ (v : Node). Contains leaves v ⊎ ((is_end drives v ≡ false) × HasMetReads drives n v)) is
          (elim turn [ inl leaf ↦ inl leaf | inr goes ↦ inr (goes.0, λ z read. m.met z (goes.1 z read)) ])

      pub before_turns : IsGoingBefore drives leaves n
      before_turns = record {
        goes_on = subst (λ (r : Node). is_end drives r ≡ false) (sym same_root) going.goes_on;
        search = searches_on;
        free = λ y h other. subst (λ (r : Node). IsFree drives leaves r y) (sym same_root) (elim (only y h) [
          | inl before ↦ going.free y before other
          | inr read ↦ goes_free y read other
        ]);
        done = λ y h. elim (now_met y h) [
          | inl waits ↦ inl waits
          | inr before ↦ elim (going.done y before) [
            | inl left ↦ elim (still_left y left) [ inl waits ↦ inl waits | inr is ↦ inr (gone_through y is) ]
            | inr (inl leaf) ↦ inr (inl leaf)
            | inr (inr gone) ↦ inr (inr (gone.0, keeps_reads y gone.1))
          ]
        ];
      }

-- A leaf is not gone through.
pub before_leaf : (drives : List Drive) (leaves : List Node) (s p : Search) (x : Node) → IsGoingBefore drives leaves s → Pops x s p → Contains leaves x → IsGoingBefore drives leaves p
before_leaf drives leaves s p x going pops leaf =
    before_turns drives s p x going.search pops p [] (λ y none. absurd (contains-none y none)) (meets_none p) leaves going (inl leaf) (λ _ y none. contains-none y none) (inl leaf)

-- A node that is no leaf and no end is gone through.
pub before_goes : (drives : List Drive) (leaves : List Node) (s p n : Search) (x : Node) → IsGoingBefore drives leaves s → Pops x s p → ¬ Contains leaves x → is_end drives x ≡ false
    → MeetsMore (reads drives x) p n → IsGoingBefore drives leaves n
before_goes drives leaves s p n x going pops other goes m =
    before_turns drives s p x going.search pops n (reads drives x) (λ y read. read) m leaves going (inr (goes, λ y read. read)) (λ leaf y read. other leaf) (inr other)

-- An end that is no leaf refutes the cover.
pub before_ends : (drives : List Drive) (leaves : List Node) (s p : Search) (x : Node) → IsGoingBefore drives leaves s → Pops x s p → ¬ Contains leaves x → is_end drives x ≡ true
    → ¬ Covers drives leaves s.root
before_ends drives leaves s p x going pops other stops =
    free_end_refutes drives leaves s.root x (going.free x (popped_met drives s p x going.search pops) other) stops

-- Behind the leaves a node is gone through.
pub behind_goes : (drives : List Drive) (above : Node → Type 0) (s p n : Search) (x : Node) → IsGoingBehind drives above s → Pops x s p → MeetsMore (reads drives x) p n
    → IsGoingBehind drives above n
behind_goes drives above s p n x going pops m =
    behind_turns drives s p x going.search pops n (reads drives x) (λ y read. read) m above going (λ up y read. read)

-- A node that is not above the floor is passed over.
pub behind_skips : (drives : List Drive) (above : Node → Type 0) (s p : Search) (x : Node) → IsGoingBehind drives above s → Pops x s p → ¬ above x → IsGoingBehind drives above p
behind_skips drives above s p x going pops not =
    behind_turns drives s p x going.search pops p [] (λ y none. absurd (contains-none y none)) (meets_none p) above going (λ up. absurd (not up))

-- A search with other nodes left, all of them met.
search_same : (drives : List Drive) (s p : Search) → p.root ≡ s.root → met_by p ≡ met_by s → ((x : Node) → Contains (left_by p) x → Contains (met_by s) x) → IsSearch drives s → IsSearch drives p
search_same drives s p root met left search = record {
  root = subst (λ (r : Node). r.signal < length drives) (sym root) search.root;
  first = λ y read. subst (λ (l : List Node). Contains l y) (sym met) (search.first y (subst (λ (r : Node). Contains (reads drives r) y) root read));
  reached = λ x h. subst (λ (r : Node). IsReached drives r x) (sym root) (search.reached x (subst (λ (l : List Node). Contains l x) met h));
  left = λ x h. subst (λ (l : List Node). Contains l x) (sym met) (left x h);
  apart = subst (λ (l : List Node). AllPairs (λ a b. a ≢ b) l) (sym met) search.apart;
}

module _ (drives : List Drive) (s p : Search) (root : p.root ≡ s.root) (met : met_by p ≡ met_by s) (empty : left_by s ≡ []) (none : left_by p ≡ []) where
  was_met : (x : Node) → Contains (met_by p) x → Contains (met_by s) x
  was_met x h = subst (λ (l : List Node). Contains l x) met h

  is_met : (x : Node) → Contains (met_by s) x → Contains (met_by p) x
  is_met x h = subst (λ (l : List Node). Contains l x) (sym met) h

  none_left : (x : Node) → Contains (left_by p) x → Contains (met_by s) x
  none_left x h = absurd (contains-none x (subst (λ (l : List Node). Contains l x) none h))

  -- Before the leaves the search ends where nothing is left.
  pub before_done : (leaves : List Node) → IsGoingBefore drives leaves s → IsBeforeLeaves drives leaves p
  before_done leaves going = record {
    search = search_same drives s p root met none_left going.search;
    empty = none;
    guarded = λ walk is. guards s.root going.goes_on going.search.first walk (subst (λ (r : Node). IsWalk drives r walk) root is);
    gone = λ x h. elim (gone x (was_met x h)) [ inl leaf ↦ inl leaf | inr more ↦ inr (λ y read. is_met y (more.1 y read)) ];
  }
    where
      gone : (x : Node) → Contains (met_by s) x → Contains leaves x ⊎ ((is_end drives x ≡ false) × HasMetReads drives s x)
      gone x h = elim (going.done x h) [ inl left ↦ absurd (contains-none x (subst (λ (l : List Node). Contains l x) empty left)) | inr more ↦ more ]

      guards : (x : Node) → is_end drives x ≡ false → HasMetReads drives s x → (walk : List Node) → IsWalk drives x walk → MeetsLeaf leaves walk
      guards x goes all [] walk = let stops : is_end drives x ≡ true = walk in cc
      guards x goes all (y ∷ rest) walk =
          elim (gone y (all y walk.0)) [
            | inl leaf ↦ (y, contains-first y rest, leaf)
            | inr more ↦ let met' = guards y more.0 more.1 rest walk.1 in (met'.0, contains-rest y rest met'.0 met'.1, met'.2)
          ]

  -- Behind the leaves the search ends where nothing is left.
  pub behind_done : (above : Node → Type 0) → IsGoingBehind drives above s → IsSearch drives p × ((x : Node) → Contains (met_by p) x → above x → HasMetReads drives p x)
  behind_done above going = (
    search_same drives s p root met none_left going.search,
    λ x h up. elim (going.done x (was_met x h)) [
      | inl left ↦ absurd (contains-none x (subst (λ (l : List Node). Contains l x) empty left))
      | inr more ↦ λ y read. is_met y (more up y read)
    ],
  )

-- The leaves that were met are taken up.
pub behind_starts : (drives : List Drive) (above : Node → Type 0) (leaves : List Node) (old new : Search) → IsBeforeLeaves drives leaves old → TakesUp leaves old new
    → IsGoingBehind drives above new
behind_starts drives above leaves old new before takes = record {
  search = search_same drives old new takes.root takes.met (λ x h. elim (takes.left x h) [ inl left ↦ before.search.left x left | inr met ↦ met ]) before.search;
  done = λ x h. elim (before.gone x (was x h)) [ inl leaf ↦ inl (takes.taken x leaf (was x h)) | inr gone ↦ inr (λ up y read. keeps y (gone y read)) ];
}
  where
    keeps : (x : Node) → Contains (met_by old) x → Contains (met_by new) x
    keeps x h = subst (λ (l : List Node). Contains l x) (sym takes.met) h

    was : (x : Node) → Contains (met_by new) x → Contains (met_by old) x
    was x h = subst (λ (l : List Node). Contains l x) takes.met h

-- Where all leaves are met before the leaves they cover the root.
pub covers_before : (drives : List Drive) (leaves : List Node) (s : Search) → IsBeforeLeaves drives leaves s → ((x : Node) → Contains leaves x → Contains (met_by s) x) → Covers drives leaves s.root
covers_before drives leaves s before all = record { met = before.guarded; reached = λ y leaf. before.search.reached y (all y leaf) }

-- Where a search has gone down to the lowest missing leaf the leaves cover the root exactly where all are met.
covers_out : (c : Plain) (floor : Node) (leaves : List Node) (old s : Search) → IsBeforeLeaves c.drives leaves old → HasGoneDownTo c floor old s
    → ((x : Node) → Contains leaves x → Contains (met_by s) x) → Covers c.drives leaves old.root
covers_out c floor leaves old s before out all = record {
  met = before.guarded;
  reached = λ y leaf. subst (λ (r : Node). IsReached c.drives r y) out.root (out.search.reached y (all y leaf));
}

covered_out : (c : Plain) → IsSound c → (floor : Node) (leaves : List Node) (old s : Search) → IsLowestMissing c leaves old floor → HasGoneDownTo c floor old s
    → Covers c.drives leaves old.root → (x : Node) → Contains leaves x → Contains (met_by s) x
covered_out c sound floor leaves old s low out covers x leaf = by (list_any (λ (y : Node). node_eq x y) (met_by old)) refl
  where
    by : (b : Bool) → list_any (λ (y : Node). node_eq x y) (met_by old) ≡ b → Contains (met_by s) x
    by true e = out.kept x ((node_found x (met_by old)).0 e)
    by false e =
        let way = covers.reached x leaf in
        let missing : ¬ Contains (met_by old) x = λ h. false≢true (sym e ∙ (node_found x (met_by old)).1 h) in
        reaches_down c sound floor (met_by s) x (low.lowest x leaf missing) (λ z y met up read. out.closed z met up y read) old.root
        (λ y read. out.search.first y (subst (λ (r : Node). Contains (reads c.drives r) y) (sym out.root) read)) way.0 way.1

-- The answer where all leaves are met before the leaves.
pub covers_first : (drives : List Drive) (leaves : List Node) (x : Node) (s : Search) → IsBeforeLeaves drives leaves s → s.root ≡ x
    → ((y : Node) → Contains leaves y → Contains (met_by s) y) → Decides true (Covers drives leaves x)
covers_first drives leaves x s before root all = (λ _. subst (λ (r : Node). Covers drives leaves r) root (covers_before drives leaves s before all), λ _. refl)

-- The answer where the search went behind the leaves.
pub covers_last : (c : Plain) → IsSound c → (floor : Node) (leaves : List Node) (x : Node) (old s : Search) (b : Bool) → IsBeforeLeaves c.drives leaves old
    → IsLowestMissing c leaves old floor → HasGoneDownTo c floor old s → old.root ≡ x → Decides b ((y : Node) → Contains leaves y → Contains (met_by s) y)
    → Decides b (Covers c.drives leaves x)
covers_last c sound floor leaves x old s b before low out from met =
    subst (λ (r : Node). Decides b (Covers c.drives leaves r)) from
    (Decides-like b (λ (all : (y : Node) → Contains leaves y → Contains (met_by s) y). covers_out c floor leaves old s before out all)
    (λ (covers : Covers c.drives leaves old.root). covered_out c sound floor leaves old s low out covers) met)

-- The leaves up to a place are taken up, and one more that was met.
module _ (leaves : List Node) (i : ℕ) (x : Node) (old mid : Search) (takes : TakesUp (take i leaves) old mid) (within : i < length leaves) (is : x ≡ get_or leaves i x) where
  leaf_cases : (y : Node) → Contains (take (i + 1) leaves) y → Contains (take i leaves) y ⊎ (x ≡ y)
  leaf_cases y stands =
      Contains-push_cases (take i leaves) x y (subst (λ (l : List Node). Contains l y) (take_more leaves i x within ∙ ap (λ v. take i leaves ++ v ∷ []) (sym is)) stands)

  pub takes_more : (new : Search) → new.root ≡ mid.root → met_by new ≡ met_by mid → left_by new ≡ left_by mid ++ x ∷ [] → Contains (met_by mid) x → TakesUp (take (i + 1) leaves) old new
  takes_more new root met left stands = record {
    root = root ∙ takes.root;
    met = met ∙ takes.met;
    stays = λ y h. keeps y (takes.stays y h);
    taken = λ y leaf h. elim (leaf_cases y leaf) [
      | inl before ↦ keeps y (takes.taken y before h)
      | inr same ↦ subst (λ (l : List Node). Contains l y) (sym left) (subst (λ (v : Node). Contains (left_by mid ++ x ∷ []) v) same (Contains-push (left_by mid) x))
    ];
    left = λ y h. elim (Contains-push_cases (left_by mid) x y (subst (λ (l : List Node). Contains l y) left h)) [
      | inl before ↦ takes.left y before
      | inr same ↦ inr (subst (λ (v : Node). Contains (met_by old) v) same (subst (λ (l : List Node). Contains l x) takes.met stands))
    ];
  }
    where
      keeps : (y : Node) → Contains (left_by mid) y → Contains (left_by new) y
      keeps y h = subst (λ (l : List Node). Contains l y) (sym left) (Contains-append_left (left_by mid) (x ∷ []) y h)

  -- A leaf that was not met is not taken up.
  pub takes_same : (¬ Contains (met_by mid) x) → TakesUp (take (i + 1) leaves) old mid
  takes_same other = record {
    root = takes.root;
    met = takes.met;
    stays = takes.stays;
    taken = λ y leaf h. elim (leaf_cases y leaf) [
      | inl before ↦ takes.taken y before h
      | inr same ↦ absurd (other (subst (λ (l : List Node). Contains l x) (sym takes.met) (subst (λ (v : Node). Contains (met_by old) v) (sym same) h)))
    ];
    left = takes.left;
  }
