-- How a list of nodes grows by the nodes that are met.
use Rattle.std.proofs.Common.{◌≡◌, ◌≢◌, ℕ, zero, suc, ◌+◌, ◌-◌, ◌<◌, inl, inr, Bool, true, false, cond, List, [], ◌∷◌, ◌++◌, map, length, get_or, take, refl, sym, ◌∙◌, ap, subst, append_assoc, arith}
use Rattle.std.specs.Prelude.{Contains}
use Rattle.std.specs.List.{list_any}
use Rattle.std.specs.Bool.{Decides}
use Rattle.std.proofs.lemmas.Bool.{false≢true}
use Rattle.std.proofs.lemmas.List.{take_more, map-append}
use Rattle.std.proofs.lemmas.List.Elements.{Contains-append_left, Contains-append_right, Contains-append_cases}
use Rattle.tm_circuit.specs.Plain.{Drive, latch, drive_in}
use Rattle.tm_circuit.proofs.ListLemmas.{contains-cases, contains-none}
use Rattle.tm_unroll.specs.declared.node.Node.{Node}
use Rattle.tm_unroll.specs.Nodes.{node_at, reads_of, reads}
use Rattle.tm_unroll.proofs.ListLemmas.{pairs-push}
use Rattle.tm_unroll.proofs.SearchLemmas.{found_by}
use Rattle.tm_cone.specs.Searches.{Meets}

-- The only one of a list.
pub only_one : (x y : Node) → Contains (x ∷ []) y → x ≡ y
only_one x y stands = elim (contains-cases x [] y stands) [ inl is ↦ is | inr none ↦ absurd (contains-none y none) ]

append_none : (xs : List Node) → xs ++ [] ≡ xs
append_none [] = refl
append_none (x ∷ xs) = ap (λ l. x ∷ l) (append_none xs)

-- No node is met.
pub meets_none : (nodes : List Node) → Meets [] nodes nodes
meets_none nodes = record {
  more = [];
  is = sym (append_none nodes);
  from = λ x h. h;
  met = λ x h. absurd (contains-none x h);
  apart = λ h. h;
}

meets_new : (old : List Node) (x : Node) → ¬ Contains old x → Meets (x ∷ []) old (old ++ x ∷ [])
meets_new old x other = record {
  more = x ∷ [];
  is = refl;
  from = λ y h. h;
  met = λ y h. Contains-append_right old (x ∷ []) y h;
  apart = λ h. pairs-push (λ (a : Node) (b : Node). a ≢ b) old x h (λ y stands e. other (subst (λ (v : Node). Contains old v) e stands));
}

meets_again : (old : List Node) (x : Node) → Contains old x → Meets (x ∷ []) old old
meets_again old x there = record {
  more = [];
  is = sym (append_none old);
  from = λ y h. absurd (contains-none y h);
  met = λ y h. subst (λ (v : Node). Contains old v) (only_one x y h) there;
  apart = λ h. h;
}

-- What a set inserts is met.
pub meets_insert : (old new : List Node) (x : Node) (test : Node → Bool) → ((y : Node) → Decides (test y) (x ≡ y))
    → new ≡ cond (list_any test old) old (old ++ x ∷ []) → Meets (x ∷ []) old new
meets_insert old new x test each keys = subst (λ (l : List Node). Meets (x ∷ []) old l) (sym keys) (by (list_any test old) refl)
  where
    by : (b : Bool) → list_any test old ≡ b → Meets (x ∷ []) old (cond b old (old ++ x ∷ []))
    by true is = meets_again old x ((found_by x test each old).0 is)
    by false is = meets_new old x (λ stands. false≢true (sym is ∙ (found_by x test each old).1 stands))

-- Nodes are met one after another.
pub meets_more : (old mid new : List Node) (xs ys : List Node) → Meets xs old mid → Meets ys mid new → Meets (xs ++ ys) old new
meets_more old mid new xs ys m n = record {
  more = m.more ++ n.more;
  is = n.is ∙ ap (λ (l : List Node). l ++ n.more) m.is ∙ append_assoc old m.more n.more;
  from = λ x h. elim (Contains-append_cases m.more n.more x h) [
    | inl a ↦ Contains-append_left xs ys x (m.from x a)
    | inr b ↦ Contains-append_right xs ys x (n.from x b)
  ];
  met = λ x h. elim (Contains-append_cases xs ys x h) [
    | inl a ↦ subst (λ (l : List Node). Contains l x) (sym n.is) (Contains-append_left mid n.more x (m.met x a))
    | inr b ↦ n.met x b
  ];
  apart = λ h. n.apart (m.apart h);
}

-- One pin more is met.
pub pins_more : (old mid new : List Node) (pins : List ℕ) (a i p : ℕ) → Meets (map (λ q. node_at a q) (take i pins)) old mid → i < length pins → p ≡ get_or pins i p
    → Meets (node_at a p ∷ []) mid new → Meets (map (λ q. node_at a q) (take (i + 1) pins)) old new
pins_more old mid new pins a i p m within is n =
    let more : take (i + 1) pins ≡ take i pins ++ p ∷ [] = take_more pins i p within ∙ ap (λ v. take i pins ++ v ∷ []) (sym is) in
    let nodes : map (λ q. node_at a q) (take (i + 1) pins) ≡ map (λ q. node_at a q) (take i pins) ++ node_at a p ∷ [] = ap (λ l. map (λ q. node_at a q) l) more ∙ map-append (λ q. node_at a q) (take i pins) (p ∷ []) in
    subst (λ (l : List Node). Meets l old new) (sym nodes) (meets_more old mid new (map (λ q. node_at a q) (take i pins)) (node_at a p ∷ []) m n)

-- What a node reads goes by the drive of its signal.
pub reads_by : (drives : List Drive) (x : Node) (d : Drive) (old new : List Node) → drive_in drives x.signal ≡ d → Meets (reads_of d x.advance) old new
    → Meets (reads drives x) old new
reads_by drives x d old new is m = subst (λ e. Meets (reads_of e x.advance) old new) (sym is) m

-- A latch with no advance to spend reads nothing.
pub reads_by_end : (drives : List Drive) (x : Node) (next : ℕ) (init : Bool) (nodes : List Node) → drive_in drives x.signal ≡ latch next init → x.advance ≡ 0
    → Meets (reads drives x) nodes nodes
reads_by_end drives x next init nodes is low =
    reads_by drives x (latch next init) nodes nodes is (subst (λ a. Meets (reads_of (latch next init) a) nodes nodes) (sym low) (meets_none nodes))

-- A latch with an advance to spend reads its next.
pub next_read : (next : ℕ) (init : Bool) (a : ℕ) → a ≢ 0 → reads_of (latch next init) a ≡ node_at (a - 1) next ∷ []
next_read next init zero high = absurd (high refl)
next_read next init (suc less) high = let e : less ≡ suc less - 1 = omega arith in ap (λ b. node_at b next ∷ []) e

pub reads_by_next : (drives : List Drive) (x : Node) (next : ℕ) (init : Bool) (old new : List Node) → drive_in drives x.signal ≡ latch next init → x.advance ≢ 0
    → Meets (node_at (x.advance - 1) next ∷ []) old new → Meets (reads drives x) old new
reads_by_next drives x next init old new is high m =
    reads_by drives x (latch next init) old new is (subst (λ (l : List Node). Meets l old new) (sym (next_read next init x.advance high)) m)
