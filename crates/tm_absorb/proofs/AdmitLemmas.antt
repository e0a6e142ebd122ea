-- Whether a table has room for another one, and what a list of gates says of who admits it.
use Rattle.std.proofs.Common.{◌≡◌, ◌≢◌, ◌⊎◌, ℕ, ◌+◌, ◌<◌, ◌≤◌, Bool, true, false, List, ◌++◌, length, take, drop, get_or, Option, None, Some, Result, Ok, Err, refl, sym, ◌∙◌, ap, subst, inl, inr, arith}
use Rattle.std.specs.List.{list_any}
use Rattle.std.specs.Prelude.{◌↔◌, Contains, IfOk, IsTrue, MatchBool, MatchOption}
use Rattle.std.proofs.lemmas.Bool.{false≢true}
use Rattle.std.proofs.lemmas.List.{take-append-drop, get_or-take, length-take}
use Rattle.std.proofs.lemmas.List.Elements.{Contains-append_cases}
use Rattle.tm_circuit.specs.Plain.{Drive}
use Rattle.tm_circuit.specs.Source.{IsSource}
use Rattle.tm_circuit.specs.declared.sources.Source.TheVariants.{Gate}
use Rattle.tm_unroll.specs.declared.node.Node.{Node}
use Rattle.tm_unroll.specs.Mappings.{Table, root}
use Rattle.tm_unroll.specs.Replaced.{IsReplacement, ReplacesBeyond}
use Rattle.tm_unroll.proofs.SearchLemmas.{node_eq, node_found_back}
use Rattle.tm_absorb.specs.Absorbing.{Reads, TakesIn}
use Rattle.tm_absorb.specs.Admitting.{IsRootOrOther, HasRoom}

-- A search among the leaves for the root of a table tells whether it is read.
pub found_reads : (t u : Table) (leaves : List Node) (x : Node) (found : Bool) → leaves ≡ u.leaves → x ≡ root t → found ≡ list_any (λ (y : Node). node_eq y x) leaves
    → found ≡ true → Reads u t
found_reads t u leaves x found same at is true-is =
    subst (λ (y : Node). Contains u.leaves y) at (subst (λ (l : List Node). Contains l x) same ((node_found_back x leaves).0 (sym is ∙ true-is)))

pub not_found_reads : (t u : Table) (leaves : List Node) (x : Node) (found : Bool) → leaves ≡ u.leaves → x ≡ root t → found ≡ list_any (λ (y : Node). node_eq y x) leaves
    → found ≡ false → ¬ Reads u t
not_found_reads t u leaves x found same at is false-is reads =
    false≢true (sym false-is ∙ is ∙ (node_found_back x leaves).1
    (subst (λ (l : List Node). Contains l x) (sym same) (subst (λ (y : Node). Contains u.leaves y) (sym at) reads)))

-- What does not read a table has room for it.
pub room_unread : (k : ℕ) (t u : Table) → ¬ Reads u t → HasRoom k t u
room_unread k t u never reads = absurd (never reads)

pub room_found : (k : ℕ) (t u : Table) (new : List Node) → IsReplacement k u.leaves (root t) t.leaves new → HasRoom k t u
room_found k t u new is reads = (new, is)

pub room_beyond : (k : ℕ) (t u : Table) → Reads u t → ReplacesBeyond k u.leaves (root t) t.leaves → HasRoom k t u → ⊥
room_beyond k t u reads beyond room =
    let new = room reads in
    let more = beyond new.0 new.1.replaces in
    let few = new.1.few in
    omega (arith, more, few)

-- What holds of the gates from a place on and of those before it holds of all.
pub each_side : (P : ℕ → Type 0) (gates : List ℕ) (place : ℕ) → ((g : ℕ) → Contains (drop place gates) g → P g) → ((g : ℕ) → Contains (take place gates) g → P g)
    → (g : ℕ) → Contains gates g → P g
each_side P gates place after before g stands =
    elim (Contains-append_cases (take place gates) (drop place gates) g (subst (λ (gs : List ℕ). Contains gs g) (sym (take-append-drop place gates)) stands)) [
      | inl early ↦ before g early
      | inr late ↦ after g late
    ]

-- A search from a place on found none, and one from the beginning ended.
pub from_front : {E : Type 0} (P Q : ℕ → Type 0) (gates back front : List ℕ) (place : ℕ) (r : Result (Option ℕ) E) → back ≡ drop place gates → front ≡ take place gates
    → ((g : ℕ) → Contains back g → P g) → IfOk r (λ first. MatchOption first ((g : ℕ) → Contains front g → P g) (λ at. (at < length front) × Q (get_or front at 0)))
    → IfOk r (λ refuser. MatchOption refuser ((g : ℕ) → Contains gates g → P g) (λ at. Q (get_or gates at 0)))
from_front P Q gates back front place (Ok None) back-is front-is after before =
    each_side P gates place (λ g stands. after g (subst (λ (gs : List ℕ). Contains gs g) (sym back-is) stands))
    (λ g stands. before g (subst (λ (gs : List ℕ). Contains gs g) (sym front-is) stands))
from_front P Q gates back front place (Ok (Some at)) back-is front-is after (inside, is) =
    let short = length-take place gates in
    let long = ap length front-is in
    subst Q (ap (λ (gs : List ℕ). get_or gs at 0) front-is ∙ get_or-take place gates at 0 (omega (arith, inside, short, long))) is
from_front P Q gates back front place (Err e) back-is front-is after before = before

-- A leaf whose source is the gate of a table is its root or not.
pub root_or_other : (drives : List Drive) (t : Table) (x : Node) (b : Bool) → IsSource drives x.signal (Gate t.gate) → IsTrue b ↔ (x ≡ root t)
    → MatchBool b (IsRootOrOther drives t x) (IsRootOrOther drives t x → ⊥)
root_or_other drives t x true source is = λ _. is.0 refl
root_or_other drives t x false source is = λ other. false≢true (is.1 (other source))
