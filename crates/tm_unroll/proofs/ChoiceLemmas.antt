-- Searches of lists, by a test of each item: an item for which it holds, or none.
use Rattle.std.proofs.Common.{◌≡◌, ◌⊎◌, inl, inr, List, [], ◌∷◌, refl, sym, ap, subst}
use Rattle.std.specs.Prelude.{Contains}
use Rattle.std.proofs.lemmas.Bool.{cases_eq}
use Rattle.tm_circuit.proofs.ListLemmas.{contains-first, contains-rest, contains-cases, contains-none}
use Rattle.tm_unroll.specs.declared.node.Node.{Node}
use Rattle.tm_unroll.proofs.ReadLemmas.{same_node}

-- It holds or it does not.
abbrev pub Holds : Type 0 → Type 0
Holds P = P ⊎ (¬ P)

pub some_or_none : {A : Type 0} (P : A → Type 0) (xs : List A) → ((x : A) → Contains xs x → Holds (P x))
    → ((x : A) × Contains xs x × P x) ⊎ ((x : A) → Contains xs x → ¬ P x)
some_or_none P [] each = inr (λ x none. absurd (contains-none x none))
some_or_none {A} P (y ∷ xs) each =
    elim (each y (contains-first y xs)) [
      | inl here ↦ inl (y, contains-first y xs, here)
      | inr other ↦
          elim (some_or_none P xs (λ x stands. each x (contains-rest y xs x stands))) [
            | inl (x, stands, is) ↦ inl (x, contains-rest y xs x stands, is)
            | inr none ↦ inr (λ x stands is. elim (contains-cases y xs x stands) [ inl e ↦ other (subst P (sym e) is) | inr later ↦ none x later is ])
          ]
    ]

-- Whether two nodes are one.
pub same_or_other : (x y : Node) → Holds (x ≡ y)
same_or_other x y =
    elim (cases_eq x.signal y.signal) [
      | inl signal ↦
          elim (cases_eq x.advance y.advance) [
            | inl advance ↦ inl (same_node x y signal advance)
            | inr differs ↦ inr (λ e. differs (ap (λ (n : Node). n.advance) e))
          ]
      | inr differs ↦ inr (λ e. differs (ap (λ (n : Node). n.signal) e))
    ]

-- Whether a node stands in a list.
pub node_stands : (xs : List Node) (x : Node) → Holds (Contains xs x)
node_stands xs x =
    elim (some_or_none (λ (y : Node). y ≡ x) xs (λ y stands. same_or_other y x)) [
      | inl (y, stands, is) ↦ inl (subst (λ (n : Node). Contains xs n) is stands)
      | inr none ↦ inr (λ stands. none x stands refl)
    ]
