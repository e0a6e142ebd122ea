-- The values of literals and pieces, and that rounds keep them.
use Rattle.std.proofs.Common.{◌≡◌, ℕ, zero, suc, ◌+◌, Bool, true, false, not, ◌&&◌, ◌||◌, List, [], ◌∷◌, ◌++◌, length, refl, sym, ◌∙◌, ap, subst, append_assoc, arith}
use Rattle.std.proofs.lemmas.List.{append-nil}
use Rattle.std.specs.Prelude.{if◌then◌else◌}
use Rattle.tm_split.specs.declared.piece.Wire.{Wire}
use Rattle.tm_split.specs.declared.piece.Wire.TheVariants.{Made}
use Rattle.tm_split.specs.declared.piece.Literal.{Literal}
use Rattle.tm_split.specs.declared.piece.Piece.{Piece}
use Rattle.tm_split.specs.declared.piece.Piece.TheVariants.{NoRow, BareRow, Alone, Both, Either}
use Rattle.tm_split.specs.Pieces.{Reduction, joined, left_after, round, rounds, reduced}

-- The value of a literal where the wires have these bits.
abbrev pub literal_value : (Wire → Bool) → Literal → Bool
literal_value v l = if l.positive then v l.wire else not (v l.wire)

-- The value of a piece as an on cover.
abbrev pub piece_value : (Wire → Bool) → Piece → Bool
piece_value v NoRow = false
piece_value v BareRow = true
piece_value v (Alone a) = literal_value v a
piece_value v (Both a b) = literal_value v a && literal_value v b
piece_value v (Either a b) = literal_value v a || literal_value v b

-- Each piece, from the one numbered `n`, has the value that its wires ask for.
abbrev pub Obeys : (Wire → Bool) → ℕ → List Piece → Type 0
Obeys v n [] = Unit {0}
Obeys v n (piece ∷ rest) = (v (Made n) ≡ piece_value v piece) × Obeys v (suc n) rest

pub obeys_first : (v : Wire → Bool) (n : ℕ) (xs ys : List Piece) → Obeys v n (xs ++ ys) → Obeys v n xs
obeys_first v n [] ys obeys = tt
obeys_first v n (x ∷ xs) ys obeys = (obeys.0, obeys_first v (suc n) xs ys obeys.1)

pub obeys_second : (v : Wire → Bool) (n : ℕ) (xs ys : List Piece) → Obeys v n (xs ++ ys) → Obeys v (n + length xs) ys
obeys_second v n [] ys obeys =
    let same : n ≡ n + 0 = omega arith in
    subst (λ (k : ℕ). Obeys v k ys) same obeys
obeys_second v n (x ∷ xs) ys obeys =
    let same : suc n + length xs ≡ n + suc (length xs) = omega arith in
    subst (λ (k : ℕ). Obeys v k ys) same (obeys_second v (suc n) xs ys obeys.1)

-- The literals joined by an operation, from the last on.
abbrev pub folded : (Bool → Bool → Bool) → Bool → (Wire → Bool) → List Literal → Bool
folded op unit v [] = unit
folded op unit v (l ∷ ls) = op (literal_value v l) (folded op unit v ls)

-- An operation that may be grouped either way, with a neutral bit, and what a join of two literals means.
pub record IsJoin (op : Bool → Bool → Bool) (unit : Bool) (join : Literal → Literal → Piece) : Type 0 where
  pub groups : (a b c : Bool) → op (op a b) c ≡ op a (op b c)
  pub neutral : (a : Bool) → op a unit ≡ a
  pub joins : (v : Wire → Bool) (a b : Literal) → piece_value v (join a b) ≡ op (literal_value v a) (literal_value v b)

and_groups : (a b c : Bool) → ((a && b) && c) ≡ (a && (b && c))
and_groups true b c = refl
and_groups false b c = refl

or_groups : (a b c : Bool) → ((a || b) || c) ≡ (a || (b || c))
or_groups true b c = refl
or_groups false b c = refl

pub and_neutral : (a : Bool) → (a && true) ≡ a
and_neutral true = refl
and_neutral false = refl

pub or_neutral : (a : Bool) → (a || false) ≡ a
or_neutral true = refl
or_neutral false = refl

pub both_joins : IsJoin (λ a b. a && b) true (λ a b. Both a b)
both_joins = record { groups = and_groups; neutral = and_neutral; joins = λ v a b. refl }

pub either_joins : IsJoin (λ a b. a || b) false (λ a b. Either a b)
either_joins = record { groups = or_groups; neutral = or_neutral; joins = λ v a b. refl }

-- A round keeps the value of all literals together.
left_value : (op : Bool → Bool → Bool) (unit : Bool) (join : Literal → Literal → Piece) → IsJoin op unit join
    → (v : Wire → Bool) (n : ℕ) (ls : List Literal) → Obeys v n (joined join ls)
    → folded op unit v (left_after n ls) ≡ folded op unit v ls
left_value op unit join is v n [] obeys = refl
left_value op unit join is v n (a ∷ []) obeys = refl
left_value op unit join is v n (a ∷ b ∷ rest) obeys =
    let here : v (Made n) ≡ op (literal_value v a) (literal_value v b) = obeys.0 ∙ is.joins v a b in
    let others : folded op unit v (left_after (suc n) rest) ≡ folded op unit v rest = left_value op unit join is v (suc n) rest obeys.1 in
    ap (λ x. op x (folded op unit v (left_after (suc n) rest))) here
    ∙ (ap (λ x. op (op (literal_value v a) (literal_value v b)) x) others
    ∙ is.groups (literal_value v a) (literal_value v b) (folded op unit v rest))

-- What was made stays.
rounds_keep : (join : Literal → Literal → Piece) (m : ℕ) (r : Reduction)
    → (more : List Piece) × ((rounds join m r).pieces ≡ r.pieces ++ more)
rounds_keep join zero r = ([], sym (append-nil r.pieces))
rounds_keep join (suc m) r =
    let (more, is) = rounds_keep join m (round join r) in
    (joined join r.left ++ more, is ∙ append_assoc r.pieces (joined join r.left) more)

pub reduced_keeps : (join : Literal → Literal → Piece) (r : Reduction)
    → (more : List Piece) × ((reduced join r).pieces ≡ r.pieces ++ more)
reduced_keeps join r = rounds_keep join (length r.left) r

rounds_value : (op : Bool → Bool → Bool) (unit : Bool) (join : Literal → Literal → Piece) → IsJoin op unit join
    → (v : Wire → Bool) (m : ℕ) (r : Reduction) → Obeys v 0 (rounds join m r).pieces
    → folded op unit v (rounds join m r).left ≡ folded op unit v r.left
rounds_value op unit join is v zero r obeys = refl
rounds_value op unit join is v (suc m) r obeys =
    let (more, kept) = rounds_keep join m (round join r) in
    let first : Obeys v 0 (r.pieces ++ joined join r.left) = obeys_first v 0 (r.pieces ++ joined join r.left) more (subst (λ (ps : List Piece). Obeys v 0 ps) kept obeys) in
    let same : 0 + length r.pieces ≡ length r.pieces = omega arith in
    let pairs : Obeys v (length r.pieces) (joined join r.left) = subst (λ (k : ℕ). Obeys v k (joined join r.left)) same (obeys_second v 0 r.pieces (joined join r.left) first) in
    rounds_value op unit join is v m (round join r) obeys ∙ left_value op unit join is v (length r.pieces) r.left pairs

pub reduced_value : (op : Bool → Bool → Bool) (unit : Bool) (join : Literal → Literal → Piece) → IsJoin op unit join
    → (v : Wire → Bool) (r : Reduction) → Obeys v 0 (reduced join r).pieces
    → folded op unit v (reduced join r).left ≡ folded op unit v r.left
reduced_value op unit join is v r obeys = rounds_value op unit join is v (length r.left) r obeys
