-- Rounds of pairing: how many gates they make, what is left, and what the gates read.
use Rattle.std.proofs.Common.{◌≡◌, ℕ, zero, suc, ◌+◌, ◌-◌, ◌<◌, ◌≤◌, Bool, List, [], ◌∷◌, ◌++◌, length, take, drop, get_or, refl, sym, ◌∙◌, ap, subst, append_assoc, inl, inr, length-append, arith}
use Rattle.std.proofs.lemmas.Bool.{cases_lt}
use Rattle.std.proofs.lemmas.List.{append-nil, take_all}
use Rattle.tm_split.specs.declared.piece.Wire.{Wire}
use Rattle.tm_split.specs.declared.piece.Wire.TheVariants.{Pin, Made}
use Rattle.tm_split.specs.declared.piece.Literal.{Literal}
use Rattle.tm_split.specs.declared.piece.Piece.{Piece}
use Rattle.tm_split.specs.declared.piece.Piece.TheVariants.{Both, Either}
use Rattle.tm_split.specs.Pieces.{made, Reduction, reduction, joined, left_after, round, rounds, reduced}
use Rattle.tm_split.specs.Making.{IsWireBy, IsWiredBy, AreWiredBy}

-- ---- how many

-- Each gate of a round takes two literals and leaves one.
pub length-left_after : (join : Literal → Literal → Piece) (n : ℕ) (ls : List Literal)
    → length (joined join ls) + length (left_after n ls) ≡ length ls
length-left_after join n [] = refl
length-left_after join n (a ∷ []) = refl
length-left_after join n (a ∷ b ∷ rest) =
    let more : length (joined join rest) + length (left_after (suc n) rest) ≡ length rest = length-left_after join (suc n) rest in
    omega arith

left_some : (n : ℕ) (ls : List Literal) → 0 < length ls → 0 < length (left_after n ls)
left_some n [] some = some
left_some n (a ∷ []) some = omega arith
left_some n (a ∷ b ∷ rest) some = omega arith

joined_some : (join : Literal → Literal → Piece) (ls : List Literal) → 1 < length ls → 0 < length (joined join ls)
joined_some join [] some = absurd (omega arith)
joined_some join (a ∷ []) some = absurd (omega arith)
joined_some join (a ∷ b ∷ rest) some = omega arith

pub left_fewer : (n : ℕ) (ls : List Literal) → 1 < length ls → length (left_after n ls) < length ls
left_fewer n [] some = absurd (omega arith)
left_fewer n (a ∷ []) some = absurd (omega arith)
left_fewer n (a ∷ b ∷ rest) some =
    let join : Literal → Literal → Piece = λ x y. Both x y in
    let all : length (joined join (a ∷ b ∷ rest)) + length (left_after n (a ∷ b ∷ rest)) ≡ length (a ∷ b ∷ rest) = length-left_after join n (a ∷ b ∷ rest) in
    omega arith

round_total : (join : Literal → Literal → Piece) (r : Reduction)
    → length (round join r).pieces + length (round join r).left ≡ length r.pieces + length r.left
round_total join r =
    let pairs : length (joined join r.left) + length (left_after (length r.pieces) r.left) ≡ length r.left = length-left_after join (length r.pieces) r.left in
    let more : length (r.pieces ++ joined join r.left) ≡ length r.pieces + length (joined join r.left) = length-append r.pieces (joined join r.left) in
    omega arith

rounds_total : (join : Literal → Literal → Piece) (m : ℕ) (r : Reduction)
    → length (rounds join m r).pieces + length (rounds join m r).left ≡ length r.pieces + length r.left
rounds_total join zero r = refl
rounds_total join (suc m) r = rounds_total join m (round join r) ∙ round_total join r

-- ---- at most one literal

round_steady : (join : Literal → Literal → Piece) (pieces : List Piece) (left : List Literal) → length left ≤ 1
    → round join (reduction pieces left) ≡ reduction pieces left
round_steady join pieces [] few = ap (λ p. reduction p []) (append-nil pieces)
round_steady join pieces (a ∷ []) few = ap (λ p. reduction p (a ∷ [])) (append-nil pieces)
round_steady join pieces (a ∷ b ∷ rest) few = absurd (omega arith)

pub rounds_steady : (join : Literal → Literal → Piece) (m : ℕ) (r : Reduction) → length r.left ≤ 1 → rounds join m r ≡ r
rounds_steady join zero r few = refl
rounds_steady join (suc m) r few =
    ap (λ (s : Reduction). rounds join m s) (round_steady join r.pieces r.left few) ∙ rounds_steady join m r few

rounds_one : (join : Literal → Literal → Piece) (m : ℕ) (r : Reduction) → length r.left ≤ m → 0 < length r.left
    → length (rounds join m r).left ≡ 1
rounds_one join zero r few some = absurd (omega arith)
rounds_one join (suc m) r few some =
    elim (cases_lt 1 (length r.left)) [
      | inl many ↦
          let fewer : length (left_after (length r.pieces) r.left) < length r.left = left_fewer (length r.pieces) r.left many in
          rounds_one join m (round join r) (omega arith) (left_some (length r.pieces) r.left some)
      | inr one ↦
          let same : rounds join (suc m) r ≡ r = rounds_steady join (suc m) r one in
          let is : length (rounds join (suc m) r).left ≡ length r.left = ap (λ (s : Reduction). length s.left) same in
          omega arith
    ]

-- A list that is not empty is reduced to one literal, each gate for one literal less.
pub reduced_one : (join : Literal → Literal → Piece) (r : Reduction) → 0 < length r.left → length (reduced join r).left ≡ 1
reduced_one join r some = rounds_one join (length r.left) r (omega arith) some

pub reduced_total : (join : Literal → Literal → Piece) (r : Reduction)
    → length (reduced join r).pieces + length (reduced join r).left ≡ length r.pieces + length r.left
reduced_total join r = rounds_total join (length r.left) r

-- ---- the last gate

last_pair : (join : Literal → Literal → Piece) (m : ℕ) (pieces : List Piece) (left : List Literal) → 1 < length left
    → length (left_after (length pieces) left) ≤ 1
    → (rounds join m (round join (reduction pieces left))).left ≡ made (length (rounds join m (round join (reduction pieces left))).pieces - 1) ∷ []
last_pair join m pieces [] many one = absurd (omega arith)
last_pair join m pieces (a ∷ []) many one = absurd (omega arith)
last_pair join m pieces (a ∷ b ∷ []) many one =
    let next : Reduction = round join (reduction pieces (a ∷ b ∷ [])) in
    let same : rounds join m next ≡ next = rounds_steady join m next (omega arith) in
    let more : length (pieces ++ join a b ∷ []) ≡ length pieces + 1 = length-append pieces (join a b ∷ []) in
    let number : length (pieces ++ join a b ∷ []) - 1 ≡ length pieces = omega arith in
    ap (λ (s : Reduction). s.left) same ∙ (ap (λ n. made n ∷ []) (sym number) ∙ ap (λ (s : Reduction). made (length s.pieces - 1) ∷ []) (sym same))
last_pair join m pieces (a ∷ b ∷ c ∷ rest) many one =
    let some : 0 < length (left_after (suc (length pieces)) (c ∷ rest)) = left_some (suc (length pieces)) (c ∷ rest) (omega arith) in
    absurd (omega arith)

-- Of two literals or more the one that is left is the gate made last.
rounds_last : (join : Literal → Literal → Piece) (m : ℕ) (r : Reduction) → length r.left ≤ m → 1 < length r.left
    → (rounds join m r).left ≡ made (length (rounds join m r).pieces - 1) ∷ []
rounds_last join zero r few many = absurd (omega arith)
rounds_last join (suc m) r few many =
    let fewer : length (left_after (length r.pieces) r.left) < length r.left = left_fewer (length r.pieces) r.left many in
    elim (cases_lt 1 (length (left_after (length r.pieces) r.left))) [
      | inl more ↦ rounds_last join m (round join r) (omega arith) more
      | inr one ↦ last_pair join m r.pieces r.left many one
    ]

pub reduced_last : (join : Literal → Literal → Piece) (r : Reduction) → 1 < length r.left
    → (reduced join r).left ≡ made (length (reduced join r).pieces - 1) ∷ []
reduced_last join r many = rounds_last join (length r.left) r (omega arith) many

-- ---- what the gates read

-- Literals of wires that are signals below a bound or some first gates.
abbrev pub AreLiteralsOf : (ℕ → Type 0) → ℕ → List Literal → Type 0
AreLiteralsOf P gates [] = Unit {0}
AreLiteralsOf P gates (l ∷ ls) = IsWireBy P gates l.wire × AreLiteralsOf P gates ls

wire_later : (P : ℕ → Type 0) (n m : ℕ) (w : Wire) → n ≤ m → IsWireBy P n w → IsWireBy P m w
wire_later P n m (Pin s) less is = is
wire_later P n m (Made g) less is = omega arith

pub literals_later : (P : ℕ → Type 0) (n m : ℕ) (ls : List Literal) → n ≤ m → AreLiteralsOf P n ls → AreLiteralsOf P m ls
literals_later P n m [] less are = tt
literals_later P n m (l ∷ ls) less are = (wire_later P n m l.wire less are.0, literals_later P n m ls less are.1)

pub literals_join : (P : ℕ → Type 0) (n : ℕ) (xs ys : List Literal) → AreLiteralsOf P n xs → AreLiteralsOf P n ys
    → AreLiteralsOf P n (xs ++ ys)
literals_join P n [] ys are others = others
literals_join P n (x ∷ xs) ys are others = (are.0, literals_join P n xs ys are.1 others)

pub wired_join : (free : Bool) (P : ℕ → Type 0) (n : ℕ) (xs ys : List Piece) → AreWiredBy free P n xs → AreWiredBy free P (n + length xs) ys
    → AreWiredBy free P n (xs ++ ys)
wired_join free P n [] ys are others =
    let same : n + 0 ≡ n = omega arith in
    subst (λ (k : ℕ). AreWiredBy free P k ys) same others
wired_join free P n (x ∷ xs) ys are others =
    let same : n + suc (length xs) ≡ suc n + length xs = omega arith in
    (are.0, wired_join free P (suc n) xs ys are.1 (subst (λ (k : ℕ). AreWiredBy free P k ys) same others))

-- A join reads its two literals alone.
abbrev pub ReadsBoth : (Literal → Literal → Piece) → Type 1
ReadsBoth join = (free : Bool) (P : ℕ → Type 0) (n : ℕ) (a b : Literal) → IsWireBy P n a.wire → IsWireBy P n b.wire
    → IsWiredBy free P n (join a b)

joined_wired : (join : Literal → Literal → Piece) → ReadsBoth join → (free : Bool) (P : ℕ → Type 0) (n : ℕ) (ls : List Literal)
    → AreLiteralsOf P n ls → AreWiredBy free P n (joined join ls)
joined_wired join reads free P n [] are = tt
joined_wired join reads free P n (a ∷ []) are = tt
joined_wired join reads free P n (a ∷ b ∷ rest) (is_a, (is_b, others)) =
    (reads free P n a b is_a is_b, joined_wired join reads free P (suc n) rest (literals_later P n (suc n) rest (omega arith) others))

left_wired : (join : Literal → Literal → Piece) (P : ℕ → Type 0) (n : ℕ) (ls : List Literal) → AreLiteralsOf P n ls
    → AreLiteralsOf P (n + length (joined join ls)) (left_after n ls)
left_wired join P n [] are = tt
left_wired join P n (a ∷ []) are = (wire_later P n (n + 0) a.wire (omega arith) are.0, tt)
left_wired join P n (a ∷ b ∷ rest) (is_a, (is_b, others)) =
    let same : suc n + length (joined join rest) ≡ n + suc (length (joined join rest)) = omega arith in
    (omega arith, subst (λ (k : ℕ). AreLiteralsOf P k (left_after (suc n) rest)) same (left_wired join P (suc n) rest (literals_later P n (suc n) rest (omega arith) others)))

-- The gates so far read what stands before them, and the literals that are left are signals or such gates.
pub record IsWiredReduction (free : Bool) (P : ℕ → Type 0) (r : Reduction) : Type 0 where
  pub pieces : AreWiredBy free P 0 r.pieces
  pub left : AreLiteralsOf P (length r.pieces) r.left

round_wired : (join : Literal → Literal → Piece) → ReadsBoth join → (free : Bool) (P : ℕ → Type 0) (r : Reduction) → IsWiredReduction free P r
    → IsWiredReduction free P (round join r)
round_wired join reads free P r is =
    let more : length r.pieces + length (joined join r.left) ≡ length (r.pieces ++ joined join r.left) = sym (length-append r.pieces (joined join r.left)) in
    let from : length r.pieces ≡ 0 + length r.pieces = omega arith in
    record {
      pieces = wired_join free P 0 r.pieces (joined join r.left) is.pieces (subst (λ (k : ℕ). AreWiredBy free P k (joined join r.left)) from (joined_wired join reads free P (length r.pieces) r.left is.left));
      left = subst (λ (k : ℕ). AreLiteralsOf P k (left_after (length r.pieces) r.left)) more (left_wired join P (length r.pieces) r.left is.left);
    }

rounds_wired : (join : Literal → Literal → Piece) → ReadsBoth join → (free : Bool) (P : ℕ → Type 0) (m : ℕ) (r : Reduction)
    → IsWiredReduction free P r → IsWiredReduction free P (rounds join m r)
rounds_wired join reads free P zero r is = is
rounds_wired join reads free P (suc m) r is = rounds_wired join reads free P m (round join r) (round_wired join reads free P r is)

pub reduced_wired : (join : Literal → Literal → Piece) → ReadsBoth join → (free : Bool) (P : ℕ → Type 0) (r : Reduction)
    → IsWiredReduction free P r → IsWiredReduction free P (reduced join r)
reduced_wired join reads free P r is = rounds_wired join reads free P (length r.left) r is

pub both_reads : ReadsBoth (λ a b. Both a b)
both_reads free P n a b is_a is_b = (is_a, is_b)

pub either_reads : ReadsBoth (λ a b. Either a b)
either_reads free P n a b is_a is_b = (is_a, is_b)

-- ---- the loop of one round

two_first : (rest : List Literal) (a b : Literal) → 2 ≤ length rest → a ≡ get_or rest 0 a → b ≡ get_or rest 1 b
    → rest ≡ a ∷ b ∷ take (length rest - 2) (drop 2 rest)
two_first [] a b long is_a is_b = absurd (omega arith)
two_first (x ∷ []) a b long is_a is_b = absurd (omega arith)
two_first (x ∷ y ∷ more) a b long is_a is_b =
    let all : take (length more) more ≡ more = take_all (length more) more (omega arith) in
    let count : length (x ∷ y ∷ more) - 2 ≡ length more = omega arith in
    let same : take (length (x ∷ y ∷ more) - 2) more ≡ more = ap (λ n. take n more) count ∙ all in
    ap (λ z. z ∷ y ∷ more) (sym is_a) ∙ (ap (λ z. a ∷ z ∷ more) (sym is_b) ∙ ap (λ zs. a ∷ b ∷ zs) (sym same))

-- What the loop keeps: together with what the rest gives, the gates and the literals are those of the whole round.
pub record IsRounding (join : Literal → Literal → Piece) (before : List Piece) (all : List Literal) (pieces : List Piece) (left rest : List Literal) : Type 0 where
  pub gates : before ++ joined join all ≡ pieces ++ joined join rest
  pub literals : left_after (length before) all ≡ left ++ left_after (length pieces) rest

pub one_pair : (join : Literal → Literal → Piece) (before : List Piece) (all : List Literal) (pieces pieces' : List Piece) (left left' rest : List Literal)
    (a b : Literal) (piece : Piece) (n : ℕ) → IsRounding join before all pieces left rest → 2 ≤ length rest
    → a ≡ get_or rest 0 a → b ≡ get_or rest 1 b → n ≡ length pieces → left' ≡ left ++ made n ∷ []
    → piece ≡ join a b → pieces' ≡ pieces ++ piece ∷ []
    → IsRounding join before all pieces' left' (take (length rest - 2) (drop 2 rest))
one_pair join before all pieces pieces' left left' rest a b piece n is long is_a is_b count more_left is_piece more_pieces =
    let tail : List Literal = take (length rest - 2) (drop 2 rest) in
    let split : rest ≡ a ∷ b ∷ take (length rest - 2) (drop 2 rest) = two_first rest a b long is_a is_b in
    let longer : length (pieces ++ piece ∷ []) ≡ suc (length pieces) = length-append pieces (piece ∷ []) ∙ (omega arith) in
    let next : length pieces' ≡ suc (length pieces) = ap (λ (ps : List Piece). length ps) more_pieces ∙ longer in
    record {
      gates = is.gates
          ∙ (ap (λ ls. pieces ++ joined join ls) split
          ∙ (ap (λ p. pieces ++ p ∷ joined join tail) (sym is_piece)
          ∙ (sym (append_assoc pieces (piece ∷ []) (joined join tail))
          ∙ ap (λ ps. ps ++ joined join tail) (sym more_pieces))));
      literals = is.literals
          ∙ (ap (λ ls. left ++ left_after (length pieces) ls) split
          ∙ (ap (λ k. left ++ made k ∷ left_after (suc (length pieces)) tail) (sym count)
          ∙ (sym (append_assoc left (made n ∷ []) (left_after (suc (length pieces)) tail))
          ∙ (ap (λ ls. ls ++ left_after (suc (length pieces)) tail) (sym more_left)
          ∙ ap (λ k. left' ++ left_after k tail) (sym next)))));
    }

-- ---- the loop of rounds

-- Some number of rounds more gives what all rounds give.
pub record IsReducing (join : Literal → Literal → Piece) (before : Reduction) (now : Reduction) : Type 0 where
  pub rest : (m : ℕ) × (length now.left ≤ m) × (rounds join m now ≡ reduced join before)

pub reducing_first : (join : Literal → Literal → Piece) (before : Reduction) → IsReducing join before before
reducing_first join before = record { rest = (length before.left, omega arith, refl) }

one_round : (join : Literal → Literal → Piece) (before now : Reduction) (m : ℕ) → length now.left ≤ m
    → rounds join m now ≡ reduced join before → 1 < length now.left → IsReducing join before (round join now)
one_round join before now zero few is many = absurd (omega arith)
one_round join before now (suc m) few is many =
    let fewer : length (left_after (length now.pieces) now.left) < length now.left = left_fewer (length now.pieces) now.left many in
    record { rest = (m, omega arith, is) }

pub reducing_more : (join : Literal → Literal → Piece) (before : Reduction) (pieces pieces' : List Piece) (left left' : List Literal)
    → IsReducing join before (reduction pieces left) → 1 < length left → pieces' ≡ pieces ++ joined join left
    → left' ≡ left_after (length pieces) left → IsReducing join before (reduction pieces' left')
reducing_more join before pieces pieces' left left' is many more now =
    let (m, few, rest) = is.rest in
    let same : round join (reduction pieces left) ≡ reduction pieces' left' = ap (λ ps. reduction ps (left_after (length pieces) left)) (sym more) ∙ ap (λ ls. reduction pieces' ls) (sym now) in
    subst (λ (r : Reduction). IsReducing join before r) same (one_round join before (reduction pieces left) m few rest many)

pub reducing_end : (join : Literal → Literal → Piece) (before now : Reduction) → IsReducing join before now
    → length now.left ≤ 1 → now ≡ reduced join before
reducing_end join before now is few =
    let (m, enough, rest) = is.rest in
    sym (rounds_steady join m now few) ∙ rest

-- The same where the round was given a slice of the literals.
pub reducing_more_by_slice : (join : Literal → Literal → Piece) (before : Reduction) (pieces pieces' : List Piece) (left left' slice : List Literal)
    → IsReducing join before (reduction pieces left) → slice ≡ left → 1 < length left → pieces' ≡ pieces ++ joined join slice
    → left' ≡ left_after (length pieces) slice → IsReducing join before (reduction pieces' left')
reducing_more_by_slice join before pieces pieces' left left' slice is same many more now =
    reducing_more join before pieces pieces' left left' is many (more ∙ ap (λ ls. pieces ++ joined join ls) same) (now ∙ ap (λ ls. left_after (length pieces) ls) same)

pub fewer_by_slice : (n : ℕ) (left left' slice : List Literal) → slice ≡ left → 1 < length left → left' ≡ left_after n slice
    → length left' < length left
fewer_by_slice n left left' slice same many now =
    let fewer : length (left_after n left) < length left = left_fewer n left many in
    let count : length left' ≡ length (left_after n left) = ap (λ (ls : List Literal). length ls) (now ∙ ap (λ ls. left_after n ls) same) in
    omega arith
