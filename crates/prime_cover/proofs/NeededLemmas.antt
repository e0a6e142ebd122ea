-- Cubes of which each that the others make up for is left out.
use Rattle.std.proofs.Common.{◌≡◌, ◌≢◌, ℕ, zero, suc, ◌+◌, ◌^◌, ◌<◌, ◌≤◌, true, false, ◌&&◌, ◌||◌, ltb, List, [], ◌∷◌, ◌++◌, length, get_or, drop, sym, ap, ◌∙◌, arith, ⊎_elim, All, Contains}
use Rattle.std.specs.List.{list_any}
use Rattle.std.specs.List.Sorted.{IsNonDecreasingBy}
use Rattle.std.proofs.lemmas.Bool.{both_ways, or_parts, or_cases, or_left, or_right}
use Rattle.std.proofs.lemmas.List.{append_assoc, drop_more, get_or-drop, get_or_default, length-drop}
use Rattle.std.proofs.lemmas.List.Elements.{All-push, All-head, All-tail, All-weaker, Contains-get_or, Contains-append_left, Contains-append_right, Contains-append_cases}
use Rattle.std.proofs.lemmas.List.Folds.{list_any-append}
use Rattle.std.proofs.lemmas.List.Quantifiers.{all_pairs_push}
use Rattle.tm_bits.specs.Rows.{row_agrees}
use Rattle.tm_bits.specs.Tables.{bits_of}
use Rattle.prime_cover.specs.declared.cube.Cube.{Cube}
use Rattle.prime_cover.specs.Found.{row_of, has, HasOwnRow, Ascend, HaveOneWidth}
use Rattle.prime_cover.proofs.GrowLemmas.{row_long}
use Rattle.prime_cover.proofs.OrderLemmas.{same_from_order}

-- What no cube has, one that is there has not.
none_at : (row : ℕ) (cubes : List Cube) → list_any (has row) cubes ≡ false → (k : ℕ) (d : Cube) → k < length cubes → has row (get_or cubes k d) ≡ false
none_at row [] none k d inside = absurd (omega arith)
none_at row (c ∷ cubes) none zero d inside = (or_parts (has row c) (list_any (has row) cubes) none).0
none_at row (c ∷ cubes) none (suc k) d inside = none_at row cubes (or_parts (has row c) (list_any (has row) cubes) none).1 k d (omega arith)

pub none_has : (row : ℕ) (cubes : List Cube) (cube : Cube) → list_any (has row) cubes ≡ false → Contains cubes cube → has row cube ≡ false
none_has row cubes cube none there = rw there.2 at (none_at row cubes none there.0 cube there.1)

only_one : (cube other : Cube) → Contains (cube ∷ []) other → other ≡ cube
only_one cube other there = by_place there.0 there.1 there.2
  where
    by_place : (k : ℕ) → k < 1 → get_or (cube ∷ []) k other ≡ other → other ≡ cube
    by_place zero inside is = sym is
    by_place (suc k) inside is = absurd (omega arith)

-- Cubes of one width with the same number have the same rows.
same_rows : (one other : Cube) → one.inputs ≡ other.inputs → one.order ≡ other.order → (row : ℕ) → has row one ≡ has row other
same_rows one other width order row =
    let long : length (row_of one) ≡ length (row_of other) = row_long one ∙ width ∙ sym (row_long other) in
    let same : row_of one ≡ row_of other = same_from_order 0 (row_of one) (row_of other) long (sym one.ordered ∙ order ∙ other.ordered) in
    one.span row ∙ ap (λ n. ltb row (2 ^ n) && row_agrees (row_of one) (bits_of n row)) width
    ∙ ap (λ r. ltb row (2 ^ other.inputs) && row_agrees r (bits_of other.inputs row)) same ∙ sym (other.span row)

-- The first cubes, so many, were looked at, and these of them are kept.
pub record IsPruned (cubes needed : List Cube) (i : ℕ) : Type 0 where
  pub kept : All (Contains cubes) needed
  pub rows : (row : ℕ) → list_any (has row) cubes ≡ true → list_any (has row) (needed ++ drop i cubes) ≡ true
  pub own : All (HasOwnRow (needed ++ drop i cubes)) needed
  pub ascend : Ascend needed
  pub below : All (λ one. All (λ other. one.order ≤ other.order) (drop i cubes)) needed

pub pruned_start : (cubes : List Cube) → IsPruned cubes [] 0
pruned_start cubes =
    record {
      kept = λ k d inside. absurd (omega arith);
      rows = λ row some. some;
      own = λ k d inside. absurd (omega arith);
      ascend = λ i j d apart inside. absurd (omega arith);
      below = λ k d inside. absurd (omega arith);
    }

-- The next cube has a row that neither those kept nor those after it have.
pub pruned_kept : (cubes needed : List Cube) (i : ℕ) (cube : Cube) → HaveOneWidth cubes → IsNonDecreasingBy (λ c. c.order) cubes → i < length cubes
    → get_or cubes i cube ≡ cube → IsPruned cubes needed i → (row : ℕ) → has row cube ≡ true → list_any (has row) needed ≡ false
    → list_any (has row) (drop (i + 1) cubes) ≡ false → IsPruned cubes (needed ++ cube ∷ []) (i + 1)
pruned_kept cubes needed i cube width sorted inside is pruned row had before after =
    record {
      kept = All-push (Contains cubes) needed cube pruned.kept (i, inside, is);
      rows = λ other some. rw same (pruned.rows other some);
      own = All-push (HasOwnRow ((needed ++ cube ∷ []) ++ drop (i + 1) cubes)) needed cube (rw same pruned.own) (row, had, alone);
      ascend = all_pairs_push (λ one other. one.order < other.order) needed cube pruned.ascend less;
      below =
          All-push UpAfter needed cube
          (All-weaker Up UpAfter (λ one up. All-tail (λ other. one.order ≤ other.order) cube (drop (i + 1) cubes) (rw split at up)) needed pruned.below)
          up_from_here;
    }
  where
    Up : Cube → Type 0
    Up one = All (λ other. one.order ≤ other.order) (drop i cubes)

    UpAfter : Cube → Type 0
    UpAfter one = All (λ other. one.order ≤ other.order) (drop (i + 1) cubes)

    split : drop i cubes ≡ cube ∷ drop (i + 1) cubes
    split = drop_more cubes i cube inside ∙ ap (λ c. c ∷ drop (i + 1) cubes) is

    same : (needed ++ cube ∷ []) ++ drop (i + 1) cubes ≡ needed ++ drop i cubes
    same = append_assoc needed (cube ∷ []) (drop (i + 1) cubes) ∙ ap (λ rest. needed ++ rest) (sym split)

    alone : (other : Cube) → Contains ((needed ++ cube ∷ []) ++ drop (i + 1) cubes) other → has row other ≡ true → other ≡ cube
    alone other there has_too =
        ⊎_elim
        (λ (left : Contains (needed ++ cube ∷ []) other).
        ⊎_elim
        (λ (old : Contains needed other). absurd (both_ways _ (none_has row needed other before old) has_too))
        (λ (new : Contains (cube ∷ []) other). only_one cube other new)
        (Contains-append_cases needed (cube ∷ []) other left))
        (λ (right : Contains (drop (i + 1) cubes) other). absurd (both_ways _ (none_has row (drop (i + 1) cubes) other after right) has_too))
        (Contains-append_cases (needed ++ cube ∷ []) (drop (i + 1) cubes) other there)

    less : (k : ℕ) (d : Cube) → k < length needed → (get_or needed k d).order < cube.order
    less k d within =
        let one = get_or needed k d in
        let up : one.order ≤ cube.order = All-head (λ other. one.order ≤ other.order) cube (drop (i + 1) cubes) (rw split at (pruned.below k d within)) in
        let differs : one.order ≢ cube.order
        = λ order.
        both_ways _ (none_has row needed one before (Contains-get_or needed k d within)) (same_rows one cube (width one cube (pruned.kept k d within) (i, inside, is)) order row ∙ had) in
        omega arith

    up_from_here : All (λ other. cube.order ≤ other.order) (drop (i + 1) cubes)
    up_from_here k d within =
        let more : i + 1 + k < length cubes = omega (arith, length-drop (i + 1) cubes) in
        let at : get_or (drop (i + 1) cubes) k d ≡ get_or cubes (i + 1 + k) d = get_or-drop (i + 1) cubes k d in
        let up = sorted i (i + 1 + k) d (omega arith) more in
        let here : get_or cubes i d ≡ cube = get_or_default cubes i d cube inside ∙ is in
        rw at (rw here at up)

-- The next cube has only rows that those kept or those after it have.
pub pruned_left : (cubes needed : List Cube) (i : ℕ) (cube : Cube) → i < length cubes → get_or cubes i cube ≡ cube → IsPruned cubes needed i
    → ((row : ℕ) → has row cube ≡ true → (list_any (has row) needed || list_any (has row) (drop (i + 1) cubes)) ≡ true) → IsPruned cubes needed (i + 1)
pruned_left cubes needed i cube inside is pruned others =
    record {
      kept = pruned.kept;
      rows = λ row some. left row (sym (list_any-append (has row) needed (cube ∷ drop (i + 1) cubes)) ∙ rw split at (pruned.rows row some));
      own = All-weaker (HasOwnRow (needed ++ drop i cubes)) (HasOwnRow (needed ++ drop (i + 1) cubes))
          (λ one own. (own.0, own.1, λ other there. own.2 other (wider other there))) needed pruned.own;
      ascend = pruned.ascend;
      below =
          All-weaker (λ one. All (λ other. one.order ≤ other.order) (drop i cubes)) (λ one. All (λ other. one.order ≤ other.order) (drop (i + 1) cubes))
          (λ one up. All-tail (λ other. one.order ≤ other.order) cube (drop (i + 1) cubes) (rw split at up)) needed pruned.below;
    }
  where
    split : drop i cubes ≡ cube ∷ drop (i + 1) cubes
    split = drop_more cubes i cube inside ∙ ap (λ c. c ∷ drop (i + 1) cubes) is

    left : (row : ℕ) → (list_any (has row) needed || (has row cube || list_any (has row) (drop (i + 1) cubes))) ≡ true
        → list_any (has row) (needed ++ drop (i + 1) cubes) ≡ true
    left row some =
        list_any-append (has row) needed (drop (i + 1) cubes)
        ∙ ⊎_elim
        (λ (old : list_any (has row) needed ≡ true). or_left (list_any (has row) needed) (list_any (has row) (drop (i + 1) cubes)) old)
        (λ (rest : (has row cube || list_any (has row) (drop (i + 1) cubes)) ≡ true).
        ⊎_elim
        (λ (own : has row cube ≡ true). others row own)
        (λ (after : list_any (has row) (drop (i + 1) cubes) ≡ true). or_right (list_any (has row) needed) (list_any (has row) (drop (i + 1) cubes)) after)
        (or_cases (has row cube) (list_any (has row) (drop (i + 1) cubes)) rest))
        (or_cases (list_any (has row) needed) (has row cube || list_any (has row) (drop (i + 1) cubes)) some)

    wider : (other : Cube) → Contains (needed ++ drop (i + 1) cubes) other → Contains (needed ++ drop i cubes) other
    wider other there =
        ⊎_elim
        (λ (old : Contains needed other). Contains-append_left needed (drop i cubes) other old)
        (λ (after : Contains (drop (i + 1) cubes) other).
        Contains-append_right needed (drop i cubes) other (rw split (suc after.0, omega (arith, after.1), after.2)))
        (Contains-append_cases needed (drop (i + 1) cubes) other there)
