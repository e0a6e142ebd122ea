-- A name with what is put behind it tells the name and the path: where two are the same, both are.
use Rattle.std.proofs.Common.{◌≡◌, ℕ, suc, ◌+◌, ◌%◌, ◌^◌, ◌<◌, ◌≤◌, List, [], ◌∷◌, ◌++◌, replicate, refl, sym, ◌∙◌, ap, ap₂, subst, append_assoc, arith}
use Rattle.std.specs.Prelude.{All}
use Rattle.std.specs.List.{AllByRecursion}
use Rattle.std.specs.Fmt.{decimal}
use Rattle.std.proofs.lemmas.Fmt.{decimal_by_steps, decimal_injective}
use Rattle.std.proofs.lemmas.List.{append_cancel_right, append-nil, replicate_more}
use Rattle.std.proofs.lemmas.List.Elements.{All-nil, All-cons, All-push, All-head, All-tail}
use Rattle.tm_parts.specs.Runs.{longest_run}
use Rattle.tm_parts.proofs.Measures.{run_within}
use Rattle.blif_flat.specs.Flat.{suffix_of}

-- ---- digits

no_at : (n : ℕ) → n < 2 ^ 64 → All (λ b. b ≡ 64 → ⊥) (decimal n)
no_at n small =
    decimal_by_steps (λ m ds. All (λ b. b ≡ 64 → ⊥) ds)
    (λ m less. All-cons (λ b. b ≡ 64 → ⊥) (48 + m) [] (λ e. omega arith) (All-nil (λ b. b ≡ 64 → ⊥)))
    (λ m ds more are. All-push (λ b. b ≡ 64 → ⊥) ds (48 + m % 10) are (λ e. omega arith))
    n small

-- ---- where the last `@` stands

no_inner : (t : ℕ) (front back : List ℕ) → All (λ b. b ≡ t → ⊥) (front ++ t ∷ back) → ⊥
no_inner t [] back none = All-head (λ b. b ≡ t → ⊥) t back none refl
no_inner t (a ∷ front) back none = no_inner t front back (All-tail (λ b. b ≡ t → ⊥) a (front ++ t ∷ back) none)

last_split : (t : ℕ) (a b x y : List ℕ) → a ++ t ∷ x ≡ b ++ t ∷ y → All (λ z. z ≡ t → ⊥) x → All (λ z. z ≡ t → ⊥) y → (a ≡ b) × (x ≡ y)
last_split t [] [] x y same none_x none_y = (refl, cc)
last_split t [] (e ∷ b) x y same none_x none_y =
    let tail : x ≡ b ++ t ∷ y = cc in
    absurd (no_inner t b y (subst (λ (zs : List ℕ). All (λ z. z ≡ t → ⊥) zs) tail none_x))
last_split t (e ∷ a) [] x y same none_x none_y =
    let tail : y ≡ a ++ t ∷ x = cc in
    absurd (no_inner t a x (subst (λ (zs : List ℕ). All (λ z. z ≡ t → ⊥) zs) tail none_y))
last_split t (e ∷ a) (f ∷ b) x y same none_x none_y =
    let head : e ≡ f = cc in
    let tail : a ++ t ∷ x ≡ b ++ t ∷ y = cc in
    let rest = last_split t a b x y tail none_x none_y in
    (ap₂ (λ (z : ℕ) (zs : List ℕ). z ∷ zs) head rest.0, rest.1)

-- ---- what is put behind a name

-- what stands behind the names of an instance, by its path from the innermost
abbrev pub suffix_in : ℕ → List ℕ → List ℕ
suffix_in runs [] = []
suffix_in runs (k ∷ path) = suffix_of (replicate (suc runs) 64) (suffix_in runs path) k

-- the path from the outermost
abbrev pub path_of : List ℕ → List ℕ
path_of [] = []
path_of (k ∷ path) = path_of path ++ k ∷ []

module _ (runs : ℕ) where
  -- the last number, and what stands before it
  last_number : (n : List ℕ) (path : List ℕ) (k : ℕ)
      → n ++ suffix_in runs (k ∷ path) ≡ ((n ++ suffix_in runs path) ++ replicate runs 64) ++ 64 ∷ decimal k
  last_number n path k =
      let one : runs + 1 ≡ suc runs = omega arith in
      let run : replicate (suc runs) 64 ≡ replicate runs 64 ++ 64 ∷ [] = ap (λ m. replicate m 64) (sym one) ∙ sym (replicate_more runs 64) in
      sym (append_assoc n (suffix_in runs path ++ replicate (suc runs) 64) (decimal k))
      ∙ ap (λ xs. xs ++ decimal k) (sym (append_assoc n (suffix_in runs path) (replicate (suc runs) 64)))
      ∙ ap (λ js. ((n ++ suffix_in runs path) ++ js) ++ decimal k) run
      ∙ ap (λ xs. xs ++ decimal k) (sym (append_assoc (n ++ suffix_in runs path) (replicate runs 64) (64 ∷ [])))
      ∙ append_assoc ((n ++ suffix_in runs path) ++ replicate runs 64) (64 ∷ []) (decimal k)

  -- A name with a short run is no name with a number behind it.
  plain_apart : (n m : List ℕ) (path : List ℕ) (k : ℕ) → longest_run 64 n ≤ runs → n ≡ m ++ suffix_in runs (k ∷ path) → ⊥
  plain_apart n m path k short same =
      let long : suc runs ≤ longest_run 64 ((m ++ suffix_in runs path) ++ (replicate (suc runs) 64 ++ decimal k)) = run_within 64 (m ++ suffix_in runs path) (suc runs) (decimal k) in
      let whole : n ≡ (m ++ suffix_in runs path) ++ (replicate (suc runs) 64 ++ decimal k) =
      same ∙ sym (append_assoc m (suffix_in runs path ++ replicate (suc runs) 64) (decimal k))
      ∙ ap (λ xs. xs ++ decimal k) (sym (append_assoc m (suffix_in runs path) (replicate (suc runs) 64)))
      ∙ append_assoc (m ++ suffix_in runs path) (replicate (suc runs) 64) (decimal k) in
      let measured : longest_run 64 n ≡ longest_run 64 ((m ++ suffix_in runs path) ++ (replicate (suc runs) 64 ++ decimal k)) = ap (longest_run 64) whole in
      omega arith

  pub same_origin : (n m : List ℕ) (p q : List ℕ) → longest_run 64 n ≤ runs → longest_run 64 m ≤ runs
      → AllByRecursion (λ k. k < 2 ^ 64) p → AllByRecursion (λ k. k < 2 ^ 64) q → n ++ suffix_in runs p ≡ m ++ suffix_in runs q → (n ≡ m) × (p ≡ q)
  same_origin n m [] [] short_n short_m small_p small_q same = (sym (append-nil n) ∙ same ∙ append-nil m, refl)
  same_origin n m [] (l ∷ q) short_n short_m small_p small_q same = absurd (plain_apart n m q l short_n (sym (append-nil n) ∙ same))
  same_origin n m (k ∷ p) [] short_n short_m small_p small_q same = absurd (plain_apart m n p k short_m (sym (append-nil m) ∙ sym same))
  same_origin n m (k ∷ p) (l ∷ q) short_n short_m small_p small_q same =
      let split = last_split 64 ((n ++ suffix_in runs p) ++ replicate runs 64) ((m ++ suffix_in runs q) ++ replicate runs 64) (decimal k) (decimal l)
      (sym (last_number n p k) ∙ same ∙ last_number m q l) (no_at k small_p.0) (no_at l small_q.0) in
      let number : k ≡ l = decimal_injective k l small_p.0 small_q.0 split.1 in
      let before = same_origin n m p q short_n short_m small_p.1 small_q.1 (append_cancel_right (n ++ suffix_in runs p) (m ++ suffix_in runs q) (replicate runs 64) split.0) in
      (before.0, ap₂ (λ (z : ℕ) (zs : List ℕ). z ∷ zs) number before.1)
