-- Depths and counts of instances, by those of the models that a model places.
use Rattle.std.proofs.Common.{◌≡◌, ℕ, zero, suc, ◌+◌, ◌<◌, ◌≤◌, Bool, true, false, ◌||◌, nat_lt, min, max, List, [], ◌∷◌, ◌++◌, map, sum, length, take, get_or, set, inl, inr, refl, sym, ◌∙◌, ap, subst, arith}
use Rattle.std.specs.Prelude.{slice_index, Contains}
use Rattle.std.specs.List.{list_any}
use Rattle.std.proofs.lemmas.Bool.{cases_eq}
use Rattle.std.proofs.lemmas.Bool.Decides.{nat_tests}
use Rattle.std.proofs.lemmas.List.{take_more, take_all, map_more, get_or-set_same, get_or-set_other, get_or_default}
use Rattle.std.proofs.lemmas.Option.{slice_get-get_or}
use Rattle.std.proofs.lemmas.List.Sums.{sum_by-cons, sum_by-append}
use Rattle.std.proofs.lemmas.List.Elements.{Contains-push_cases}
use Rattle.tm_circuit.specs.Plain.{greatest}
use Rattle.tm_circuit.proofs.ListLemmas.{contains-first, contains-rest, greatest-push}
use Rattle.blif_flat.specs.Graph.{placed_in, IsPlaced, IsGraph, IsOrder}
use Rattle.blif_flat.specs.Extent.{is_some_placed, goes_deeper, count_under, IsDepth, IsCount, levels_by, instances_by}

-- ---- depths

levels_one : (b l : ℕ) → true ≡ nat_lt 0 (max (min (b + 1) 65) l)
levels_one b l = grind (arith, nat_tests)

levels_two : (n b l : ℕ) → suc n ≤ 64 → (nat_lt n b || nat_lt (suc n) l) ≡ nat_lt (suc n) (max (min (b + 1) 65) l)
levels_two n b l few = grind (arith, nat_tests)

some_deeper : (below placed : List ℕ) → is_some_placed placed ≡ nat_lt 0 (levels_by below placed)
some_deeper below [] = refl
some_deeper below (p ∷ placed) = levels_one (slice_index below p) (levels_by below placed)

list_deeper : (graph : List (List ℕ)) (below : List ℕ) (n : ℕ) → suc n ≤ 64 → (placed : List ℕ) → ((p : ℕ) → Contains placed p → IsDepth graph p (slice_index below p))
    → list_any (goes_deeper n graph) placed ≡ nat_lt (suc n) (levels_by below placed)
list_deeper graph below n few [] h = grind (arith, nat_tests)
list_deeper graph below n few (p ∷ placed) h =
    let here : goes_deeper n graph p ≡ nat_lt n (slice_index below p) = h p (contains-first p placed) n (omega arith) in
    let rest = list_deeper graph below n few placed (λ q i. h q (contains-rest p placed q i)) in
    ap (λ b. b || list_any (goes_deeper n graph) placed) here ∙ ap (λ b. nat_lt n (slice_index below p) || b) rest ∙ levels_two n (slice_index below p) (levels_by below placed) few

pub depth_by : (graph : List (List ℕ)) (below : List ℕ) (m : ℕ) → ((p : ℕ) → Contains (placed_in graph m) p → IsDepth graph p (slice_index below p))
    → IsDepth graph m (levels_by below (placed_in graph m))
depth_by graph below m h zero few = some_deeper below (placed_in graph m)
depth_by graph below m h (suc n) few = list_deeper graph below n few (placed_in graph m) h

-- one placed model more
pub levels_more : (below placed : List ℕ) (i p : ℕ) → i < length placed → p ≡ get_or placed i 0
    → levels_by below (take (i + 1) placed) ≡ max (levels_by below (take i placed)) (min (slice_index below p + 1) 65)
levels_more below placed i p within is =
    ap greatest (map_more (λ m. min (slice_index below m + 1) 65) placed i 0 within ∙ ap (λ q. map (λ m. min (slice_index below m + 1) 65) (take i placed) ++ min (slice_index below q + 1) 65 ∷ []) (sym is))
    ∙ greatest-push (map (λ m. min (slice_index below m + 1) 65) (take i placed)) (min (slice_index below p + 1) 65)

-- ---- counts

capped : (cap b k s t : ℕ) → b ≡ min cap k → min cap s ≡ min cap t → min cap (b + 1 + s) ≡ min cap (suc k + t)
capped cap b k s t is same = omega arith

either_false : (a b : Bool) → (a || b) ≡ false → (a ≡ false) × (b ≡ false)
either_false true b h = cc
either_false false b h = (refl, h)

sums_capped : (graph : List (List ℕ)) (below : List ℕ) (n : ℕ) (placed : List ℕ) → ((p : ℕ) → Contains placed p → IsCount graph p (slice_index below p))
    → list_any (goes_deeper n graph) placed ≡ false
    → min 67108865 (sum (map (λ m. slice_index below m + 1) placed)) ≡ min 67108865 (sum (map (λ p. suc (count_under n graph p)) placed))
sums_capped graph below n [] h none = refl
sums_capped graph below n (p ∷ placed) h none =
    let parts = either_false (goes_deeper n graph p) (list_any (goes_deeper n graph) placed) none in
    let here : slice_index below p ≡ min 67108865 (count_under n graph p) = h p (contains-first p placed) n parts.0 in
    let rest = sums_capped graph below n placed (λ q i. h q (contains-rest p placed q i)) parts.1 in
    let one = sum_by-cons (λ (x : ℕ). x) (slice_index below p + 1) (map (λ m. slice_index below m + 1) placed) in
    let two = sum_by-cons (λ (x : ℕ). x) (suc (count_under n graph p)) (map (λ q. suc (count_under n graph q)) placed) in
    ap (min 67108865) one ∙ capped 67108865 (slice_index below p) (count_under n graph p) (sum (map (λ m. slice_index below m + 1) placed)) (sum (map (λ q. suc (count_under n graph q)) placed)) here rest
    ∙ ap (min 67108865) (sym two)

nothing_placed : (below placed : List ℕ) → is_some_placed placed ≡ false → instances_by below placed ≡ min 67108865 0
nothing_placed below [] h = refl
nothing_placed below (p ∷ placed) h = cc

pub count_by : (graph : List (List ℕ)) (below : List ℕ) (m : ℕ) → ((p : ℕ) → Contains (placed_in graph m) p → IsCount graph p (slice_index below p))
    → IsCount graph m (instances_by below (placed_in graph m))
count_by graph below m h zero none = nothing_placed below (placed_in graph m) none
count_by graph below m h (suc n) none = sums_capped graph below n (placed_in graph m) h none

-- one placed model more
pub instances_more : (below placed : List ℕ) (i p : ℕ) → i < length placed → p ≡ get_or placed i 0
    → instances_by below (take (i + 1) placed) ≡ min (instances_by below (take i placed) + (slice_index below p + 1)) 67108865
instances_more below placed i p within is =
    let f : ℕ → ℕ = λ m. slice_index below m + 1 in
    let whole = map_more f placed i 0 within ∙ ap (λ q. map f (take i placed) ++ f q ∷ []) (sym is) in
    let split = ap sum whole ∙ sum_by-append (λ (x : ℕ). x) (map f (take i placed)) (f p ∷ []) in
    let one = sum_by-cons (λ (x : ℕ). x) (f p) [] in
    ap (min 67108865) split ∙ omega (arith, one)

-- ---- a value for one model more of an order

-- What holds of the values of models holds with a new one for one model more.
pub valued_more : (P : ℕ → ℕ → Type 0) (order all : List ℕ) (i m v : ℕ) → i < length order → m ≡ get_or order i 0 → m < length all
    → ((q : ℕ) → Contains (take i order) q → P q (slice_index all q)) → P m v
    → (q : ℕ) → Contains (take (i + 1) order) q → P q (slice_index (set all m v) q)
valued_more P order all i m v within is inside so_far here q there =
    elim (cases_eq q m) [
      | inl same ↦
          let at : slice_index (set all m v) m ≡ v = get_or-set_same all m v 0 inside in
          subst (λ x. P x (slice_index (set all m v) x)) (sym same) (subst (λ y. P m y) (sym at) here)
      | inr other ↦
          let at : slice_index (set all m v) q ≡ slice_index all q = get_or-set_other all m q v 0 other in
          let whole : Contains (take i order ++ m ∷ []) q = subst (λ xs. Contains xs q) (take_more order i 0 within ∙ ap (λ y. take i order ++ y ∷ []) (sym is)) there in
          elim (Contains-push_cases (take i order) m q whole) [
            | inl was ↦ subst (λ y. P q y) (sym at) (so_far q was)
            | inr same ↦ absurd (other (sym same))
          ]
    ]

-- ---- models of an order

pub order_at : (graph : List (List ℕ)) (order : List ℕ) → IsOrder graph order → (i : ℕ) → i < length order → get_or order i 0 < length graph
order_at graph order is i within = is.models (get_or order i 0) (i, within, get_or_default order i (get_or order i 0) 0 within)

pub order_after : (graph : List (List ℕ)) (order : List ℕ) → IsOrder graph order → (i : ℕ) → i < length order → (p : ℕ) → IsPlaced graph p (get_or order i 0) → Contains (take i order) p
order_after graph order is i within p placed = is.after i (get_or order i 0) p (slice_get-get_or order i 0 within) placed

pub placed_within : (graph : List (List ℕ)) (m : ℕ) (placed : List ℕ) → IsGraph graph → placed ≡ placed_in graph m → (k d : ℕ) → k < length placed → get_or placed k d < length graph
placed_within graph m placed is are k d below = is m (get_or placed k d) (subst (λ ps. Contains ps (get_or placed k d)) are (k, below, get_or_default placed k (get_or placed k d) d below))

-- each model stands in the whole order
pub order_all : (graph : List (List ℕ)) (order : List ℕ) (i m : ℕ) → IsOrder graph order → length order ≤ i → m < length graph → Contains (take i order) m
order_all graph order i m is all below = subst (λ xs. Contains xs m) (sym (take_all i order all)) (is.all m below)
