-- Models by number and by name: circles, depths and counts.
use Rattle.std.proofs.Common.{◌≡◌, ℕ, zero, suc, ◌+◌, ◌<◌, Bool, false, ◌||◌, if◌then◌else◌, List, [], ◌∷◌, ◌++◌, Some, map, sum, length, take, get_or, refl, sym, ◌∙◌, ap, arith}
use Rattle.std.specs.Prelude.{slice_get, Contains}
use Rattle.std.specs.List.{list_any}
use Rattle.std.proofs.lemmas.Option.{slice_get-get_or}
use Rattle.blif_unit.specs.Unit as unit
use Rattle.blif_unit.specs.Unit.{Told, Telling, Model}
use Rattle.blif_flat.specs.Flat.{inside, is_place, is_deeper, instances}
use Rattle.blif_flat.specs.Graph.{placed_in, IsChain, HasCircle, IsOrder}
use Rattle.blif_flat.specs.Extent.{is_some_placed, goes_deeper, count_under}
use Rattle.blif_flat.specs.Sites.{sites_told, sites_in, index_of}
use Rattle.blif_flat.specs.Plan.{body_at, graph_of}
use Rattle.blif_flat.proofs.SiteLemmas.{inside_at}
use Rattle.blif_flat.proofs.SizeLemmas.{sum-cons}

-- the models at sites
abbrev pub models_at : List Model → List Telling → List ℕ
models_at models body = map (λ s. s.model) (sites_in models body)

-- the models that a model of a number places
pub placed_is : (models some : List Model) (m : ℕ) → placed_in (graph_of (map (λ x. sites_in models x.body) some)) m ≡ models_at models (body_at some m)
placed_is models [] zero = refl
placed_is models [] (suc m) = refl
placed_is models (x ∷ some) zero = refl
placed_is models (x ∷ some) (suc m) = placed_is models some m

-- ---- depths

-- under statements that place nothing there is nothing
none_deeper : (n : ℕ) (models : List Model) → is_deeper n models [] ≡ false
none_deeper zero models = refl
none_deeper (suc n) models = refl

pub some_place : (models : List Model) (body : List Telling) → is_some_placed (models_at models body) ≡ list_any (λ t. is_place t.what) body
some_place models [] = refl
some_place models (t ∷ body) = by_kind t.what (some_place models body)
  where
    by_kind : (what : Told) → is_some_placed (models_at models body) ≡ list_any (λ x. is_place x.what) body
        → is_some_placed (map (λ s. s.model) (sites_told models what ++ sites_in models body)) ≡ (is_place what || list_any (λ x. is_place x.what) body)
    by_kind (unit.inputs names) e = e
    by_kind (unit.outputs names) e = e
    by_kind (unit.clock names) e = e
    by_kind (unit.gate pins name cover) e = e
    by_kind (unit.latch next name init control) e = e
    by_kind (unit.place name bindings) e = refl

any_inside : (p : ℕ → Bool) (q : List Telling → Bool) (models : List Model) → q [] ≡ false → ((m : ℕ) → p m ≡ q (body_at models m)) → (body : List Telling)
    → list_any p (models_at models body) ≡ list_any (λ t. q (inside models t.what)) body
any_inside p q models none same [] = refl
any_inside p q models none same (t ∷ body) = by_kind t.what (any_inside p q models none same body)
  where
    by_kind : (what : Told) → list_any p (models_at models body) ≡ list_any (λ x. q (inside models x.what)) body
        → list_any p (map (λ s. s.model) (sites_told models what ++ sites_in models body)) ≡ (q (inside models what) || list_any (λ x. q (inside models x.what)) body)
    by_kind (unit.inputs names) e = e ∙ sym (ap (λ b. b || list_any (λ x. q (inside models x.what)) body) none)
    by_kind (unit.outputs names) e = e ∙ sym (ap (λ b. b || list_any (λ x. q (inside models x.what)) body) none)
    by_kind (unit.clock names) e = e ∙ sym (ap (λ b. b || list_any (λ x. q (inside models x.what)) body) none)
    by_kind (unit.gate pins name cover) e = e ∙ sym (ap (λ b. b || list_any (λ x. q (inside models x.what)) body) none)
    by_kind (unit.latch next name init control) e = e ∙ sym (ap (λ b. b || list_any (λ x. q (inside models x.what)) body) none)
    by_kind (unit.place name bindings) e =
        ap (λ b. b || list_any p (models_at models body)) (same (index_of models name) ∙ ap q (sym (inside_at models name bindings)))
        ∙ ap (λ b. q (inside models (unit.place name bindings)) || b) e

pub deeper_is : (models : List Model) (graph : List (List ℕ)) → ((m : ℕ) → placed_in graph m ≡ models_at models (body_at models m)) → (n m : ℕ)
    → goes_deeper n graph m ≡ is_deeper n models (body_at models m)
deeper_is models graph are zero m = ap is_some_placed (are m) ∙ some_place models (body_at models m)
deeper_is models graph are (suc n) m =
    ap (list_any (goes_deeper n graph)) (are m)
    ∙ any_inside (goes_deeper n graph) (is_deeper n models) models (none_deeper n models) (λ p. deeper_is models graph are n p) (body_at models m)

-- ---- counts

sum_inside : (p : ℕ → ℕ) (q : List Telling → ℕ) (models : List Model) → ((m : ℕ) → p m ≡ q (body_at models m)) → (body : List Telling)
    → sum (map (λ m. suc (p m)) (models_at models body)) ≡ sum (map (λ t. if is_place t.what then suc (q (inside models t.what)) else 0) body)
sum_inside p q models same [] = refl
sum_inside p q models same (t ∷ body) =
    by_kind t.what (sum_inside p q models same body)
  where
    by_kind : (what : Told) → sum (map (λ m. suc (p m)) (models_at models body)) ≡ sum (map (λ x. if is_place x.what then suc (q (inside models x.what)) else 0) body)
        → sum (map (λ m. suc (p m)) (map (λ s. s.model) (sites_told models what ++ sites_in models body)))
        ≡ sum ((if is_place what then suc (q (inside models what)) else 0) ∷ map (λ x. if is_place x.what then suc (q (inside models x.what)) else 0) body)
    by_kind (unit.inputs names) e = e ∙ sym (sum-cons 0 (map (λ x. if is_place x.what then suc (q (inside models x.what)) else 0) body) ∙ omega arith)
    by_kind (unit.outputs names) e = e ∙ sym (sum-cons 0 (map (λ x. if is_place x.what then suc (q (inside models x.what)) else 0) body) ∙ omega arith)
    by_kind (unit.clock names) e = e ∙ sym (sum-cons 0 (map (λ x. if is_place x.what then suc (q (inside models x.what)) else 0) body) ∙ omega arith)
    by_kind (unit.gate pins name cover) e = e ∙ sym (sum-cons 0 (map (λ x. if is_place x.what then suc (q (inside models x.what)) else 0) body) ∙ omega arith)
    by_kind (unit.latch next name init control) e = e ∙ sym (sum-cons 0 (map (λ x. if is_place x.what then suc (q (inside models x.what)) else 0) body) ∙ omega arith)
    by_kind (unit.place name bindings) e =
        let here : p (index_of models name) ≡ q (inside models (unit.place name bindings)) = same (index_of models name) ∙ ap q (sym (inside_at models name bindings)) in
        sum-cons (suc (p (index_of models name))) (map (λ m. suc (p m)) (models_at models body))
        ∙ ap (λ k. suc k + sum (map (λ m. suc (p m)) (models_at models body))) here
        ∙ ap (λ k. suc (q (inside models (unit.place name bindings))) + k) e
        ∙ sym (sum-cons (suc (q (inside models (unit.place name bindings)))) (map (λ x. if is_place x.what then suc (q (inside models x.what)) else 0) body))

pub count_is : (models : List Model) (graph : List (List ℕ)) → ((m : ℕ) → placed_in graph m ≡ models_at models (body_at models m)) → (n m : ℕ)
    → count_under n graph m ≡ instances n models (body_at models m)
count_is models graph are zero m = refl
count_is models graph are (suc n) m =
    ap (λ ps. sum (map (λ p. suc (count_under n graph p)) ps)) (are m)
    ∙ sum_inside (count_under n graph) (instances n models) models (λ p. count_is models graph are n p) (body_at models m)

-- ---- no circle where there is an order

-- what stands among the first of a list stands at one of the first places
stands_before : (order : List ℕ) (k a : ℕ) → Contains (take k order) a → (j : ℕ) × (j < k) × (slice_get order j ≡ Some a)
stands_before [] zero a h = absurd (omega (arith, h.1))
stands_before [] (suc k) a h = absurd (omega (arith, h.1))
stands_before (x ∷ order) zero a h = absurd (omega (arith, h.1))
stands_before (x ∷ order) (suc k) a h = at h.0 h.1 h.2 (λ there. stands_before order k a there)
  where
    at : (j : ℕ) → j < length (x ∷ take k order) → get_or (x ∷ take k order) j a ≡ a → (Contains (take k order) a → (i : ℕ) × (i < k) × (slice_get order i ≡ Some a))
        → (j' : ℕ) × (j' < suc k) × (slice_get (x ∷ order) j' ≡ Some a)
    at zero w e ih = (0, omega arith, ap (λ y. Some y) e)
    at (suc j) w e ih = let r = ih (j, omega arith, e) in (suc r.0, omega (arith, r.1), r.2)

-- the first of a chain stands before its last
chain_before : (graph : List (List ℕ)) (order : List ℕ) → IsOrder graph order → (a : ℕ) (through : List ℕ) (z k : ℕ) → IsChain graph (a ∷ (through ++ z ∷ [])) → slice_get order k ≡ Some z
    → (j : ℕ) × (j < k) × (slice_get order j ≡ Some a)
chain_before graph order is a [] z k chain at = stands_before order k a (is.after k z a at chain.1)
chain_before graph order is a (b ∷ through) z k chain at =
    let later = chain_before graph order is b through z k chain.2 at in
    let here = stands_before order later.0 a (is.after later.0 b a later.2 chain.1) in
    (here.0, omega (arith, here.1, later.1), here.2)

no_place : (graph : List (List ℕ)) (order : List ℕ) → IsOrder graph order → (a : ℕ) (through : List ℕ) → IsChain graph (a ∷ (through ++ a ∷ [])) → (n k : ℕ) → k < n → slice_get order k ≡ Some a → ⊥
no_place graph order is a through chain zero k less at = omega arith
no_place graph order is a through chain (suc n) k less at =
    let before = chain_before graph order is a through a k chain at in
    no_place graph order is a through chain n before.0 (omega (arith, before.1)) before.2

pub no_circle : (graph : List (List ℕ)) (order : List ℕ) → IsOrder graph order → ¬ HasCircle graph
no_circle graph order is h =
    let a = h.0 in
    let stands = is.all a h.1.1.0 in
    let within : stands.0 < length order = stands.1 in
    let at : slice_get order stands.0 ≡ Some a = slice_get-get_or order stands.0 a within ∙ ap (λ y. Some y) stands.2 in
    no_place graph order is a h.1.0 h.1.1 (suc stands.0) stands.0 (omega arith) at
