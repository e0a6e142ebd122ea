-- Names and signals seen one after another, until one comes again.
use Rattle.std.proofs.Common.{◌≡◌, ◌≢◌, ℕ, ◌+◌, ◌<◌, ◌≤◌, inl, inr, Bool, true, false, cond, not, List, [], ◌∷◌, ◌++◌, map, length, set, get_or, take, refl, sym, ◌∙◌, ap, subst, arith, ◌||◌, length-append}
use Rattle.std.specs.Prelude.{AllPairs, Contains, slice_index_or}
use Rattle.std.specs.Borrow.{Bor}
use Rattle.std.specs.List.{list_any}
use Rattle.std.specs.Prelude.{bytes_eq, IsTrue, ◌↔◌}
use Rattle.std.specs.Bool.{Decides}
use Rattle.std.proofs.lemmas.Bool.{cases_eq, false≢true}
use Rattle.std.proofs.lemmas.Bool.Decides.{Decides-or, Decides-like, Decides-eqb}
use Rattle.std.proofs.lemmas.Slice.Eq.{slice_eq-Decides}
use Rattle.tm_circuit.proofs.ListLemmas.{contains-first, contains-rest, contains-cases, contains-none}
use Rattle.std.proofs.lemmas.List.{get_or-set_same, get_or-set_other, take_more, take_all, take_at, length-take-le, length_push, get_or-take, get_or_read, get_or_push, get_or_append_left, length-set, map-append}
use Rattle.std.proofs.lemmas.List.Quantifiers.{all_pairs_push}
use Rattle.std.proofs.lemmas.List.Elements.{Contains-push, Contains-push_cases, Contains-append_left, Contains-get_or}

-- the names under the keys are those up to a place, and no two of them are the same
pub record HaveSeen (keys : List (Bor (List ℕ))) (names : List (List ℕ)) (i : ℕ) : Type 0 where
  pub keys_are : map (λ (k : Bor (List ℕ)). k.now) keys ≡ take i names
  pub apart : AllPairs (λ a b. a ≢ b) (take i names)

-- the marks are those of the signals up to a place, and no two of them are the same
pub record HaveMarked (n : ℕ) (marks : List Bool) (signals : List ℕ) (i : ℕ) : Type 0 where
  pub sized : length marks ≡ n
  pub marked : (s : ℕ) → slice_index_or marks s false ≡ true → Contains (take i signals) s
  pub all_marked : (s : ℕ) → Contains (take i signals) s → slice_index_or marks s false ≡ true
  pub apart : AllPairs (λ a b. a ≢ b) (take i signals)

-- one signal more that was not marked
pub marked_more : (n : ℕ) (marks : List Bool) (signals : List ℕ) (i s : ℕ) → HaveMarked n marks signals i → i < length signals → s ≡ get_or signals i s → s < n
    → slice_index_or marks s false ≡ false → HaveMarked n (set marks s true) signals (i + 1)
marked_more n marks signals i s h within is below fresh =
    let more : take (i + 1) signals ≡ take i signals ++ s ∷ [] = take_more signals i s within ∙ ap (λ x. take i signals ++ x ∷ []) (sym is) in
    let here : slice_index_or (set marks s true) s false ≡ true = get_or-set_same marks s true false (omega (arith, h.sized)) in
    let other : (t : ℕ) → t ≢ s → slice_index_or (set marks s true) t false ≡ slice_index_or marks t false = λ t e. get_or-set_other marks s t true false e in
    record {
      sized = length-set marks s true ∙ h.sized;
      marked = λ t m. rw more (elim (cases_eq t s) [
        | inl same ↦ subst (λ x. Contains (take i signals ++ s ∷ []) x) (sym same) (Contains-push (take i signals) s)
        | inr differ ↦ Contains-append_left (take i signals) (s ∷ []) t (h.marked t (sym (other t differ) ∙ m))
      ]);
      all_marked = λ t c. elim (cases_eq t s) [
        | inl same ↦ subst (λ x. slice_index_or (set marks s true) x false ≡ true) (sym same) here
        | inr differ ↦ elim (Contains-push_cases (take i signals) s t (rw more at c)) [
          | inl before ↦ other t differ ∙ h.all_marked t before
          | inr same ↦ absurd (differ (sym same))
        ]
      ];
      apart = rw more (all_pairs_push (λ a b. a ≢ b) (take i signals) s h.apart (λ k d w e.
          let m = h.all_marked (get_or (take i signals) k d) (Contains-get_or (take i signals) k d w) in
          let m' : slice_index_or marks s false ≡ true = subst (λ x. slice_index_or marks x false ≡ true) e m in cc));
    }

-- an element that stands before a place and again at it is repeated
pub repeated : {X : Type 0} (xs : List X) (i : ℕ) (x : X) → i < length xs → x ≡ get_or xs i x → Contains (take i xs) x → AllPairs (λ a b. a ≢ b) xs → ⊥
repeated xs i x within is before apart =
    let k = before.0 in
    let low : k < i = omega (arith, before.1, length-take-le i xs (omega arith)) in
    let first : get_or xs k x ≡ x = sym (get_or-take i xs k x low) ∙ before.2 in
    apart k i x low within (first ∙ is)

not_not : (b : Bool) → not b ≡ false → b ≡ true
not_not true h = refl
not_not false h = cc

not_yes : (b : Bool) → not b ≡ true → b ≡ false
not_yes true h = cc
not_yes false h = refl

-- two names are the same where their bytes are
bytes_are : (x y : List ℕ) → Decides (bytes_eq x y) (x ≡ y)
bytes_are x y = slice_eq-Decides Decides-eqb x y (bytes_eq x y) refl

-- a name was seen where some key has its bytes
any_key : (x : List ℕ) (keys : List (Bor (List ℕ))) → Decides (list_any (λ (k : Bor (List ℕ)). bytes_eq x k.now) keys) (Contains (map (λ (k : Bor (List ℕ)). k.now) keys) x)
any_key x [] = (λ e. cc, λ h. absurd (contains-none x h))
any_key x (k ∷ keys) =
    let rest = map (λ (y : Bor (List ℕ)). y.now) keys in
    Decides-like (bytes_eq x k.now || list_any (λ (y : Bor (List ℕ)). bytes_eq x y.now) keys)
    (λ h. elim h [ inl same ↦ subst (λ (y : List ℕ). Contains (y ∷ rest) x) same (contains-first x rest) | inr later ↦ contains-rest k.now rest x later ])
    (λ h. elim (contains-cases k.now rest x h) [ inl same ↦ inl (sym same) | inr later ↦ inr later ])
    (Decides-or (bytes_eq x k.now) (list_any (λ (y : Bor (List ℕ)). bytes_eq x y.now) keys) (bytes_are x k.now) (any_key x keys))

-- nothing is repeated in the front of a list in which nothing is
apart_front : {X : Type 0} (xs ys : List X) → AllPairs (λ a b. a ≢ b) (xs ++ ys) → AllPairs (λ a b. a ≢ b) xs
apart_front {X} xs ys h = λ i j d a b.
    let first : get_or (xs ++ ys) i d ≡ get_or xs i d = get_or_append_left xs ys d i (omega arith) in
    let second : get_or (xs ++ ys) j d ≡ get_or xs j d = get_or_append_left xs ys d j b in
    λ e. h i j d a (omega (arith, length-append xs ys)) (first ∙ e ∙ sym second)

-- a name that was seen before is repeated
pub seen_again : (keys : List (Bor (List ℕ))) (names more : List (List ℕ)) (i : ℕ) (x y : List ℕ) (added : Bool) → HaveSeen keys names i → i < length names → y ≡ x → x ≡ get_or names i x
    → added ≡ not (list_any (λ (k : Bor (List ℕ)). bytes_eq y k.now) keys) → added ≡ false → AllPairs (λ a b. a ≢ b) (names ++ more) → ⊥
seen_again keys names more i x y added h within same is was none apart =
    let any : list_any (λ (k : Bor (List ℕ)). bytes_eq y k.now) keys ≡ true = not_not (list_any (λ (k : Bor (List ℕ)). bytes_eq y k.now) keys) (sym was ∙ none) in
    let before = (any_key y keys).0 any in
    repeated names i x within is (subst (λ (z : List ℕ). Contains (take i names) z) same (subst (λ (zs : List (List ℕ)). Contains zs y) h.keys_are before)) (apart_front names more apart)

-- a name that was not seen is one more
pub seen_more : (keys new : List (Bor (List ℕ))) (names : List (List ℕ)) (i : ℕ) (x : List ℕ) (key : Bor (List ℕ)) (added : Bool) → HaveSeen keys names i → i < length names → key.now ≡ x
    → x ≡ get_or names i x → added ≡ not (list_any (λ (k : Bor (List ℕ)). bytes_eq key.now k.now) keys) → added ≡ true
    → new ≡ cond (list_any (λ (k : Bor (List ℕ)). bytes_eq key.now k.now) keys) keys (keys ++ key ∷ []) → HaveSeen new names (i + 1)
seen_more keys new names i x key added h within same is was fresh grown =
    let none : list_any (λ (k : Bor (List ℕ)). bytes_eq key.now k.now) keys ≡ false = not_yes (list_any (λ (k : Bor (List ℕ)). bytes_eq key.now k.now) keys) (sym was ∙ fresh) in
    let more : take (i + 1) names ≡ take i names ++ x ∷ [] = take_more names i x within ∙ ap (λ z. take i names ++ z ∷ []) (sym is) in
    let new' : new ≡ keys ++ key ∷ [] = grown ∙ ap (λ b. cond b keys (keys ++ key ∷ [])) none in
    let apart : Contains (take i names) x → ⊥ = λ c.
    false≢true (sym none ∙ (any_key key.now keys).1 (subst (λ (zs : List (List ℕ)). Contains zs key.now) (sym h.keys_are) (subst (λ (z : List ℕ). Contains (take i names) z) (sym same) c))) in
    record {
      keys_are = ap (λ ks. map (λ (k : Bor (List ℕ)). k.now) ks) new' ∙ map-append (λ (k : Bor (List ℕ)). k.now) keys (key ∷ [])
          ∙ ap (λ ns. ns ++ key.now ∷ []) h.keys_are ∙ ap (λ z. take i names ++ z ∷ []) same ∙ sym more;
      apart = rw more (all_pairs_push (λ (a b : List ℕ). a ≢ b) (take i names) x h.apart (λ k d w e.
          apart (subst (λ (z : List ℕ). Contains (take i names) z) e (Contains-get_or (take i names) k d w))));
    }

-- the clock's name after all names
pub clock_seen : (keys : List (Bor (List ℕ))) (names last : List (List ℕ)) (i : ℕ) (x y : List ℕ) (added : Bool) → HaveSeen keys names i → length names ≤ i → y ≡ x → last ≡ x ∷ []
    → added ≡ not (list_any (λ (k : Bor (List ℕ)). bytes_eq y k.now) keys) → IsTrue added ↔ AllPairs (λ a b. a ≢ b) (names ++ last)
clock_seen keys names last i x y added h past same is was =
    let all : take i names ≡ names = take_all i names past in
    let decides = any_key y keys in
    let apart : added ≡ true → Contains names x → ⊥ = λ e c.
    let none : list_any (λ (k : Bor (List ℕ)). bytes_eq y k.now) keys ≡ false = not_yes (list_any (λ (k : Bor (List ℕ)). bytes_eq y k.now) keys) (sym was ∙ e) in
    false≢true (sym none ∙ decides.1 (subst (λ (zs : List (List ℕ)). Contains zs y) (sym (h.keys_are ∙ all)) (subst (λ (z : List ℕ). Contains names z) (sym same) c))) in (
      λ e. rw is (all_pairs_push (λ (a b : List ℕ). a ≢ b) names x (rw all at h.apart) (λ k d w s. apart e (subst (λ (z : List ℕ). Contains names z) s (Contains-get_or names k d w)))),
      λ pairs. by_added added refl pairs,
    )
  where
    by_added : (b : Bool) → b ≡ added → AllPairs (λ a b. a ≢ b) (names ++ last) → b ≡ true
    by_added true e pairs = refl
    by_added false e pairs =
        let any : list_any (λ (k : Bor (List ℕ)). bytes_eq y k.now) keys ≡ true = not_not (list_any (λ (k : Bor (List ℕ)). bytes_eq y k.now) keys) (sym was ∙ sym e) in
        let all : take i names ≡ names = take_all i names past in
        let before : Contains names x = subst (λ (z : List ℕ). Contains names z) same (subst (λ (zs : List (List ℕ)). Contains zs y) (h.keys_are ∙ all) ((any_key y keys).0 any)) in
        let long : names ++ last ≡ names ++ x ∷ [] = ap (λ l. names ++ l) is in
        let at : x ≡ get_or (names ++ x ∷ []) (length names) x = sym (get_or_push names x x (length names) refl) in
        let front : take (length names) (names ++ x ∷ []) ≡ names = take_at names (x ∷ []) (length names) refl in
        absurd (repeated (names ++ x ∷ []) (length names) x (omega (arith, length_push names x)) at (subst (λ (zs : List (List ℕ)). Contains zs x) (sym front) before)
        (subst (λ (zs : List (List ℕ)). AllPairs (λ a b. a ≢ b) zs) long pairs))

-- what was read of the marks
pub mark_is : (n : ℕ) (marks : List Bool) (i s : ℕ) (b : Bool) → length marks ≡ n → s < n → i ≡ s → b ≡ get_or marks i b → slice_index_or marks s false ≡ b
mark_is n marks i s b sized below here read =
    let within : i < length marks = omega arith in
    subst (λ j. slice_index_or marks j false ≡ b) here (sym (get_or_read marks i b within read false))
