-- Nodes of walks get their numbers and marks, and what is known of the walks stays known.
use Rattle.std.proofs.Common.{◌≡◌, ℕ, ◌+◌, ◌<◌, Bool, true, false, true≢false, ◌⊎◌, inl, inr, List, [], ◌∷◌, ◌++◌, length, map, take, set, length-set, get_or, refl, sym, ap, subst, ◌∙◌}
use Rattle.std.proofs.lemmas.List.{take_more, map-append}
use Rattle.tm_flow.specs.Lists.{Has, Each, At}
use Rattle.tm_flow.specs.Nets.{Shape, Reaches}
use Rattle.tm_flow.specs.Flows.{Leads, InFlow, all_edges_to}
use Rattle.tm_flow.specs.Searches.{with_use, IsNumbered, IsUsed, IsKnown, Uses, Names}
use Rattle.tm_flow.specs.declared.flow.Edge.{Edge}
use Rattle.tm_flow.specs.declared.search.Marks.{Marks}
use Rattle.tm_flow.proofs.ListLemmas.{has_left, has_right, has_either, each_has, each_from}
use Rattle.tm_flow.proofs.MarkLemmas.{at_set, at_set_here}
use Rattle.tm_flow.proofs.PlaceLemmas.{at_same, at_once}
use Rattle.tm_flow.proofs.FlowLemmas.{in_flow_either}
use Rattle.tm_flow.proofs.WalkLemmas.{leads_to_reached}
use Rattle.tm_flow.proofs.Augment.{all_edges_to_has}

-- what holds of the first items of a list and of the next one
pub each_more : {X : Type 0} (P : X → Type 0) (xs : List X) (i : ℕ) (x : X) → i < length xs → x ≡ get_or xs i x
    → ((y : X) → Has (take i xs) y → P y) → P x → (y : X) → Has (take (i + 1) xs) y → P y
each_more P xs i x lt is before here y h =
    elim (has_either (take i xs) (x ∷ []) y (subst (λ l. Has l y) (take_more xs i x lt ∙ ap (λ z. take i xs ++ z ∷ []) (sym is)) h)) [
      | inl old ↦ before y old
      | inr new ↦ elim new [ inl e ↦ subst P e here | inr none ↦ absurd none ]
    ]

module _ {X Y : Type 0} (f : X → Y) where
  has_image : (xs : List X) (x : X) → Has xs x → Has (map f xs) (f x)
  has_image [] x h = absurd h
  has_image (y ∷ xs) x (inl e) = inl (ap f e)
  has_image (y ∷ xs) x (inr h) = inr (has_image xs x h)

  has_of_image : (xs : List X) (y : Y) → Has (map f xs) y → (x : X) × Has xs x × (f x ≡ y)
  has_of_image [] y h = absurd h
  has_of_image (x ∷ xs) y (inl e) = (x, inl refl, e)
  has_of_image (x ∷ xs) y (inr h) = let r = has_of_image xs y h in (r.0, inr r.1, r.2)

  images_to : (xs : List X) (i : ℕ) (x : X) → i < length xs → x ≡ get_or xs i x → map f (take (i + 1) xs) ≡ map f (take i xs) ++ f x ∷ []
  images_to xs i x lt is =
      ap (map f) (take_more xs i x lt ∙ ap (λ y. take i xs ++ y ∷ []) (sym is)) ∙ map-append f (take i xs) (x ∷ [])

module _ {T : Type 0} where
  pub uses_none : {P : T → Type 0} (nodes : List T) (marks : List Marks) → ((u : T) → P u → ⊥) → IsNumbered nodes marks → Uses P nodes marks nodes marks
  uses_none nodes marks none numbered = record { numbered = numbered; named = λ u h. inl h; stays = λ u h. h; used = λ u h. absurd (none u h) }

  -- the node with the number is marked
  pub uses_one : (nodes : List T) (marks marks' : List Marks) (i : ℕ) (m : Marks) → IsNumbered nodes marks → At marks i m → marks' ≡ set marks i (with_use m)
      → Uses (At nodes i) nodes marks nodes marks'
  uses_one nodes marks marks' i m numbered has written = record {
    numbered = record { apart = numbered.apart; even = ap length written ∙ length-set marks i (with_use m) ∙ numbered.even };
    named = λ u h. inl h;
    stays = λ v k. subst (λ l. IsUsed nodes l v) (sym written) (elim (at_set marks i k.0 k.1 (with_use m) k.3) [
      | inl a ↦ (k.0, with_use m, k.2, a.1, refl)
      | inr b ↦ (k.0, k.1, k.2, b, k.4)
    ]);
    used = λ u h. (i, with_use m, h, subst (λ l. At l i (with_use m)) (sym written) (at_set_here marks i m (with_use m) has), refl);
  }

  pub uses_on : {P Q R : T → Type 0} {nodes nodes1 nodes2 : List T} {marks marks1 marks2 : List Marks} → ((u : T) → R u → P u ⊎ Q u) → ((u : T) → P u ⊎ Q u → R u)
      → Uses P nodes marks nodes1 marks1 → Uses Q nodes1 marks1 nodes2 marks2 → Uses R nodes marks nodes2 marks2
  uses_on f g a b = record {
    numbered = b.numbered;
    named = λ u h. elim (b.named u h) [ inl x ↦ elim (a.named u x) [ inl y ↦ inl y | inr y ↦ inr (g u (inl y)) ] | inr y ↦ inr (g u (inr y)) ];
    stays = λ u h. b.stays u (a.stays u h);
    used = λ u r. elim (f u r) [ inl p ↦ b.stays u (a.used u p) | inr q ↦ b.used u q ];
  }

  -- the node that got its number first
  pub uses_named : {nodes nodes1 nodes2 : List T} {marks marks1 marks2 : List Marks} (v : T) (number : ℕ) → Names v number nodes marks nodes1 marks1
      → Uses (At nodes1 number) nodes1 marks1 nodes2 marks2 → Uses (λ u. u ≡ v) nodes marks nodes2 marks2
  uses_named {nodes} {nodes1} v number a b = record {
    numbered = b.numbered;
    named = λ u h. elim (b.named u h) [
      | inl between ↦ elim (a.named u between) [ inl old ↦ inl old | inr new ↦ inr (sym new) ]
      | inr at ↦ inr (at_same nodes1 number u v at a.here)
    ];
    stays = λ u h. b.stays u (a.used u h);
    used = λ u e. b.used u (subst (At nodes1 number) (sym e) a.here);
  }

  -- one more of the nodes of a list is marked
  pub uses_more : {X : Type 0} (f : X → T) {Q : T → Type 0} {nodes nodes1 nodes2 : List T} {marks marks1 marks2 : List Marks} (xs : List X) (i : ℕ) (x : X)
      → i < length xs → x ≡ get_or xs i x → ((u : T) → Q u → f x ≡ u) → ((u : T) → f x ≡ u → Q u)
      → Uses (Has (map f (take i xs))) nodes marks nodes1 marks1 → Uses Q nodes1 marks1 nodes2 marks2 → Uses (Has (map f (take (i + 1) xs))) nodes marks nodes2 marks2
  uses_more f {Q} xs i x lt is to from a b =
      uses_on
      (λ u h. elim (has_either (map f (take i xs)) (f x ∷ []) u (subst (λ l. Has l u) (images_to f xs i x lt is) h)) [
        | inl old ↦ inl old
        | inr new ↦ elim new [ inl e ↦ inr (from u e) | inr none ↦ absurd none ]
      ])
      (λ u h. subst (λ l. Has l u) (sym (images_to f xs i x lt is)) (elim h [
        | inl old ↦ has_left (map f (take i xs)) (f x ∷ []) u old
        | inr q ↦ has_right (map f (take i xs)) (f x ∷ []) u (inl (to u q))
      ])) a b

  module _ (n : Shape T) (root : T) where
    pub known_first : (nodes : List T) (marks : List Marks) → nodes ≡ [] → marks ≡ [] → IsKnown n root [] nodes marks
    known_first nodes marks no_node no_mark =
        subst (λ l. IsKnown n root [] l marks) (sym no_node) (subst (λ l. IsKnown n root [] [] l) (sym no_mark)
        (record { numbered = record { apart = tt; even = refl }; reached = tt; used = λ e h. absurd h }))

    -- one more walk
    pub known_more : (ws : List (List (Edge T))) (w : List (Edge T)) (nodes nodes' : List T) (marks marks' : List Marks) → IsKnown n root ws nodes marks → Leads n root w
        → Uses (Has (map (λ e. e.to) w)) nodes marks nodes' marks' → IsKnown n root (ws ++ w ∷ []) nodes' marks'
    known_more ws w nodes nodes' marks marks' k l u = record {
      numbered = u.numbered;
      reached = each_from (Reaches n root) nodes' (λ v h. elim (u.named v h) [
        | inl old ↦ each_has (Reaches n root) nodes k.reached v old
        | inr new ↦ let e = has_of_image (λ d. d.to) w v new in subst (Reaches n root) e.2 (leads_to_reached n w root e.0 l e.1)
      ]);
      used = λ e h. elim (in_flow_either ws (w ∷ []) e h) [
        | inl old ↦ u.stays e.to (k.used e old)
        | inr new ↦ elim new [ inl on ↦ u.used e.to (has_image (λ d. d.to) w e on) | inr none ↦ absurd none ]
      ];
    }

    -- the walks have other edges, each an old one or to a node of the way
    pub known_grown : (ws ws' : List (List (Edge T))) (nodes nodes' : List T) (marks marks' : List Marks) (nodes_of_way : List T) → IsKnown n root ws nodes marks → nodes' ≡ nodes
        → Uses (Has nodes_of_way) nodes marks nodes' marks'
        → ((e : Edge T) → InFlow ws' e → InFlow ws e ⊎ Has nodes_of_way e.to) → IsKnown n root ws' nodes' marks'
    known_grown ws ws' nodes nodes' marks marks' nodes_of_way k same u edges = record {
      numbered = u.numbered;
      reached = subst (Each (Reaches n root)) (sym same) k.reached;
      used = λ e h. elim (edges e h) [ inl old ↦ u.stays e.to (k.used e old) | inr new ↦ u.used e.to new ];
    }

  -- no walk comes to a node that is not used
  pub unused_free : (eq : T → T → Bool) → ((x y : T) → eq x y ≡ true → x ≡ y) → (nodes : List T) (marks : List Marks) (ws : List (List (Edge T))) (v : T) (i : ℕ) (m : Marks)
      → IsNumbered nodes marks → ((e : Edge T) → InFlow ws e → IsUsed nodes marks e.to) → At nodes i v → At marks i m → m.used ≡ false → all_edges_to eq v ws ≡ []
  unused_free eq same nodes marks ws v i m numbered used here has none = by (all_edges_to eq v ws) refl
    where
      by : (es : List (Edge T)) → all_edges_to eq v ws ≡ es → all_edges_to eq v ws ≡ []
      by [] e = e
      by (d ∷ es) e =
          let on : InFlow ws d × (d.to ≡ v) = all_edges_to_has eq same v ws d (subst (λ l. Has l d) (sym e) (inl refl)) in
          let k : IsUsed nodes marks v = subst (IsUsed nodes marks) on.1 (used d on.0) in
          let once : k.0 ≡ i = at_once nodes k.0 i v numbered.apart k.2 here in
          let is : k.1 ≡ m = at_same marks i k.1 m (subst (λ j. At marks j k.1) once k.3) has in
          absurd (true≢false (sym k.4 ∙ ap (λ x. x.used) is ∙ none))
