-- A descent step by step: what opening a model, moving on to its next place and finishing it keep true.
use Rattle.std.proofs.Common.{◌≡◌, ◌≢◌, ℕ, zero, suc, ◌+◌, ◌<◌, ◌≤◌, inl, inr, cond, List, [], ◌∷◌, ◌++◌, map, length, set, get_or, reverse, take, Some, refl, sym, ◌∙◌, ap, subst, arith}
use Rattle.std.specs.Prelude.{slice_get, slice_index, count_by, Contains}
use Rattle.std.proofs.lemmas.Bool.{cases_eq, cases_lt}
use Rattle.std.specs.Prelude.{option_map}
use Rattle.std.proofs.lemmas.Option.{slice_get_within, slice_get_read, slice_get-map, get_or_from_slice_get}
use Rattle.std.proofs.lemmas.List.{get_or_default, get_or_read, length-map, length-set, get_or-set_same, get_or-set_other, get_or_past, reverse-append, take-append-le, take_at, length_push}
use Rattle.std.proofs.lemmas.List.Sums.{sum_by-set}
use Rattle.std.proofs.lemmas.List.Elements.{Contains-push, Contains-push_cases, Contains-append_left}
use Rattle.tm_circuit.proofs.LayoutLemmas.{get-append-cases}
use Rattle.tm_circuit.proofs.ListLemmas.{contains-first, contains-rest, contains-cases, contains-none}
use Rattle.blif_flat.specs.declared.order.Descent.{Descent}
use Rattle.blif_flat.specs.declared.order.Frame.{Frame}
use Rattle.blif_flat.specs.declared.order.Mark.{Mark}
use Rattle.blif_flat.specs.declared.order.Mark.TheVariants.{Fresh, Open, Done}
use Rattle.blif_flat.specs.Graph.{placed_in, IsPlaced, IsPlacedByFirst, IsChain, HasCircle, IsGraph}
use Rattle.blif_flat.specs.Descent.{mark_at, is_fresh, AreDone, models_of, HavePassed, IsDescending, Descends, IsAtRest, IsFresh, Finishes, Turns}

-- a model that is not done is one of those that have a mark
pub marked : (marks : List Mark) (s : ℕ) → mark_at marks s ≢ Done → s < length marks
marked marks s h = elim (cases_lt s (length marks)) [ inl below ↦ below | inr past ↦ absurd (h (get_or_past marks s Done past)) ]

-- the mark that was written, where the model had one
pub mark-same : (marks : List Mark) (s : ℕ) (m : Mark) → mark_at marks s ≢ Done → mark_at (set marks s m) s ≡ m
mark-same marks s m h = let within = marked marks s h in get_or-set_same marks s m Done within

-- other marks stay
pub mark-other : (marks : List Mark) (s t : ℕ) (m : Mark) → t ≢ s → mark_at (set marks s m) t ≡ mark_at marks t
mark-other marks s t m h = get_or-set_other marks s t m Done h

-- what is done stays done where something that is not done gets a mark
pub done-kept : (marks : List Mark) (s t : ℕ) (m : Mark) → mark_at marks s ≢ Done → mark_at marks t ≡ Done → mark_at (set marks s m) t ≡ Done
done-kept marks s t m h d = mark-other marks s t m (λ e. h (subst (λ x. mark_at marks x ≡ Done) e d)) ∙ d

passed-kept : (graph : List (List ℕ)) (marks : List Mark) (s : ℕ) (m : Mark) → mark_at marks s ≢ Done → (trail : List Frame) → HavePassed graph marks trail
    → HavePassed graph (set marks s m) trail
passed-kept graph marks s m h [] p = tt
passed-kept graph marks s m h (f ∷ trail) p = (λ k a b. done-kept marks s _ m h (p.0 k a b), passed-kept graph marks s m h trail p.1)

-- the one element of a list of one
single : {X : Type 0} (y x : X) (j : ℕ) → slice_get (y ∷ []) j ≡ Some x → (j ≡ 0) × (y ≡ x)
single y x zero h = (refl, cc)
single y x (suc j) h = cc

-- a chain up to a model that stands on it
chain-upto-in : (graph : List (List ℕ)) (a : ℕ) (xs : List ℕ) (p : ℕ) → IsChain graph (a ∷ xs) → Contains xs p → (through : List ℕ) × IsChain graph (a ∷ (through ++ p ∷ []))
chain-upto-in graph a [] p c h = absurd (contains-none p h)
chain-upto-in graph a (b ∷ xs) p c h =
    elim (contains-cases b xs p h) [
      | inl same ↦ ([], subst (λ x. IsChain graph (a ∷ x ∷ [])) same (c.0, c.1, (c.2.0, tt, tt)))
      | inr rest ↦ let found = chain-upto-in graph b xs p c.2 rest in (b ∷ found.0, (c.0, c.1, found.1))
    ]

module _ (graph : List (List ℕ)) (marks : List Mark) (order : List ℕ) where
  -- a fresh model placed by the newest, or a fresh root, is put on the trail
  pub opened_keeps : (trail : List Frame) (p : ℕ) → IsDescending graph marks order trail → mark_at marks p ≡ Fresh → IsPlacedByFirst graph p (models_of trail)
      → IsDescending graph (set marks p Open) order (record { model = p; place = 0 } ∷ trail)
  opened_keeps trail p h fresh pin =
      let waits : mark_at marks p ≢ Done = λ e. cc in
      let within = marked marks p waits in
      let old : (s : ℕ) → s ≢ p → mark_at (set marks p Open) s ≡ mark_at marks s = λ s e. mark-other marks p s Open e in
      let was_done : (s : ℕ) → mark_at (set marks p Open) s ≡ Done → mark_at marks s ≡ Done = λ s e.
      elim (cases_eq s p) [
        | inl same ↦ let open' = mark-same marks p Open waits in absurd (let e' = subst (λ x. mark_at (set marks p Open) x ≡ Done) same e in cc)
        | inr other ↦ sym (old s other) ∙ e
      ] in
      record {
        sized = length-set marks p Open ∙ h.sized;
        chain = (omega (arith, within, h.sized), pin, h.chain);
        opened = λ s e. elim (cases_eq s p) [
          | inl same ↦ subst (λ x. Contains (p ∷ models_of trail) x) (sym same) (contains-first p (models_of trail))
          | inr other ↦ contains-rest p (models_of trail) s (h.opened s (sym (old s other) ∙ e))
        ];
        all_open = λ s e. elim (contains-cases p (models_of trail) s e) [
          | inl same ↦ subst (λ x. mark_at (set marks p Open) x ≡ Open) same (mark-same marks p Open waits)
          | inr rest ↦ let was = h.all_open s rest in old s (λ same. let at = subst (λ x. mark_at marks x ≡ Open) same was in cc) ∙ was
        ];
        apart = (λ e. let was = h.all_open p e in cc, h.apart);
        passed = (λ k a b. absurd (omega arith), passed-kept graph marks p Open waits trail h.passed);
        listed = λ s e. let was = h.listed s e in (was.0, done-kept marks p s Open waits was.1);
        all_listed = λ s g e. h.all_listed s g (was_done s e);
        after = h.after;
      }

  -- a model whose placed models are all done leaves the trail, and stands last in the order
  pub finished_keeps : (f : Frame) (trail : List Frame) → IsDescending graph marks order (f ∷ trail)
      → ((p : ℕ) → IsPlaced graph p f.model → mark_at marks p ≡ Done) → ((p : ℕ) → IsPlaced graph p f.model → p < length graph)
      → IsDescending graph (set marks f.model Done) (order ++ f.model ∷ []) trail
  finished_keeps f trail h pins inside =
      let g = f.model in
      let open_g : mark_at marks g ≡ Open = h.all_open g (contains-first g (models_of trail)) in
      let waits : mark_at marks g ≢ Done = λ e. cc in
      let is_model_g : g < length graph = h.chain.0 in
      let mark_g : mark_at (set marks g Done) g ≡ Done = mark-same marks g Done waits in
      let old : (s : ℕ) → s ≢ g → mark_at (set marks g Done) s ≡ mark_at marks s = λ s e. mark-other marks g s Done e in
      record {
        sized = length-set marks g Done ∙ h.sized;
        chain = h.chain.2;
        opened = λ s e. elim (cases_eq s g) [
          | inl same ↦ absurd (let e' = subst (λ x. mark_at (set marks g Done) x ≡ Open) same e in cc)
          | inr other ↦ elim (contains-cases g (models_of trail) s (h.opened s (sym (old s other) ∙ e))) [
            | inl same ↦ absurd (other (sym same))
            | inr rest ↦ rest
          ]
        ];
        all_open = λ s e. old s (λ same. h.apart.0 (subst (λ x. Contains (models_of trail) x) same e)) ∙ h.all_open s (contains-rest g (models_of trail) s e);
        apart = h.apart.1;
        passed = passed-kept graph marks g Done waits trail h.passed.1;
        listed = λ s e. elim (Contains-push_cases order g s e) [
          | inl was ↦ let l = h.listed s was in (l.0, done-kept marks g s Done waits l.1)
          | inr same ↦ (subst (λ x. x < length graph) same is_model_g, subst (λ x. mark_at (set marks g Done) x ≡ Done) same mark_g)
        ];
        all_listed = λ s is_model_s e. elim (cases_eq s g) [
          | inl same ↦ subst (λ x. Contains (order ++ g ∷ []) x) (sym same) (Contains-push order g)
          | inr other ↦ Contains-append_left order (g ∷ []) s (h.all_listed s is_model_s (sym (old s other) ∙ e))
        ];
        after = λ k s p at pin. elim (get-append-cases order (g ∷ []) k s at) [
          | inl was ↦
              let within = slice_get_within order k s was in
              let same : take k (order ++ g ∷ []) ≡ take k order = take-append-le k order (g ∷ []) (omega arith) in
              subst (λ xs. Contains xs p) (sym same) (h.after k s p was pin)
          | inr last ↦
              let one = single g s last.0 last.2 in
              let same : take k (order ++ g ∷ []) ≡ order = take_at order (g ∷ []) k (omega (arith, last.1, one.0)) in
              let pin' = subst (λ x. IsPlaced graph p x) (sym one.1) pin in
              subst (λ xs. Contains xs p) (sym same) (h.all_listed p (inside p pin') (pins p pin'))
        ];
      }

  -- the newest model moves on to a place before which all are done
  pub moved_keeps : (f : Frame) (trail : List Frame) (k : ℕ) → IsDescending graph marks order (f ∷ trail) → AreDone marks (placed_in graph f.model) f.place k
      → IsDescending graph marks order (record { model = f.model; place = k } ∷ trail)
  moved_keeps f trail k h done = record {
    sized = h.sized;
    chain = h.chain;
    opened = h.opened;
    all_open = h.all_open;
    apart = h.apart;
    passed = (λ j a b. elim (cases_lt j f.place) [ inl before ↦ h.passed.0 j a before | inr here ↦ done j here b ], h.passed.1);
    listed = h.listed;
    all_listed = h.all_listed;
    after = h.after;
  }

  -- where the newest model has looked at all its places, their models are done
  pub all_done : (f : Frame) (trail : List Frame) → IsDescending graph marks order (f ∷ trail)
      → AreDone marks (placed_in graph f.model) f.place (length (placed_in graph f.model)) → (p : ℕ) → IsPlaced graph p f.model → mark_at marks p ≡ Done
  all_done f trail h done p pin =
      let at : mark_at marks (slice_index (placed_in graph f.model) pin.0) ≡ Done =
      elim (cases_lt pin.0 f.place) [ inl before ↦ h.passed.0 pin.0 (omega arith) before | inr here ↦ done pin.0 here pin.1 ] in
      let same : slice_index (placed_in graph f.model) pin.0 ≡ p =
      get_or_default (placed_in graph f.model) pin.0 0 p pin.1 ∙ pin.2 in
      subst (λ x. mark_at marks x ≡ Done) same at

  -- a model placed by the newest that is open closes a circle
  pub closed_circle : (f : Frame) (trail : List Frame) (p : ℕ) → IsDescending graph marks order (f ∷ trail) → IsPlaced graph p f.model → mark_at marks p ≡ Open → HasCircle graph
  closed_circle f trail p h pin open_p =
      let on = h.opened p open_p in
      let within : p < length marks = marked marks p (λ e. cc) in
      let found = chain-upto-in graph p (models_of (f ∷ trail)) p (omega (arith, within, h.sized), pin, h.chain) on in
      (p, found)

-- a visit: the descent from its trail, in which nothing became fresh and the root is not
pub record IsVisiting (graph : List (List ℕ)) (old now : Descent) (root : ℕ) : Type 0 where
  pub descends : Descends graph now (reverse now.trail.items)
  pub fresh : (s : ℕ) → IsFresh now s → IsFresh old s
  pub met : ¬ IsFresh now root

-- the descent is at rest, and no model below this one is fresh
pub record HasVisited (graph : List (List ℕ)) (d : Descent) (s : ℕ) : Type 0 where
  pub rest : IsAtRest graph d
  pub met : (t : ℕ) → t < s → ¬ IsFresh d t

-- nothing becomes fresh where a mark is written that is not fresh
pub fresh-kept : (marks : List Mark) (s : ℕ) (m : Mark) → mark_at marks s ≢ Done → m ≢ Fresh → (t : ℕ) → mark_at (set marks s m) t ≡ Fresh → mark_at marks t ≡ Fresh
fresh-kept marks s m waits new t e =
    elim (cases_eq t s) [
      | inl same ↦ absurd (new (sym (mark-same marks s m waits) ∙ subst (λ x. mark_at (set marks s m) x ≡ Fresh) same e))
      | inr other ↦ sym (mark-other marks s t m other) ∙ e
    ]

fresh_weight : Mark → ℕ
fresh_weight m = cond {A = ℕ} (is_fresh m) 1 0

-- the model that is opened was fresh
fresh-set_open : (marks : List Mark) (s : ℕ) → mark_at marks s ≡ Fresh → count_by is_fresh (set marks s Open) + 1 ≡ count_by is_fresh marks
unfolding fresh_weight
fresh-set_open marks s h =
    let within = marked marks s (λ e. cc) in
    let sums = sum_by-set fresh_weight marks s Open Done within in
    let one = ap fresh_weight h in
    omega (arith, sums, one)

-- no more are fresh where a model is finished
fresh-set_done : (marks : List Mark) (s : ℕ) → mark_at marks s ≢ Done → count_by is_fresh (set marks s Done) ≤ count_by is_fresh marks
unfolding fresh_weight
fresh-set_done marks s h =
    let within = marked marks s h in
    let sums = sum_by-set fresh_weight marks s Done Done within in
    omega (arith, sums)

-- the turn that finishes the newest model
pub finished_turn : (graph : List (List ℕ)) (old new : Descent) (f : Frame) (pins : List ℕ) (marks : List Mark)
    → Descends graph old (f ∷ reverse old.trail.items) → ((p : ℕ) → IsPlaced graph p f.model → p < length graph)
    → pins ≡ placed_in graph f.model → marks ≡ old.marks.items
    → AreDone marks pins f.place (length pins)
    → Finishes old new f.model → Turns graph old new
finished_turn graph old new f pins marks h inside pins_are marks_are done step =
    let trail = reverse old.trail.items in
    let done' = subst (λ m. AreDone m (placed_in graph f.model) f.place (length (placed_in graph f.model))) marks_are
    (subst (λ ps. AreDone marks ps f.place (length ps)) pins_are done) in
    let pins_done = all_done graph old.marks.items old.order.items f trail h done' in
    let kept = finished_keeps graph old.marks.items old.order.items f trail h pins_done inside in
    let waits : mark_at old.marks.items f.model ≢ Done = λ e. let open' = h.all_open f.model (contains-first f.model (models_of trail)) in cc in
    record {
      descends = rw (step.marks, step.order, step.trail) kept;
      less = let fewer = fresh-set_done old.marks.items f.model waits in rw (step.marks, step.trail) (omega (arith, fewer));
      fresh = λ s e. fresh-kept old.marks.items f.model Done waits (λ d. cc) s (rw step.marks at e);
    }

-- the turn that opens a model placed by the newest
pub opened_turn : (graph : List (List ℕ)) (old new : Descent) (f : Frame) (pins : List ℕ) (marks : List Mark) (k p : ℕ)
    → Descends graph old (f ∷ reverse old.trail.items)
    → pins ≡ placed_in graph f.model → marks ≡ old.marks.items
    → k < length pins → p ≡ get_or pins k p → AreDone marks pins f.place k
    → mark_at old.marks.items p ≡ Fresh
    → new.marks.items ≡ set old.marks.items p Open → new.order.items ≡ old.order.items
    → new.trail.items ≡ (old.trail.items ++ record { model = f.model; place = k } ∷ []) ++ record { model = p; place = 0 } ∷ []
    → Turns graph old new
opened_turn graph old new f pins marks k p h pins_are marks_are within is done fresh to_marks to_order to_trail =
    let trail = reverse old.trail.items in
    let done' = subst (λ m. AreDone m (placed_in graph f.model) f.place k) marks_are (subst (λ ps. AreDone marks ps f.place k) pins_are done) in
    let pin : IsPlaced graph p f.model = subst (λ ps. Contains ps p) pins_are (k, within, sym is) in
    let moved = moved_keeps graph old.marks.items old.order.items f trail k h done' in
    let kept = opened_keeps graph old.marks.items old.order.items (record { model = f.model; place = k } ∷ trail) p moved fresh pin in
    let turned : reverse new.trail.items ≡ record { model = p; place = 0 } ∷ record { model = f.model; place = k } ∷ trail =
    ap reverse to_trail ∙ reverse-append (old.trail.items ++ record { model = f.model; place = k } ∷ []) (record { model = p; place = 0 } ∷ [])
    ∙ ap (λ xs. record { model = p; place = 0 } ∷ xs) (reverse-append old.trail.items (record { model = f.model; place = k } ∷ [])) in
    let longer : length new.trail.items ≡ length old.trail.items + 2 =
    ap length to_trail ∙ omega (arith, length_push (old.trail.items ++ record { model = f.model; place = k } ∷ []) (record { model = p; place = 0 }), length_push old.trail.items (record { model = f.model; place = k })) in
    record {
      descends = rw (to_marks, to_order, turned) kept;
      less = let fewer = fresh-set_open old.marks.items p fresh in rw to_marks (omega (arith, fewer, longer));
      fresh = λ s e. fresh-kept old.marks.items p Open (λ d. cc) (λ d. cc) s (rw to_marks at e);
    }

-- a mark that is neither of the others
pub fresh-left : (m : Mark) → m ≢ Done → m ≢ Open → m ≡ Fresh
fresh-left Fresh d o = refl
fresh-left Open d o = absurd (o refl)
fresh-left Done d o = absurd (d refl)

-- the mark that was read is that of the placed model, which is not done
pub mark_read : (marks read_marks : List Mark) (pins : List ℕ) (k p : ℕ) (m : Mark) → read_marks ≡ marks → k < length pins → mark_at read_marks (slice_index pins k) ≢ Done
    → p ≡ get_or pins k p → m ≡ get_or marks p m → (mark_at marks p ≢ Done) × (mark_at marks p ≡ m)
mark_read marks read_marks pins k p m same within waits is read =
    let pin : slice_index pins k ≡ p = get_or_default pins k 0 p within ∙ sym is in
    let waits' : mark_at marks p ≢ Done = subst (λ ms. mark_at ms p ≢ Done) same (subst (λ q. mark_at read_marks q ≢ Done) pin waits) in
    let below : p < length marks = marked marks p waits' in
    let read' : m ≡ mark_at marks p = get_or_read marks p m below read Done in
    (waits', sym read')

-- the models that were read are those that the model places
pub placed_at : {V : Type 0} (f : V → List ℕ) (vs : List V) (m : ℕ) (x : V) (placed : List ℕ) → m < length (map f vs) → x ≡ get_or vs m x → placed ≡ f x
    → placed ≡ placed_in (map f vs) m
placed_at f vs m x placed within is are =
    let below : m < length vs = omega (arith, length-map vs f, within) in
    let some = slice_get_read vs (length vs) m x refl below is in
    let mapped = slice_get-map f vs m ∙ ap (λ o. option_map f o) some in
    are ∙ sym (get_or_from_slice_get (map f vs) m (f x) [] mapped)

-- placed models have marks
pub placed_marked : (graph : List (List ℕ)) (marks read_marks : List Mark) (m : ℕ) (placed : List ℕ) → IsGraph graph → length marks ≡ length graph → read_marks ≡ marks
    → placed ≡ placed_in graph m → (k d : ℕ) → k < length placed → get_or placed k d < length read_marks
placed_marked graph marks read_marks m placed is sized same are k d below =
    let here : IsPlaced graph (get_or placed k d) m = subst (λ ps. Contains ps (get_or placed k d)) are (k, below, get_or_default placed k (get_or placed k d) d below) in
    let inside = is m (get_or placed k d) here in
    omega (arith, inside, sized, ap length same)

-- the place that was read is one of the model
pub place_at : (graph : List (List ℕ)) (m : ℕ) (placed : List ℕ) (k : ℕ) → placed ≡ placed_in graph m → k < length placed → IsPlaced graph (get_or placed k 0) m
place_at graph m placed k are within = subst (λ ps. Contains ps (get_or placed k 0)) are (k, within, get_or_default placed k (get_or placed k 0) 0 within)

-- an element that is there does not depend on what is read past the end
pub mark_default : (placed : List ℕ) (k : ℕ) → k < length placed → get_or placed k (get_or placed k 0) ≡ get_or placed k 0
mark_default placed k within = get_or_default placed k (get_or placed k 0) 0 within
