-- A descent step by step: what opening a gate, moving on to its next pin and finishing it keep true.
use Rattle.std.proofs.Common.{◌≡◌, ◌≢◌, ℕ, zero, suc, ◌+◌, ◌<◌, ◌≤◌, inl, inr, Bool, true, false, cond, List, [], ◌∷◌, ◌++◌, map, length, set, get_or, reverse, take, Some, refl, sym, ◌∙◌, ap, subst, arith}
use Rattle.std.specs.Prelude.{slice_get, slice_index, count_by, Contains}
use Rattle.std.proofs.lemmas.Bool.{cases_eq, cases_lt}
use Rattle.std.proofs.lemmas.Option.{slice_get_within, slice_get_read, slice_get-map, get_or_from_slice_get}
use Rattle.std.specs.Prelude.{option_map}
use Rattle.tm_circuit.specs.declared.parts.Driver.{Driver}
use Rattle.std.proofs.lemmas.List.{get_or_default, get_or_read, length-map, length-set, get_or-set_same, get_or-set_other, get_or_past, reverse-append, take-append-le, take_at, length_push}
use Rattle.std.proofs.lemmas.List.Sums.{sum_by-set, count_by-le-length}
use Rattle.std.proofs.lemmas.List.Elements.{Contains-push, Contains-push_cases, Contains-append_left, Contains-get_or}
use Rattle.std.proofs.lemmas.List.Quantifiers.{all_pairs_push}
use Rattle.tm_circuit.specs.declared.depths.Descent.{Descent}
use Rattle.tm_circuit.specs.declared.depths.Frame.{Frame}
use Rattle.tm_circuit.specs.declared.depths.Mark.{Mark}
use Rattle.tm_circuit.specs.declared.depths.Mark.TheVariants.{Fresh, Open, Done}
use Rattle.tm_circuit.specs.Plain.{Drive, drive_of, input, latch, gate, drive_in, pins_of, greatest, is_gate}
use Rattle.tm_circuit.specs.Chain.{IsGate, IsPin, IsPinOfFirst, IsChain, HasCircle, depth_by}
use Rattle.tm_circuit.specs.Descent.{mark_at, is_fresh, is_waiting, AreDone, gates_of, HavePassed, IsRankedAt, IsDescending, Descends, IsAtRest, IsFresh, Finishes, Turns}
use Rattle.tm_circuit.proofs.LayoutLemmas.{get-append-cases}
use Rattle.tm_circuit.proofs.ListLemmas.{contains-first, contains-rest, contains-cases, contains-none, contains-unmap, map-agree, greatest-below}

-- a signal that is not done is one of those that have a mark
pub marked : (marks : List Mark) (s : ℕ) → mark_at marks s ≢ Done → s < length marks
marked marks s h = elim (cases_lt s (length marks)) [ inl below ↦ below | inr past ↦ absurd (h (get_or_past marks s Done past)) ]

-- the mark that was written, where the signal had one
pub mark-same : (marks : List Mark) (s : ℕ) (m : Mark) → mark_at marks s ≢ Done → mark_at (set marks s m) s ≡ m
mark-same marks s m h = let within = marked marks s h in get_or-set_same marks s m Done within

-- other marks stay
pub mark-other : (marks : List Mark) (s t : ℕ) (m : Mark) → t ≢ s → mark_at (set marks s m) t ≡ mark_at marks t
mark-other marks s t m h = get_or-set_other marks s t m Done h

-- what is done stays done where something that is not done gets a mark
pub done-kept : (marks : List Mark) (s t : ℕ) (m : Mark) → mark_at marks s ≢ Done → mark_at marks t ≡ Done → mark_at (set marks s m) t ≡ Done
done-kept marks s t m h d = mark-other marks s t m (λ e. h (subst (λ x. mark_at marks x ≡ Done) e d)) ∙ d

passed-kept : (drives : List Drive) (marks : List Mark) (s : ℕ) (m : Mark) → mark_at marks s ≢ Done → (trail : List Frame) → HavePassed drives marks trail
    → HavePassed drives (set marks s m) trail
passed-kept drives marks s m h [] p = tt
passed-kept drives marks s m h (f ∷ trail) p = (λ k a b. done-kept marks s _ m h (p.0 k a b), passed-kept drives marks s m h trail p.1)

-- depths by ranks that agree on the pins are the same
pub depth_by-agree : (f g : ℕ → ℕ) (d : Drive) → ((p : ℕ) → Contains (pins_of d) p → f p ≡ g p) → depth_by f d ≡ depth_by g d
depth_by-agree f g input h = refl
depth_by-agree f g (latch next init) h = refl
depth_by-agree f g (gate pins cover) h = ap (λ xs. suc (greatest xs)) (map-agree f g pins h)

-- the depth of a gate is one more than the greatest of its pins
pub depth_by-gate : (f : ℕ → ℕ) (d : Drive) → is_gate d ≡ true → depth_by f d ≡ suc (greatest (map f (pins_of d)))
depth_by-gate f input h = cc
depth_by-gate f (latch next init) h = cc
depth_by-gate f (gate pins cover) h = refl

-- what has pins is a gate
pub pinned-gate : (d : Drive) (p : ℕ) → Contains (pins_of d) p → is_gate d ≡ true
pinned-gate input p h = absurd (contains-none p h)
pinned-gate (latch next init) p h = absurd (contains-none p h)
pinned-gate (gate pins cover) p h = refl

-- how many wait after a write at one that waits
weight : Mark → ℕ
weight m = cond {A = ℕ} (is_waiting m) 1 0

waits-one : (m : Mark) → m ≢ Done → weight m ≡ 1
unfolding weight
waits-one Fresh h = refl
waits-one Open h = refl
waits-one Done h = absurd (h refl)

waiting-set : (marks : List Mark) (s : ℕ) (m : Mark) → mark_at marks s ≢ Done → is_waiting m ≡ true → count_by is_waiting (set marks s m) ≡ count_by is_waiting marks
unfolding weight
waiting-set marks s m h w =
    let within = marked marks s h in
    let sums = sum_by-set weight marks s m Done within in
    let one = waits-one (mark_at marks s) h in
    let new = ap (λ (b : Bool). cond {A = ℕ} b 1 0) w in
    omega (arith, sums, one, new)

done-set : (marks : List Mark) (s : ℕ) → mark_at marks s ≢ Done → count_by is_waiting (set marks s Done) + 1 ≡ count_by is_waiting marks
unfolding weight
done-set marks s h =
    let within = marked marks s h in
    let sums = sum_by-set weight marks s Done Done within in
    let one = waits-one (mark_at marks s) h in
    omega (arith, sums, one)

-- the one element of a list of one
single : {X : Type 0} (y x : X) (j : ℕ) → slice_get (y ∷ []) j ≡ Some x → (j ≡ 0) × (y ≡ x)
single y x zero h = (refl, cc)
single y x (suc j) h = cc

-- a chain up to a gate that stands on it
chain-upto-in : (drives : List Drive) (a : ℕ) (xs : List ℕ) (p : ℕ) → IsChain drives (a ∷ xs) → Contains xs p → (through : List ℕ) × IsChain drives (a ∷ (through ++ p ∷ []))
chain-upto-in drives a [] p c h = absurd (contains-none p h)
chain-upto-in drives a (b ∷ xs) p c h =
    elim (contains-cases b xs p h) [
      | inl same ↦ ([], subst (λ x. IsChain drives (a ∷ x ∷ [])) same (c.0, c.1, (c.2.0, tt, tt)))
      | inr rest ↦ let found = chain-upto-in drives b xs p c.2 rest in (b ∷ found.0, (c.0, c.1, found.1))
    ]

module _ (drives : List Drive) (marks : List Mark) (ranks order : List ℕ) where
  -- a fresh pin of the newest gate, or a fresh root, is put on the trail
  pub opened_keeps : (trail : List Frame) (p : ℕ) → IsDescending drives marks ranks order trail → mark_at marks p ≡ Fresh → IsPinOfFirst drives p (gates_of trail)
      → IsDescending drives (set marks p Open) ranks order (record { gate = p; pin = 0 } ∷ trail)
  opened_keeps trail p h fresh pin =
      let waits : mark_at marks p ≢ Done = λ e. cc in
      let old : (s : ℕ) → s ≢ p → mark_at (set marks p Open) s ≡ mark_at marks s = λ s e. mark-other marks p s Open e in
      let was_done : (s : ℕ) → mark_at (set marks p Open) s ≡ Done → mark_at marks s ≡ Done = λ s e.
      elim (cases_eq s p) [
        | inl same ↦ let open' = mark-same marks p Open waits in absurd (let e' = subst (λ x. mark_at (set marks p Open) x ≡ Done) same e in cc)
        | inr other ↦ sym (old s other) ∙ e
      ] in
      record {
        marks_sized = length-set marks p Open ∙ h.marks_sized;
        ranks_sized = h.ranks_sized;
        gates = λ s e. elim (cases_eq s p) [
          | inl same ↦ subst (λ x. IsGate drives x) (sym same) (h.gates p waits)
          | inr other ↦ h.gates s (λ d. e (old s other ∙ d))
        ];
        chain = (h.gates p waits, pin, h.chain);
        opened = λ s e. elim (cases_eq s p) [
          | inl same ↦ subst (λ x. Contains (p ∷ gates_of trail) x) (sym same) (contains-first p (gates_of trail))
          | inr other ↦ contains-rest p (gates_of trail) s (h.opened s (sym (old s other) ∙ e))
        ];
        all_open = λ s e. elim (contains-cases p (gates_of trail) s e) [
          | inl same ↦ subst (λ x. mark_at (set marks p Open) x ≡ Open) same (mark-same marks p Open waits)
          | inr rest ↦ let was = h.all_open s rest in old s (λ same. let at = subst (λ x. mark_at marks x ≡ Open) same was in cc) ∙ was
        ];
        apart = (λ e. let was = h.all_open p e in cc, h.apart);
        passed = (λ k a b. absurd (omega arith), passed-kept drives marks p Open waits trail h.passed);
        ranked = λ s e. let was = h.ranked s (was_done s e) in record {
          pins = λ q i. done-kept marks p q Open waits (was.pins q i);
          rank = was.rank;
        };
        listed = λ s e. let was = h.listed s e in (was.0, done-kept marks p s Open waits was.1);
        all_listed = λ s g e. h.all_listed s g (was_done s e);
        once = h.once;
        after = h.after;
        bounded = h.bounded;
        counted = let same = waiting-set marks p Open waits refl in omega (arith, h.counted);
      }

  -- a gate whose pins are all done leaves the trail with its rank, and stands last in the order
  pub finished_keeps : (f : Frame) (trail : List Frame) (rank : ℕ) → IsDescending drives marks ranks order (f ∷ trail)
      → ((p : ℕ) → IsPin drives p f.gate → mark_at marks p ≡ Done)
      → rank ≡ suc (greatest (map (slice_index ranks) (pins_of (drive_in drives f.gate))))
      → IsDescending drives (set marks f.gate Done) (set ranks f.gate rank) (order ++ f.gate ∷ []) trail
  finished_keeps f trail rank h pins is =
      let g = f.gate in
      let open_g : mark_at marks g ≡ Open = h.all_open g (contains-first g (gates_of trail)) in
      let waits : mark_at marks g ≢ Done = λ e. cc in
      let is_gate_g : IsGate drives g = h.chain.0 in
      let in_marks = marked marks g waits in
      let in_ranks : g < length ranks = omega (arith, h.marks_sized, h.ranks_sized) in
      let mark_g : mark_at (set marks g Done) g ≡ Done = mark-same marks g Done waits in
      let rank_g : slice_index (set ranks g rank) g ≡ rank = get_or-set_same ranks g rank 0 in_ranks in
      let old : (s : ℕ) → s ≢ g → mark_at (set marks g Done) s ≡ mark_at marks s = λ s e. mark-other marks g s Done e in
      let old_rank : (s : ℕ) → s ≢ g → slice_index (set ranks g rank) s ≡ slice_index ranks s = λ s e. get_or-set_other ranks g s rank 0 e in
      let apart : (s : ℕ) → mark_at marks s ≡ Done → s ≢ g = λ s d e. let d' = subst (λ x. mark_at marks x ≡ Done) e d in cc in
      let agree : (s : ℕ) → ((p : ℕ) → IsPin drives p s → mark_at marks p ≡ Done)
      → depth_by (slice_index (set ranks g rank)) (drive_in drives s) ≡ depth_by (slice_index ranks) (drive_in drives s) =
      λ s done. depth_by-agree (slice_index (set ranks g rank)) (slice_index ranks) (drive_in drives s) (λ p i. old_rank p (apart p (done p i))) in
      let low : greatest (map (slice_index ranks) (pins_of (drive_in drives g))) ≤ length order =
      greatest-below (map (slice_index ranks) (pins_of (drive_in drives g))) (length order) (λ x r.
      let u = contains-unmap (slice_index ranks) (pins_of (drive_in drives g)) x r in subst (λ y. y ≤ length order) u.2 (h.bounded u.0)) in
      record {
        marks_sized = length-set marks g Done ∙ h.marks_sized;
        ranks_sized = length-set ranks g rank ∙ h.ranks_sized;
        gates = λ s e. elim (cases_eq s g) [
          | inl same ↦ subst (λ x. IsGate drives x) (sym same) is_gate_g
          | inr other ↦ h.gates s (λ d. e (old s other ∙ d))
        ];
        chain = h.chain.2;
        opened = λ s e. elim (cases_eq s g) [
          | inl same ↦ absurd (let e' = subst (λ x. mark_at (set marks g Done) x ≡ Open) same e in cc)
          | inr other ↦ elim (contains-cases g (gates_of trail) s (h.opened s (sym (old s other) ∙ e))) [
            | inl same ↦ absurd (other (sym same))
            | inr rest ↦ rest
          ]
        ];
        all_open = λ s e. old s (λ same. h.apart.0 (subst (λ x. Contains (gates_of trail) x) same e)) ∙ h.all_open s (contains-rest g (gates_of trail) s e);
        apart = h.apart.1;
        passed = passed-kept drives marks g Done waits trail h.passed.1;
        ranked = λ s e. elim (cases_eq s g) [
          | inl same ↦ subst (λ x. IsRankedAt drives (set marks g Done) (set ranks g rank) x) (sym same) (record {
            pins = λ q i. done-kept marks g q Done waits (pins q i);
            rank = rank_g ∙ is ∙ sym (depth_by-gate (slice_index ranks) (drive_in drives g) is_gate_g) ∙ sym (agree g pins);
          })
          | inr other ↦ let was = h.ranked s (sym (old s other) ∙ e) in record {
            pins = λ q i. done-kept marks g q Done waits (was.pins q i);
            rank = old_rank s other ∙ was.rank ∙ sym (agree s was.pins);
          }
        ];
        listed = λ s e. elim (Contains-push_cases order g s e) [
          | inl was ↦ let l = h.listed s was in (l.0, done-kept marks g s Done waits l.1)
          | inr same ↦ (subst (λ x. IsGate drives x) same is_gate_g, subst (λ x. mark_at (set marks g Done) x ≡ Done) same mark_g)
        ];
        all_listed = λ s is_gate_s e. elim (cases_eq s g) [
          | inl same ↦ subst (λ x. Contains (order ++ g ∷ []) x) (sym same) (Contains-push order g)
          | inr other ↦ Contains-append_left order (g ∷ []) s (h.all_listed s is_gate_s (sym (old s other) ∙ e))
        ];
        once = all_pairs_push (λ a b. a ≢ b) order g h.once (λ k d below e.
            let at = h.listed (get_or order k d) (Contains-get_or order k d below) in apart (get_or order k d) at.1 e);
        after = λ k s p at pin is_gate_p. elim (get-append-cases order (g ∷ []) k s at) [
          | inl was ↦
              let within = slice_get_within order k s was in
              let same : take k (order ++ g ∷ []) ≡ take k order = take-append-le k order (g ∷ []) (omega arith) in
              subst (λ xs. Contains xs p) (sym same) (h.after k s p was pin is_gate_p)
          | inr last ↦
              let one = single g s last.0 last.2 in
              let same : take k (order ++ g ∷ []) ≡ order = take_at order (g ∷ []) k (omega (arith, last.1, one.0)) in
              subst (λ xs. Contains xs p) (sym same) (h.all_listed p is_gate_p (pins p (subst (λ x. IsPin drives p x) (sym one.1) pin)))
        ];
        bounded = λ s. elim (cases_eq s g) [
          | inl same ↦ subst (λ x. slice_index (set ranks g rank) x ≤ length (order ++ g ∷ [])) (sym same) (omega (arith, rank_g, is, low, length_push order g))
          | inr other ↦ omega (arith, old_rank s other, h.bounded s, length_push order g)
        ];
        counted = omega (arith, h.counted, done-set marks g waits, length_push order g);
      }

  -- the newest gate moves on to a pin before which all are done
  pub moved_keeps : (f : Frame) (trail : List Frame) (k : ℕ) → IsDescending drives marks ranks order (f ∷ trail) → AreDone marks (pins_of (drive_in drives f.gate)) f.pin k
      → IsDescending drives marks ranks order (record { gate = f.gate; pin = k } ∷ trail)
  moved_keeps f trail k h done = record {
    marks_sized = h.marks_sized;
    ranks_sized = h.ranks_sized;
    gates = h.gates;
    chain = h.chain;
    opened = h.opened;
    all_open = h.all_open;
    apart = h.apart;
    passed = (λ j a b. elim (cases_lt j f.pin) [ inl before ↦ h.passed.0 j a before | inr here ↦ done j here b ], h.passed.1);
    ranked = h.ranked;
    listed = h.listed;
    all_listed = h.all_listed;
    once = h.once;
    after = h.after;
    bounded = h.bounded;
    counted = h.counted;
  }

  -- where the newest gate has looked at all its pins, they are done
  pub all_done : (f : Frame) (trail : List Frame) → IsDescending drives marks ranks order (f ∷ trail)
      → AreDone marks (pins_of (drive_in drives f.gate)) f.pin (length (pins_of (drive_in drives f.gate))) → (p : ℕ) → IsPin drives p f.gate → mark_at marks p ≡ Done
  all_done f trail h done p pin =
      let at : mark_at marks (slice_index (pins_of (drive_in drives f.gate)) pin.0) ≡ Done =
      elim (cases_lt pin.0 f.pin) [ inl before ↦ h.passed.0 pin.0 (omega arith) before | inr here ↦ done pin.0 here pin.1 ] in
      let same : slice_index (pins_of (drive_in drives f.gate)) pin.0 ≡ p =
      get_or_default (pins_of (drive_in drives f.gate)) pin.0 0 p pin.1 ∙ pin.2 in
      subst (λ x. mark_at marks x ≡ Done) same at

  -- a pin of the newest gate that is open closes a circle
  pub closed_circle : (f : Frame) (trail : List Frame) (p : ℕ) → IsDescending drives marks ranks order (f ∷ trail) → IsPin drives p f.gate → mark_at marks p ≡ Open → HasCircle drives
  closed_circle f trail p h pin open_p =
      let on = h.opened p open_p in
      let found = chain-upto-in drives p (gates_of (f ∷ trail)) p (h.gates p (λ e. cc), pin, h.chain) on in
      (p, found)

-- a visit: the descent from its trail, in which nothing became fresh and the root is not
pub record IsVisiting (drives : List Drive) (old now : Descent) (root : ℕ) : Type 0 where
  pub descends : Descends drives now (reverse now.trail.items)
  pub fresh : (s : ℕ) → IsFresh now s → IsFresh old s
  pub met : ¬ IsFresh now root

-- the descent is at rest, and no signal below this one is fresh
pub record HasVisited (drives : List Drive) (d : Descent) (s : ℕ) : Type 0 where
  pub rest : IsAtRest drives d
  pub met : (t : ℕ) → t < s → ¬ IsFresh d t

-- what an element of the drivers drives
pub drive-at : (drivers : List Driver) (s : ℕ) (x : Driver) → s < length drivers → x ≡ get_or drivers s x → drive_in (map drive_of drivers) s ≡ drive_of x
drive-at drivers s x within is =
    let some = slice_get_read drivers (length drivers) s x refl within is in
    let mapped = slice_get-map drive_of drivers s ∙ ap (λ o. option_map drive_of o) some in
    get_or_from_slice_get (map drive_of drivers) s (drive_of x) (latch s false) mapped

-- the ranks of pins are few
pub deepest-few : (drives : List Drive) (marks : List Mark) (ranks order : List ℕ) (trail : List Frame) → IsDescending drives marks ranks order trail
    → (pins : List ℕ) → greatest (map (slice_index ranks) pins) ≤ length drives
deepest-few drives marks ranks order trail h pins =
    let low : greatest (map (slice_index ranks) pins) ≤ length order =
    greatest-below (map (slice_index ranks) pins) (length order) (λ x r.
    let u = contains-unmap (slice_index ranks) pins x r in subst (λ y. y ≤ length order) u.2 (h.bounded u.0)) in
    omega (arith, low, h.counted, count_by-le-length is_gate drives)

-- nothing becomes fresh where a mark is written that is not fresh
pub fresh-kept : (marks : List Mark) (s : ℕ) (m : Mark) → mark_at marks s ≢ Done → m ≢ Fresh → (t : ℕ) → mark_at (set marks s m) t ≡ Fresh → mark_at marks t ≡ Fresh
fresh-kept marks s m waits new t e =
    elim (cases_eq t s) [
      | inl same ↦ absurd (new (sym (mark-same marks s m waits) ∙ subst (λ x. mark_at (set marks s m) x ≡ Fresh) same e))
      | inr other ↦ sym (mark-other marks s t m other) ∙ e
    ]

fresh_weight : Mark → ℕ
fresh_weight m = cond {A = ℕ} (is_fresh m) 1 0

-- the gate that is opened was fresh
fresh-set_open : (marks : List Mark) (s : ℕ) → mark_at marks s ≡ Fresh → count_by is_fresh (set marks s Open) + 1 ≡ count_by is_fresh marks
unfolding fresh_weight
fresh-set_open marks s h =
    let within = marked marks s (λ e. cc) in
    let sums = sum_by-set fresh_weight marks s Open Done within in
    let one = ap fresh_weight h in
    omega (arith, sums, one)

-- no more are fresh where a gate is finished
fresh-set_done : (marks : List Mark) (s : ℕ) → mark_at marks s ≢ Done → count_by is_fresh (set marks s Done) ≤ count_by is_fresh marks
unfolding fresh_weight
fresh-set_done marks s h =
    let within = marked marks s h in
    let sums = sum_by-set fresh_weight marks s Done Done within in
    omega (arith, sums)

-- the turn that finishes the newest gate
pub finished_turn : (drives : List Drive) (old new : Descent) (f : Frame) (pins ranks : List ℕ) (marks : List Mark) (below : ℕ)
    → Descends drives old (f ∷ reverse old.trail.items)
    → pins ≡ pins_of (drive_in drives f.gate) → marks ≡ old.marks.items → ranks ≡ old.ranks.items
    → AreDone marks pins f.pin (length pins) → below ≡ greatest (map (slice_index ranks) pins)
    → Finishes old new f.gate (below + 1) → Turns drives old new
finished_turn drives old new f pins ranks marks below h pins_are marks_are ranks_are done is step =
    let trail = reverse old.trail.items in
    let done' = subst (λ m. AreDone m (pins_of (drive_in drives f.gate)) f.pin (length (pins_of (drive_in drives f.gate)))) marks_are
    (subst (λ ps. AreDone marks ps f.pin (length ps)) pins_are done) in
    let pins_done = all_done drives old.marks.items old.ranks.items old.order.items f trail h done' in
    let is' : below ≡ greatest (map (slice_index old.ranks.items) (pins_of (drive_in drives f.gate))) =
    subst (λ ps. below ≡ greatest (map (slice_index old.ranks.items) ps)) pins_are (subst (λ rs. below ≡ greatest (map (slice_index rs) pins)) ranks_are is) in
    let kept = finished_keeps drives old.marks.items old.ranks.items old.order.items f trail (below + 1) h pins_done (omega (arith, is')) in
    let waits : mark_at old.marks.items f.gate ≢ Done = λ e. let open' = h.all_open f.gate (contains-first f.gate (gates_of trail)) in cc in
    record {
      descends = rw (step.marks, step.ranks, step.order, step.trail) kept;
      less = let fewer = fresh-set_done old.marks.items f.gate waits in rw (step.marks, step.trail) (omega (arith, fewer));
      fresh = λ s e. fresh-kept old.marks.items f.gate Done waits (λ d. cc) s (rw step.marks at e);
    }

-- the turn that opens a pin of the newest gate
pub opened_turn : (drives : List Drive) (old new : Descent) (f : Frame) (pins : List ℕ) (marks : List Mark) (k p : ℕ)
    → Descends drives old (f ∷ reverse old.trail.items)
    → pins ≡ pins_of (drive_in drives f.gate) → marks ≡ old.marks.items
    → k < length pins → p ≡ get_or pins k p → AreDone marks pins f.pin k
    → mark_at old.marks.items p ≡ Fresh
    → new.marks.items ≡ set old.marks.items p Open → new.ranks.items ≡ old.ranks.items → new.order.items ≡ old.order.items
    → new.trail.items ≡ (old.trail.items ++ record { gate = f.gate; pin = k } ∷ []) ++ record { gate = p; pin = 0 } ∷ []
    → Turns drives old new
opened_turn drives old new f pins marks k p h pins_are marks_are within is done fresh to_marks to_ranks to_order to_trail =
    let trail = reverse old.trail.items in
    let done' = subst (λ m. AreDone m (pins_of (drive_in drives f.gate)) f.pin k) marks_are (subst (λ ps. AreDone marks ps f.pin k) pins_are done) in
    let pin : IsPin drives p f.gate = subst (λ ps. Contains ps p) pins_are (k, within, sym is) in
    let moved = moved_keeps drives old.marks.items old.ranks.items old.order.items f trail k h done' in
    let kept = opened_keeps drives old.marks.items old.ranks.items old.order.items (record { gate = f.gate; pin = k } ∷ trail) p moved fresh pin in
    let turned : reverse new.trail.items ≡ record { gate = p; pin = 0 } ∷ record { gate = f.gate; pin = k } ∷ trail =
    ap reverse to_trail ∙ reverse-append (old.trail.items ++ record { gate = f.gate; pin = k } ∷ []) (record { gate = p; pin = 0 } ∷ [])
    ∙ ap (λ xs. record { gate = p; pin = 0 } ∷ xs) (reverse-append old.trail.items (record { gate = f.gate; pin = k } ∷ [])) in
    let longer : length new.trail.items ≡ length old.trail.items + 2 =
    ap length to_trail ∙ omega (arith, length_push (old.trail.items ++ record { gate = f.gate; pin = k } ∷ []) (record { gate = p; pin = 0 }), length_push old.trail.items (record { gate = f.gate; pin = k })) in
    record {
      descends = rw (to_marks, to_ranks, to_order, turned) kept;
      less = let fewer = fresh-set_open old.marks.items p fresh in rw to_marks (omega (arith, fewer, longer));
      fresh = λ s e. fresh-kept old.marks.items p Open (λ d. cc) (λ d. cc) s (rw to_marks at e);
    }

-- a gate is one of the signals
pub gate-within : (drivers : List Driver) (g : ℕ) → IsGate (map drive_of drivers) g → g < length drivers
gate-within drivers g h =
    elim (cases_lt g (length drivers)) [
      | inl below ↦ below
      | inr past ↦
          let none : drive_in (map drive_of drivers) g ≡ latch g false = get_or_past (map drive_of drivers) g (latch g false) (omega (arith, length-map drivers drive_of)) in
          let is : is_gate (latch g false) ≡ true = subst (λ d. is_gate d ≡ true) none h in
          absurd (cc)
    ]

-- the pins that were read are those of the gate
pub pins_at : (drivers : List Driver) (s g : ℕ) (x : Driver) (pins : List ℕ) → IsGate (map drive_of drivers) g → s ≡ g → x ≡ get_or drivers s x → pins ≡ pins_of (drive_of x)
    → pins ≡ pins_of (drive_in (map drive_of drivers) g)
pins_at drivers s g x pins is_gate_g same is are =
    let within : s < length drivers = omega (arith, gate-within drivers g is_gate_g) in
    let at = drive-at drivers s x within is in
    are ∙ ap pins_of (sym at) ∙ ap (λ t. pins_of (drive_in (map drive_of drivers) t)) same

-- the mark that was read is that of the pin, which is not done
pub mark_read : (marks read_marks : List Mark) (pins : List ℕ) (k p i : ℕ) (m : Mark) → read_marks ≡ marks → k < length pins → mark_at read_marks (slice_index pins k) ≢ Done
    → p ≡ get_or pins k p → i ≡ p → m ≡ get_or marks i m → (mark_at marks p ≢ Done) × (mark_at marks p ≡ m)
mark_read marks read_marks pins k p i m same within waits is here read =
    let pin : slice_index pins k ≡ p = get_or_default pins k 0 p within ∙ sym is in
    let waits' : mark_at marks p ≢ Done = subst (λ ms. mark_at ms p ≢ Done) same (subst (λ q. mark_at read_marks q ≢ Done) pin waits) in
    let below : i < length marks = omega (arith, marked marks p waits') in
    let read' : m ≡ mark_at marks i = get_or_read marks i m below read Done in
    (waits', subst (λ j. mark_at marks j ≡ m) here (sym read'))

-- a mark that is neither of the others
pub fresh-left : (m : Mark) → m ≢ Done → m ≢ Open → m ≡ Fresh
fresh-left Fresh d o = refl
fresh-left Open d o = absurd (o refl)
fresh-left Done d o = absurd (d refl)

-- the pin that was read is a pin of the gate
pub pin_at : (drives : List Drive) (g : ℕ) (pins : List ℕ) (k p : ℕ) → pins ≡ pins_of (drive_in drives g) → k < length pins → p ≡ get_or pins k p → IsPin drives p g
pin_at drives g pins k p are within is = subst (λ ps. Contains ps p) are (k, within, sym is)

-- the mark that was read is that of the root
pub root_read : (marks : List Mark) (i root : ℕ) (m : Mark) → root < length marks → i ≡ root → m ≡ get_or marks i m → mark_at marks root ≡ m
root_read marks i root m within here read =
    let below : i < length marks = omega arith in
    let read' : m ≡ mark_at marks i = get_or_read marks i m below read Done in
    subst (λ j. mark_at marks j ≡ m) here (sym read')
