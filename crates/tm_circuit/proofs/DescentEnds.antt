-- How a descent begins, goes from root to root, and what it has found at its end.
use Rattle.std.proofs.Common.{◌≡◌, ◌≢◌, ℕ, zero, suc, ◌+◌, ◌≤◌, inl, inr, true, false, cond, List, [], ◌∷◌, ◌++◌, map, length, get_or, replicate, reverse, refl, sym, ◌∙◌, ap, subst, arith}
use Rattle.std.specs.Prelude.{slice_index, count_by, Contains}
use Rattle.std.proofs.lemmas.Bool.{cases_lt}
use Rattle.std.proofs.lemmas.List.{length-map, length-replicate, reverse-append}
use Rattle.std.proofs.lemmas.List.Sums.{sum_by-cons, count_by-le-length}
use Rattle.tm_circuit.specs.declared.depths.Descent.{Descent}
use Rattle.tm_circuit.specs.declared.depths.Ranking.{Ranking}
use Rattle.tm_circuit.specs.declared.depths.Frame.{Frame}
use Rattle.tm_circuit.specs.declared.depths.Mark.{Mark}
use Rattle.tm_circuit.specs.declared.depths.Mark.TheVariants.{Fresh, Open, Done}
use Rattle.tm_circuit.specs.declared.parts.Driver.{Driver}
use Rattle.tm_circuit.specs.Plain.{Drive, drive_of, input, latch, gate, drive_in, pins_of, greatest, gate_count, is_gate}
use Rattle.tm_circuit.specs.Chain.{IsRanked, RisesTo, depth, depth_by, depth_within}
use Rattle.tm_circuit.specs.Descent.{first_mark_of, mark_at, is_waiting, IsDescending, Descends, IsAtRest, IsFresh, IsRanking, Opens, Turns, Visits}
use Rattle.tm_circuit.proofs.ListLemmas.{contains-none, contains-map, greatest-above, map-agree}
use Rattle.tm_circuit.proofs.DescentLemmas.{IsVisiting, HasVisited, opened_keeps, fresh-kept, mark-same, marked, depth_by-agree}

-- the first marks are those of the drives
first-at : (drives : List Drive) (s : ℕ) (d : Drive) → first_mark_of d ≡ Done → get_or (map first_mark_of drives) s Done ≡ first_mark_of (get_or drives s d)
first-at [] s d h = sym h
first-at (x ∷ drives) zero d h = refl
first-at (x ∷ drives) (suc s) d h = first-at drives s d h

no_gate-done : (d : Drive) → first_mark_of d ≢ Done → is_gate d ≡ true
no_gate-done input h = absurd (h refl)
no_gate-done (latch next init) h = absurd (h refl)
no_gate-done (gate pins cover) h = refl

never_open : (d : Drive) → first_mark_of d ≡ Open → ⊥
never_open input h = cc
never_open (latch next init) h = cc
never_open (gate pins cover) h = cc

done-no_gate : (d : Drive) → first_mark_of d ≡ Done → is_gate d ≡ true → ⊥
done-no_gate input h g = cc
done-no_gate (latch next init) h g = cc
done-no_gate (gate pins cover) h g = cc

done-no_pins : (d : Drive) → first_mark_of d ≡ Done → (p : ℕ) → Contains (pins_of d) p → ⊥
done-no_pins input h p i = contains-none p i
done-no_pins (latch next init) h p i = contains-none p i
done-no_pins (gate pins cover) h p i = cc

done-no_depth : (f : ℕ → ℕ) (d : Drive) → first_mark_of d ≡ Done → depth_by f d ≡ 0
done-no_depth f input h = refl
done-no_depth f (latch next init) h = refl
done-no_depth f (gate pins cover) h = cc

zeros : (n s : ℕ) → slice_index (replicate n 0) s ≡ 0
zeros zero s = refl
zeros (suc n) zero = refl
zeros (suc n) (suc s) = zeros n s

first-waiting : (drives : List Drive) → count_by is_waiting (map first_mark_of drives) ≡ gate_count drives
first-waiting [] = refl
first-waiting (d ∷ drives) =
    by_kind d (sum_by-cons (λ (m : Mark). cond {A = ℕ} (is_waiting m) 1 0) (first_mark_of d) (map first_mark_of drives))
    (sum_by-cons (λ (x : Drive). cond {A = ℕ} (is_gate x) 1 0) d drives) (first-waiting drives)
  where
    by_kind : (x : Drive) → count_by is_waiting (first_mark_of x ∷ map first_mark_of drives) ≡ cond {A = ℕ} (is_waiting (first_mark_of x)) 1 0 + count_by is_waiting (map first_mark_of drives)
        → gate_count (x ∷ drives) ≡ cond {A = ℕ} (is_gate x) 1 0 + gate_count drives → count_by is_waiting (map first_mark_of drives) ≡ gate_count drives
        → count_by is_waiting (map first_mark_of (x ∷ drives)) ≡ gate_count (x ∷ drives)
    by_kind input m g ih = omega arith
    by_kind (latch next init) m g ih = omega arith
    by_kind (gate pins cover) m g ih = omega arith

-- the state before the first root
pub first_state : (drives : List Drive) → IsDescending drives (map first_mark_of drives) (replicate (length drives) 0) [] []
first_state drives =
    let at : (s : ℕ) → mark_at (map first_mark_of drives) s ≡ first_mark_of (drive_in drives s) = λ s. first-at drives s (latch s false) refl in
    record {
      marks_sized = length-map drives first_mark_of;
      ranks_sized = length-replicate (length drives) 0;
      gates = λ s h. no_gate-done (drive_in drives s) (λ e. h (at s ∙ e));
      chain = tt;
      opened = λ s h. absurd (never_open (drive_in drives s) (sym (at s) ∙ h));
      all_open = λ s h. absurd (contains-none s h);
      apart = tt;
      passed = tt;
      ranked = λ s h. record {
        pins = λ p i. absurd (done-no_pins (drive_in drives s) (sym (at s) ∙ h) p i);
        rank = zeros (length drives) s ∙ sym (done-no_depth (slice_index (replicate (length drives) 0)) (drive_in drives s) (sym (at s) ∙ h));
      };
      listed = λ s h. absurd (contains-none s h);
      all_listed = λ s g h. absurd (done-no_gate (drive_in drives s) (sym (at s) ∙ h) g);
      once = λ i j d a b. absurd (omega arith);
      after = λ k s p h. absurd (cc);
      bounded = λ s. let z = zeros (length drives) s in omega arith;
      counted = let w = first-waiting drives in omega arith;
    }

map-map : (drivers : List Driver) → map (λ d. first_mark_of (drive_of d)) drivers ≡ map first_mark_of (map drive_of drivers)
map-map [] = refl
map-map (d ∷ drivers) = ap (λ ms. first_mark_of (drive_of d) ∷ ms) (map-map drivers)

-- a new descent is at rest
pub begins : (drivers : List Driver) (d : Descent) → d.marks.items ≡ map (λ x. first_mark_of (drive_of x)) drivers → d.ranks.items ≡ replicate (length drivers) 0
    → d.order.items ≡ [] → d.trail.items ≡ [] → IsAtRest (map drive_of drivers) d
begins drivers d marks ranks order trail = record {
  empty = trail;
  descends =
      let sized = length-map drivers drive_of in
      let ranks' : d.ranks.items ≡ replicate (length (map drive_of drivers)) 0 = ranks ∙ ap (λ n. replicate n 0) (sym sized) in
      rw (marks, map-map, ranks', order) (first_state (map drive_of drivers));
}

-- a visit begins at a root that was fresh and is opened
pub begins_opened : (drives : List Drive) (old now : Descent) (root : ℕ) → IsAtRest drives old → IsFresh old root → Opens old now root → IsVisiting drives old now root
begins_opened drives old now root rest fresh step =
    let waits : mark_at old.marks.items root ≢ Done = λ e. cc in
    let opened = mark-same old.marks.items root Open waits in
    let trail : now.trail.items ≡ record { gate = root; pin = 0 } ∷ [] = step.trail ∙ ap (λ xs. xs ++ record { gate = root; pin = 0 } ∷ []) rest.empty in
    record {
      descends = rw (step.marks, step.ranks, step.order, trail) (opened_keeps drives old.marks.items old.ranks.items old.order.items [] root rest.descends fresh tt);
      fresh = λ s e. fresh-kept old.marks.items root Open waits (λ d. cc) s (rw step.marks at e);
      met = λ e. let e' = rw step.marks at e in cc;
    }

-- a visit begins, and ends at once, at a root that was met
pub begins_met : (drives : List Drive) (old : Descent) (root : ℕ) → IsAtRest drives old → ¬ IsFresh old root → IsVisiting drives old old root
begins_met drives old root rest met = record {
  descends = rw rest.empty rest.descends;
  fresh = λ s e. e;
  met = met;
}

-- the newest frame is taken off the trail
pub popped : (drives : List Drive) (now : Descent) (rest : List Frame) (f : Frame) → Descends drives now (reverse now.trail.items) → now.trail.items ≡ rest ++ f ∷ []
    → Descends drives now (f ∷ reverse rest)
popped drives now rest f h is =
    let turned : reverse now.trail.items ≡ f ∷ reverse rest = ap reverse is ∙ reverse-append rest (f ∷ []) in
    subst (λ t. Descends drives now t) turned h

-- a visit goes on by a turn
pub goes_on : (drives : List Drive) (old now taken new : Descent) (root : ℕ) → IsVisiting drives old now root → taken.marks.items ≡ now.marks.items → Turns drives taken new
    → IsVisiting drives old new root
goes_on drives old now taken new root visit same turn = record {
  descends = turn.descends;
  fresh = λ s e. visit.fresh s (let e' = turn.fresh s e in rw same at e');
  met = λ e. visit.met (let e' = turn.fresh root e in rw same at e');
}

-- a visit ends where the trail is empty
pub ends : (drives : List Drive) (old now new : Descent) (root : ℕ) → IsVisiting drives old now root → now.trail.items ≡ [] → new.trail.items ≡ []
    → new.marks.items ≡ now.marks.items → new.ranks.items ≡ now.ranks.items → new.order.items ≡ now.order.items → Visits drives old new root
ends drives old now new root visit empty is marks ranks order = record {
  rest = record { empty = is; descends = let h : Descends drives now [] = rw empty at visit.descends in rw (marks, ranks, order) h };
  fresh = λ s e. visit.fresh s (rw marks at e);
  met = λ e. visit.met (rw marks at e);
}

-- one root more
pub visited_more : (drives : List Drive) (old new : Descent) (s : ℕ) → HasVisited drives old s → Visits drives old new s → HasVisited drives new (s + 1)
visited_more drives old new s had visit = record {
  rest = visit.rest;
  met = λ t below e. elim (cases_lt t s) [
    | inl before ↦ had.met t before (visit.fresh t e)
    | inr here ↦ let same : t ≡ s = omega arith in visit.met (subst (λ x. IsFresh new x) same e)
  ];
}

-- ranks that are what the depths of the pins give are the depths
pub depth_is : (drives : List Drive) (ranks : ℕ → ℕ) → ((s : ℕ) → ranks s ≡ depth_by ranks (drive_in drives s)) → (n s : ℕ) → ranks s ≤ n → depth_within n drives s ≡ ranks s
depth_is drives ranks h zero s low = omega arith
depth_is drives ranks h (suc n) s low =
    by_drive (λ p below. depth_is drives ranks h n p below) (drive_in drives s) (h s)
  where
    by_drive : ((p : ℕ) → ranks p ≤ n → depth_within n drives p ≡ ranks p) → (d : Drive) → ranks s ≡ depth_by ranks d → depth_by (λ p. depth_within n drives p) d ≡ ranks s
    by_drive ih input e = sym e
    by_drive ih (latch next init) e = sym e
    by_drive ih (gate pins cover) e =
        ap (λ xs. suc (greatest xs)) (map-agree (λ p. depth_within n drives p) ranks pins (λ p i.
        let most = greatest-above (map ranks pins) (ranks p) (contains-map ranks pins p i) in
        ih p (omega (arith, most, e, low)))) ∙ sym e

-- depths rise from each pin to its gate
pub depths_rise : (drives : List Drive) → ((s : ℕ) → depth drives s ≡ depth_by (depth drives) (drive_in drives s)) → IsRanked drives (depth drives)
depths_rise drives h = record { rises = λ s. by_drive s (drive_in drives s) (h s) }
  where
    by_drive : (s : ℕ) (d : Drive) → depth drives s ≡ depth_by (depth drives) d → RisesTo (depth drives) s d
    by_drive s input e = e
    by_drive s (latch next init) e = e
    by_drive s (gate pins cover) e = λ p i. let most = greatest-above (map (depth drives) pins) (depth drives p) (contains-map (depth drives) pins p i) in omega (arith, most, e)

-- where each signal below the end was met, all are done
all_met : (drives : List Drive) (d : Descent) → HasVisited drives d (length drives) → (s : ℕ) → mark_at d.marks.items s ≡ Done
all_met drives d h s = by_mark (mark_at d.marks.items s) refl
  where
    by_mark : (m : Mark) → mark_at d.marks.items s ≡ m → m ≡ Done
    by_mark Fresh e = absurd (h.met s (let within = marked d.marks.items s (λ f. cc) in omega (arith, within, h.rest.descends.marks_sized)) e)
    by_mark Open e = absurd (contains-none s (h.rest.descends.opened s e))
    by_mark Done e = refl

-- what the descent has found at its end
pub found : (drives : List Drive) (d : Descent) (r : Ranking) → HasVisited drives d (length drives) → r.ranks.items ≡ d.ranks.items → r.order.items ≡ d.order.items → IsRanking drives r
unfolding depth
found drives d r h ranks order =
    let state = h.rest.descends in
    let done = all_met drives d h in
    let listed : length d.order.items ≤ gate_count drives = omega (arith, state.counted) in
    let few : gate_count drives ≤ length drives = count_by-le-length is_gate drives in
    let is : (s : ℕ) → depth drives s ≡ slice_index d.ranks.items s = λ s.
    depth_is drives (slice_index d.ranks.items) (λ t. (state.ranked t (done t)).rank) (length drives) s (omega (arith, state.bounded s, listed, few)) in
    let deepens : (s : ℕ) → depth drives s ≡ depth_by (depth drives) (drive_in drives s) = λ s.
    is s ∙ (state.ranked s (done s)).rank ∙ depth_by-agree (slice_index d.ranks.items) (depth drives) (drive_in drives s) (λ p i. sym (is p)) in
    record {
      order = rw order (record {
        gates = λ s. (λ e. (state.listed s e).0, λ g. state.all_listed s g (done s));
        once = state.once;
        after = state.after;
      });
      sized = ap length ranks ∙ state.ranks_sized;
      ranks = λ s. ap (λ rs. slice_index rs s) ranks ∙ sym (is s);
      deepens = deepens;
      rises = depths_rise drives deepens;
      bounded = λ s. omega (arith, is s, state.bounded s, listed);
    }
