-- How a descent begins, goes from root to root, and what it has found at its end.
use Rattle.std.proofs.Common.{◌≡◌, ◌≢◌, ℕ, zero, suc, ◌+◌, ◌<◌, inl, inr, List, [], ◌∷◌, ◌++◌, length, replicate, reverse, refl, ◌∙◌, ap, subst, arith}
use Rattle.std.proofs.lemmas.Bool.{cases_lt}
use Rattle.std.proofs.lemmas.List.{length-replicate, reverse-append}
use Rattle.tm_circuit.proofs.ListLemmas.{contains-none}
use Rattle.blif_flat.specs.declared.order.Descent.{Descent}
use Rattle.blif_flat.specs.declared.order.Frame.{Frame}
use Rattle.blif_flat.specs.declared.order.Mark.{Mark}
use Rattle.blif_flat.specs.declared.order.Mark.TheVariants.{Fresh, Open, Done}
use Rattle.blif_flat.specs.Graph.{IsOrder}
use Rattle.blif_flat.specs.Descent.{mark_at, Descends, IsAtRest, IsFresh, Opens, Turns, Visits}
use Rattle.blif_flat.proofs.DescentLemmas.{IsVisiting, HasVisited, opened_keeps, fresh-kept, mark-same, marked}

-- all first marks are fresh, and there is none past the end
first-at : (n s : ℕ) → mark_at (replicate n Fresh) s ≢ Open
first-at zero s h = cc
first-at (suc n) zero h = cc
first-at (suc n) (suc s) h = first-at n s h

first-within : (n s : ℕ) → s < n → mark_at (replicate n Fresh) s ≡ Fresh
first-within zero s h = absurd (omega arith)
first-within (suc n) zero h = refl
first-within (suc n) (suc s) h = first-within n s (omega arith)

-- a new descent is at rest
pub begins : (graph : List (List ℕ)) (d : Descent) → d.marks.items ≡ replicate (length graph) Fresh → d.order.items ≡ [] → d.trail.items ≡ [] → IsAtRest graph d
begins graph d marks order trail = record {
  empty = trail;
  descends = rw (marks, order) (record {
    sized = length-replicate (length graph) Fresh;
    chain = tt;
    opened = λ m h. absurd (first-at (length graph) m h);
    all_open = λ m h. absurd (contains-none m h);
    apart = tt;
    passed = tt;
    listed = λ m h. absurd (contains-none m h);
    all_listed = λ m g h. absurd (let is = first-within (length graph) m g in cc);
    after = λ k m p h. absurd (cc);
  });
}

-- a visit begins at a root that was fresh and is opened
pub begins_opened : (graph : List (List ℕ)) (old now : Descent) (root : ℕ) → IsAtRest graph old → IsFresh old root → Opens old now root → IsVisiting graph old now root
begins_opened graph old now root rest fresh step =
    let waits : mark_at old.marks.items root ≢ Done = λ e. cc in
    let opened = mark-same old.marks.items root Open waits in
    let trail : now.trail.items ≡ record { model = root; place = 0 } ∷ [] = step.trail ∙ ap (λ xs. xs ++ record { model = root; place = 0 } ∷ []) rest.empty in
    record {
      descends = rw (step.marks, step.order, trail) (opened_keeps graph old.marks.items old.order.items [] root rest.descends fresh tt);
      fresh = λ s e. fresh-kept old.marks.items root Open waits (λ d. cc) s (rw step.marks at e);
      met = λ e. let e' = rw step.marks at e in cc;
    }

-- a visit begins, and ends at once, at a root that was met
pub begins_met : (graph : List (List ℕ)) (old : Descent) (root : ℕ) → IsAtRest graph old → ¬ IsFresh old root → IsVisiting graph old old root
begins_met graph old root rest met = record {
  descends = rw rest.empty rest.descends;
  fresh = λ s e. e;
  met = met;
}

-- the newest frame is taken off the trail
pub popped : (graph : List (List ℕ)) (now : Descent) (rest : List Frame) (f : Frame) → Descends graph now (reverse now.trail.items) → now.trail.items ≡ rest ++ f ∷ []
    → Descends graph now (f ∷ reverse rest)
popped graph now rest f h is =
    let turned : reverse now.trail.items ≡ f ∷ reverse rest = ap reverse is ∙ reverse-append rest (f ∷ []) in
    subst (λ t. Descends graph now t) turned h

-- a visit goes on by a turn
pub goes_on : (graph : List (List ℕ)) (old now taken new : Descent) (root : ℕ) → IsVisiting graph old now root → taken.marks.items ≡ now.marks.items → Turns graph taken new
    → IsVisiting graph old new root
goes_on graph old now taken new root visit same turn = record {
  descends = turn.descends;
  fresh = λ s e. visit.fresh s (let e' = turn.fresh s e in rw same at e');
  met = λ e. visit.met (let e' = turn.fresh root e in rw same at e');
}

-- a visit ends where the trail is empty
pub ends : (graph : List (List ℕ)) (old now new : Descent) (root : ℕ) → IsVisiting graph old now root → now.trail.items ≡ [] → new.trail.items ≡ []
    → new.marks.items ≡ now.marks.items → new.order.items ≡ now.order.items → Visits graph old new root
ends graph old now new root visit empty is marks order = record {
  rest = record { empty = is; descends = let h : Descends graph now [] = rw empty at visit.descends in rw (marks, order) h };
  fresh = λ s e. visit.fresh s (rw marks at e);
  met = λ e. visit.met (rw marks at e);
}

-- one root more
pub visited_more : (graph : List (List ℕ)) (old new : Descent) (s : ℕ) → HasVisited graph old s → Visits graph old new s → HasVisited graph new (s + 1)
visited_more graph old new s had visit = record {
  rest = visit.rest;
  met = λ t below e. elim (cases_lt t s) [
    | inl before ↦ had.met t before (visit.fresh t e)
    | inr here ↦ let same : t ≡ s = omega arith in visit.met (subst (λ x. IsFresh new x) same e)
  ];
}

-- where each model below the end was met, all are done
all_met : (graph : List (List ℕ)) (d : Descent) → HasVisited graph d (length graph) → (s : ℕ) → mark_at d.marks.items s ≡ Done
all_met graph d h s = by_mark (mark_at d.marks.items s) refl
  where
    by_mark : (m : Mark) → mark_at d.marks.items s ≡ m → m ≡ Done
    by_mark Fresh e = absurd (h.met s (let within = marked d.marks.items s (λ f. cc) in omega (arith, within, h.rest.descends.sized)) e)
    by_mark Open e = absurd (contains-none s (h.rest.descends.opened s e))
    by_mark Done e = refl

-- what the descent has found at its end
pub found : (graph : List (List ℕ)) (d : Descent) → HasVisited graph d (length graph) → IsOrder graph d.order.items
found graph d h =
    let state = h.rest.descends in
    let done = all_met graph d h in
    record {
      all = λ m below. state.all_listed m below (done m);
      models = λ m is. (state.listed m is).0;
      after = state.after;
    }
