-- A sweep over the gates, each before the gates among its pins: what one gate more changes.
use Rattle.std.proofs.Common.{◌≡◌, ◌≢◌, ℕ, suc, ◌+◌, ◌<◌, ◌≤◌, ◌⊎◌, inl, inr, List, [], ◌∷◌, ◌++◌, length, set, get_or, take, drop, refl, sym, ◌∙◌, ap, subst, arith}
use Rattle.std.specs.Prelude.{Contains, AllPairs}
use Rattle.std.proofs.lemmas.Bool.{cases_lt, cases_eq}
use Rattle.std.proofs.lemmas.List.{get_or_past, get_or-set_same, get_or-set_other, length-set, length-drop, take_more, drop_more, get_or-take, get_or-drop, length-take-le}
use Rattle.std.proofs.lemmas.List.Elements.{Contains-push, Contains-push_cases, Contains-append_left}
use Rattle.std.proofs.lemmas.Option.{slice_get_read}
use Rattle.tm_circuit.specs.Plain.{Plain, drive_in, pins_of, gate_count}
use Rattle.tm_circuit.specs.Chain.{IsPin, IsOrder, rank}
use Rattle.tm_circuit.specs.Sound.{IsSound}
use Rattle.tm_circuit.proofs.ListLemmas.{contains-first, contains-rest, contains-cases}
use Rattle.tm_circuit.proofs.PeriodLemmas.{rises_pin}
use Rattle.tm_report.specs.declared.onward.Onward.{Onward}
use Rattle.tm_report.specs.Onward.{onward_at, behind, IsBetter, OffersAll, IsBest, IsSwept}
use Rattle.tm_report.proofs.Ways.{gate_inside}

-- to offer the same twice is to offer it once
better_again : (held step taken again : Onward) → IsBetter held step taken → IsBetter taken step again → IsBetter held step again
better_again held step taken again (inl x) (inl y) = inl (y.0, x.1)
better_again held step taken again (inl x) (inr y) = inl (y.0 ∙ x.0, x.1)
better_again held step taken again (inr x) second = subst (λ o. IsBetter o step again) x.0 second

-- what is taken is no shorter than either
better_long : (held step taken : Onward) → IsBetter held step taken → (held.gates ≤ taken.gates) × (step.gates ≤ taken.gates)
better_long held step taken (inl x) =
    let same : taken.gates ≡ step.gates = ap (λ o. o.gates) x.0 in
    elim (x.1) [ inl more ↦ (omega (arith, same, more), omega (arith, same)) | inr tie ↦ (omega (arith, same, tie.0), omega (arith, same)) ]
better_long held step taken (inr x) =
    let same : taken.gates ≡ held.gates = ap (λ o. o.gates) x.0 in
    elim (x.1) [ inl more ↦ (omega (arith, same), omega (arith, same, more)) | inr tie ↦ (omega (arith, same), omega (arith, same, tie.0)) ]

-- what is taken is as long as one of them
better_one : (held step taken : Onward) → IsBetter held step taken → (taken.gates ≡ held.gates) ⊎ (taken.gates ≡ step.gates)
better_one held step taken (inl x) = inr (ap (λ o. o.gates) x.0)
better_one held step taken (inr x) = inl (ap (λ o. o.gates) x.0)

-- one signal more was offered the step
pub offers_more : (old now : List Onward) (signals : List ℕ) (i s : ℕ) (step taken : Onward) → OffersAll old now (take i signals) step → i < length signals
    → s ≡ get_or signals i s → s < length now → IsBetter (onward_at now s) step taken → OffersAll old (set now s taken) (take (i + 1) signals) step
offers_more old now signals i s step taken h within is below better =
    let nothing : Onward = record { gates = 0; next = 0 } in
    let more : take (i + 1) signals ≡ take i signals ++ s ∷ [] = take_more signals i s within ∙ ap (λ x. take i signals ++ x ∷ []) (sym is) in
    let here : onward_at (set now s taken) s ≡ taken = get_or-set_same now s taken nothing below in
    let other : (t : ℕ) → t ≢ s → onward_at (set now s taken) t ≡ onward_at now t = λ t e. get_or-set_other now s t taken nothing e in
    let inside : s < length old = omega (arith, h.sized, below) in
    let taken_here : IsBetter (onward_at old s) step taken = elim (h.each s inside) [
      | inl offered ↦ better_again (onward_at old s) step (onward_at now s) taken offered.1 better
      | inr stays ↦ subst (λ o. IsBetter o step taken) stays.1 better
    ] in
    let written : IsBetter (onward_at old s) step (onward_at (set now s taken) s) = subst (λ o. IsBetter (onward_at old s) step o) (sym here) taken_here in
    record {
      sized = length-set now s taken ∙ h.sized;
      each = λ t in_old. elim (cases_eq t s) [
        | inl same ↦
            inl (
              rw more (subst (λ x. Contains (take i signals ++ s ∷ []) x) (sym same) (Contains-push (take i signals) s)),
              subst (λ x. IsBetter (onward_at old x) step (onward_at (set now s taken) x)) (sym same) written,
            )
        | inr differ ↦ elim (h.each t in_old) [
          | inl offered ↦ inl (rw more (Contains-append_left (take i signals) (s ∷ []) t offered.0), subst (λ o. IsBetter (onward_at old t) step o) (sym (other t differ)) offered.1)
          | inr stays ↦
              inr (
                λ has. elim (Contains-push_cases (take i signals) s t (rw more at has)) [ inl before ↦ stays.0 before | inr same ↦ differ (sym same) ],
                other t differ ∙ stays.1,
              )
        ]
      ];
    }

-- the same readers, told in another way
best_reads : (onward : List Onward) (R S : ℕ → Type 0) (best : Onward) → ((r : ℕ) → R r → S r) → ((r : ℕ) → S r → R r) → IsBest onward R best → IsBest onward S best
best_reads onward R S best to back h = record {
  above = λ r reads. h.above r (back r reads);
  reached = elim (h.reached) [ inl none ↦ inl none | inr reader ↦ inr (to best.next reader.0, reader.1) ];
  least = λ r reads long. h.least r (back r reads) long;
}

-- what is behind the readers stays
best_kept : (old new : List Onward) (R : ℕ → Type 0) (best : Onward) → ((r : ℕ) → R r → behind new r ≡ behind old r) → IsBest old R best → IsBest new R best
best_kept old new R best kept h = record {
  above = λ r reads. omega (arith, h.above r reads, kept r reads);
  reached = elim (h.reached) [ inl none ↦ inl none | inr reader ↦ inr (reader.0, omega (arith, reader.1, kept best.next reader.0)) ];
  least = λ r reads long. h.least r reads (omega (arith, long, kept r reads));
}

-- one reader more, from which the step comes
module _ (onward : List Onward) (R : ℕ → Type 0) (held step taken : Onward) (h : IsBest onward R held) (long : step.gates ≡ suc (behind onward step.next)) where
  best_more : IsBetter held step taken → IsBest onward (λ r. R r ⊎ (step.next ≡ r)) taken
  best_more better = record {
    above = λ r reads. elim reads [
      | inl before ↦ omega (arith, h.above r before, better_long held step taken better)
      | inr same ↦ omega (arith, ap (λ x. behind onward x) same, long, better_long held step taken better)
    ];
    reached = by_better better;
    least = λ r reads as_long. least_by better r reads as_long;
  }
    where
      by_better : IsBetter held step taken → (taken.gates ≡ 0) ⊎ ((R taken.next ⊎ (step.next ≡ taken.next)) × (suc (behind onward taken.next) ≡ taken.gates))
      by_better (inl x) =
          subst (λ o. (o.gates ≡ 0) ⊎ ((R o.next ⊎ (step.next ≡ o.next)) × (suc (behind onward o.next) ≡ o.gates))) (sym x.0) (inr (inr refl, sym long))
      by_better (inr x) =
          subst (λ o. (o.gates ≡ 0) ⊎ ((R o.next ⊎ (step.next ≡ o.next)) × (suc (behind onward o.next) ≡ o.gates))) (sym x.0)
          (elim (h.reached) [ inl none ↦ inl none | inr reader ↦ inr (inl reader.0, reader.1) ])

      least_by : IsBetter held step taken → (r : ℕ) → R r ⊎ (step.next ≡ r) → suc (behind onward r) ≡ taken.gates → taken.next ≤ r
      least_by (inl x) r (inl before) as_long =
          let gates : taken.gates ≡ step.gates = ap (λ o. o.gates) x.0 in
          let next : taken.next ≡ step.next = ap (λ o. o.next) x.0 in
          elim (x.1) [
            | inl more ↦ absurd (omega (arith, h.above r before, as_long, gates, more))
            | inr tie ↦ omega (arith, h.least r before (omega (arith, as_long, gates, tie.0)), next, tie.1)
          ]
      least_by (inl x) r (inr same) as_long = omega (arith, ap (λ o. o.next) x.0, same)
      least_by (inr x) r (inl before) as_long =
          omega (arith, h.least r before (omega (arith, as_long, ap (λ o. o.gates) x.0)), ap (λ o. o.next) x.0)
      least_by (inr x) r (inr same) as_long =
          let gates : taken.gates ≡ held.gates = ap (λ o. o.gates) x.0 in
          let next : taken.next ≡ held.next = ap (λ o. o.next) x.0 in
          let from : suc (behind onward r) ≡ step.gates = omega (arith, ap (λ y. behind onward y) same, long) in
          elim (x.1) [
            | inl more ↦ absurd (omega (arith, as_long, gates, from, more))
            | inr tie ↦ omega (arith, tie.1, next, same)
          ]

-- what stands in the first part of a list without repeats doesn't stand in the rest
parts_apart : (xs : List ℕ) (k x : ℕ) → AllPairs (λ a b. a ≢ b) xs → k ≤ length xs → Contains (take k xs) x → Contains (drop k xs) x → ⊥
parts_apart xs k x once within early late =
    let e = early.0 in
    let l = late.0 in
    let e_low : e < k = omega (arith, early.1, length-take-le k xs within) in
    let l_low : k + l < length xs = omega (arith, late.1, length-drop k xs) in
    let e_is : get_or xs e x ≡ x = sym (get_or-take k xs e x e_low) ∙ early.2 in
    let l_is : get_or xs (k + l) x ≡ x = sym (get_or-drop k xs l x) ∙ late.2 in
    once e (k + l) x (omega (arith, e_low)) l_low (e_is ∙ sym l_is)

-- what stands in the rest of a list stands in the list
contains_drop : (xs : List ℕ) (k x : ℕ) → Contains (drop k xs) x → Contains xs x
contains_drop xs k x late =
    (k + late.0, omega (arith, late.1, length-drop k xs), sym (get_or-drop k xs late.0 x) ∙ late.2)

-- one gate more
module _ (c : Plain) (order : List ℕ) (k g : ℕ) (old new : List Onward) (step : Onward) (sound : IsSound c) (ordered : IsOrder c.drives order)
    (within : k < length order) (is : g ≡ get_or order k g) (h : IsSwept c (drop (k + 1) order) old)
    (long : step.gates ≡ behind old g + 1) (next : step.next ≡ g) (offers : OffersAll old new (pins_of (drive_in c.drives g)) step) where
  looked : drop k order ≡ g ∷ drop (k + 1) order
  looked = drop_more order k g within ∙ ap (λ x. x ∷ drop (k + 1) order) (sym is)

  -- what was looked at is no pin of the gate
  no_pin : (r : ℕ) → Contains (g ∷ drop (k + 1) order) r → ¬ IsPin c.drives r g
  no_pin r has pin =
      let late : Contains (drop k order) r = subst (λ xs. Contains xs r) (sym looked) has in
      let is_gate_r = (ordered.gates r).0 (contains_drop order k r late) in
      let early = ordered.after k g r (slice_get_read order (length order) k g refl within is) pin is_gate_r in
      parts_apart order k r ordered.once (omega (arith, within)) early late

  kept : (r : ℕ) → Contains (g ∷ drop (k + 1) order) r → behind new r ≡ behind old r
  kept r has =
      let late : Contains (drop k order) r = subst (λ xs. Contains xs r) (sym looked) has in
      let inside = gate_inside c.drives r ((ordered.gates r).0 (contains_drop order k r late)) in
      elim (offers.each r (omega (arith, inside, h.sized))) [
        | inl offered ↦ absurd (no_pin r has offered.0)
        | inr stays ↦ ap (λ o. o.gates) stays.1
      ]

  step_long : step.gates ≡ suc (behind new step.next)
  step_long = omega (arith, long, ap (λ x. behind new x) next, kept g (contains-first g (drop (k + 1) order)))

  best_now : (s : ℕ) → s < length c.drives → IsBest new (λ r. Contains (g ∷ drop (k + 1) order) r × IsPin c.drives s r) (onward_at new s)
  best_now s inside =
      let later : ℕ → Type 0 = λ r. Contains (drop (k + 1) order) r × IsPin c.drives s r in
      let all : ℕ → Type 0 = λ r. Contains (g ∷ drop (k + 1) order) r × IsPin c.drives s r in
      let before : IsBest new later (onward_at old s) = best_kept old new later (onward_at old s) (λ r reads. kept r (contains-rest g (drop (k + 1) order) r reads.0)) (h.best s inside) in
      elim (offers.each s (omega (arith, inside, h.sized))) [
        | inl offered ↦
            let pin : IsPin c.drives s step.next = subst (λ x. IsPin c.drives s x) (sym next) offered.0 in
            let first : Contains (g ∷ drop (k + 1) order) step.next = subst (λ x. Contains (g ∷ drop (k + 1) order) x) (sym next) (contains-first g (drop (k + 1) order)) in
            let to : (r : ℕ) → later r ⊎ (step.next ≡ r) → all r = λ r reads. elim reads [
              | inl late ↦ (contains-rest g (drop (k + 1) order) r late.0, late.1)
              | inr same ↦ subst (λ x. all x) same (first, pin)
            ] in
            let back : (r : ℕ) → all r → later r ⊎ (step.next ≡ r) = λ r reads. elim (contains-cases g (drop (k + 1) order) r reads.0) [
              | inl same ↦ inr (next ∙ same)
              | inr late ↦ inl (late, reads.1)
            ] in
            best_reads new (λ r. later r ⊎ (step.next ≡ r)) all (onward_at new s) to back (best_more new later (onward_at old s) step (onward_at new s) before step_long offered.1)
        | inr stays ↦
            let back : (r : ℕ) → all r → later r = λ r reads. elim (contains-cases g (drop (k + 1) order) r reads.0) [
              | inl same ↦ absurd (stays.0 (subst (λ x. IsPin c.drives s x) (sym same) reads.1))
              | inr late ↦ (late, reads.1)
            ] in
            subst (λ o. IsBest new all o) (sym stays.1) (best_reads new later all (onward_at old s) (λ r reads. (contains-rest g (drop (k + 1) order) r reads.0, reads.1)) back before)
      ]

  bounded_now : (s : ℕ) → behind new s + rank c s ≤ gate_count c.drives
  bounded_now s =
      elim (cases_lt s (length c.drives)) [
        | inl inside ↦ elim (offers.each s (omega (arith, inside, h.sized))) [
          | inl offered ↦
              let up = rises_pin c.drives (rank c) sound.ranked s g offered.0 in
              elim (better_one (onward_at old s) step (onward_at new s) offered.1) [
                | inl same ↦ omega (arith, same, h.bounded s)
                | inr same ↦ omega (arith, same, long, up, h.bounded g)
              ]
          | inr stays ↦ omega (arith, ap (λ o. o.gates) stays.1, h.bounded s)
        ]
        | inr past ↦
            let nothing : onward_at new s ≡ record { gates = 0; next = 0 } = get_or_past new s (record { gates = 0; next = 0 }) (omega (arith, past, offers.sized, h.sized)) in
            omega (arith, ap (λ o. o.gates) nothing, sound.bounded s)
      ]

  pub swept_more : IsSwept c (drop k order) new
  swept_more = subst (λ xs. IsSwept c xs new) (sym looked) (record { sized = offers.sized ∙ h.sized; best = best_now; bounded = bounded_now })
