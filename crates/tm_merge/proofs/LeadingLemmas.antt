-- How signals are marked, one after another.
use Rattle.std.proofs.Common.{◌≡◌, ◌≢◌, ℕ, ◌+◌, ◌<◌, ◌≤◌, inl, inr, Bool, true, false, List, [], ◌∷◌, ◌++◌, length, get_or, take, set, Some, refl, sym, ◌∙◌, ap, subst, arith, append_assoc, append-nil}
use Rattle.std.specs.Prelude.{Contains, slice_get}
use Rattle.std.proofs.lemmas.Bool.{cases_lt, cases_eq, false≢true}
use Rattle.std.proofs.lemmas.List.{take_more, get_or_past, get_or-set_same, get_or-set_other, length-set}
use Rattle.std.proofs.lemmas.List.Elements.{Contains-push_cases, Contains-append_left, Contains-append_right}
use Rattle.tm_circuit.specs.Plain.{Plain, drive, pins_of}
use Rattle.tm_circuit.specs.Source.{IsSource}
use Rattle.tm_circuit.specs.declared.sources.Source.{Source}
use Rattle.tm_circuit.specs.declared.sources.Source.TheVariants.{Gate}
use Rattle.tm_circuit.proofs.ListLemmas.{contains-first, contains-cases, contains-none}
use Rattle.tm_circuit.proofs.LayoutLemmas.{get-append-cases}
use Rattle.tm_circuit.proofs.OneSource.{one_source}
use Rattle.tm_unroll.proofs.ListLemmas.{AreApart, few_below, at-within, place-of}
use Rattle.tm_merge.specs.declared.outputs.Marking.{Marking}
use Rattle.tm_merge.specs.Leading.{is_marked, AreMarked, HasMarkedSource, IsMarking, MarksMore, Marks, MarksSources}

only_one : (x y : ℕ) → Contains (x ∷ []) y → x ≡ y
only_one x y stands = elim (contains-cases x [] y stands) [ inl is ↦ is | inr none ↦ absurd (contains-none y none) ]

-- What is marked is one of the signals.
pub marked_below : (marks : List Bool) (s : ℕ) → is_marked marks s ≡ true → s < length marks
marked_below marks s is = elim (cases_lt s (length marks)) [ inl below ↦ below | inr past ↦ absurd (false≢true (sym (get_or_past marks s false past) ∙ is)) ]

-- A mark that is read as none is none.
pub free_at : (marks : List Bool) (i s : ℕ) (b : Bool) → i ≡ s → b ≡ get_or marks i b → b ≡ false → is_marked marks s ≡ false
free_at marks i s b at is none = sym (is ∙ ap (λ v. get_or marks i v) none ∙ ap (λ j. get_or marks j false) at) ∙ none

-- No more was found than there are signals.
pub few_found : (m : Marking) → IsMarking m → length m.found.items ≤ length m.marks.items
few_found m marking = few_below m.found.items (length m.marks.items) marking.once (λ s stands. marked_below m.marks.items s (marking.marked s stands))

-- One item more that is not there keeps the items apart.
apart_push : (xs : List ℕ) (x : ℕ) → AreApart xs → ¬ Contains xs x → AreApart (xs ++ x ∷ [])
apart_push [] x apart never = (contains-none x, tt)
apart_push (y ∷ xs) x apart never = (
  λ stands. elim (Contains-push_cases xs x y stands) [ inl earlier ↦ apart.0 earlier | inr is ↦ never (subst (λ v. Contains (y ∷ xs) v) (sym is) (contains-first y xs)) ],
  apart_push xs x apart.1 (λ stands. never (later stands)),
)
  where
    later : Contains xs x → Contains (y ∷ xs) x
    later stands = Contains-append_right (y ∷ []) xs x stands

-- ---- one signal

pub stays : (m : Marking) → IsMarking m → MarksMore m m
stays m marking = record { marking = marking; sized = refl; stay = λ s h. h; finds = ([], sym (append-nil m.found.items)) }

pub mark_again : (s : ℕ) (m : Marking) → IsMarking m → is_marked m.marks.items s ≡ true → Marks s m m
mark_again s m marking is = record { more = stays m marking; here = is }

pub mark_new : (s : ℕ) (old new : Marking) → IsMarking old → s < length old.marks.items → is_marked old.marks.items s ≡ false
    → new.marks.items ≡ set old.marks.items s true → new.found.items ≡ old.found.items ++ s ∷ [] → Marks s old new
mark_new s old new marking inside free marks found = record {
  more = record {
    marking = record {
      once = subst (λ (l : List ℕ). AreApart l) (sym found) (apart_push old.found.items s marking.once (λ stands. false≢true (sym free ∙ marking.marked s stands)));
      marked = λ t stands. elim (Contains-push_cases old.found.items s t (subst (λ (l : List ℕ). Contains l t) found stands)) [
        | inl earlier ↦ stay t (marking.marked t earlier)
        | inr is ↦ subst (λ v. is_marked new.marks.items v ≡ true) is here
      ];
      all = λ t is. elim (cases_eq s t) [
        | inl same ↦ subst (λ (l : List ℕ). Contains l t) (sym found) (Contains-append_right old.found.items (s ∷ []) t (subst (λ v. Contains (s ∷ []) v) same (contains-first s [])))
        | inr differs ↦
            let other : t ≢ s = λ e. differs (sym e) in
            subst (λ (l : List ℕ). Contains l t) (sym found)
            (Contains-append_left old.found.items (s ∷ []) t (marking.all t (sym (get_or-set_other old.marks.items s t true false other) ∙ sym (ap (λ l. get_or l t false) marks) ∙ is)))
      ];
    };
    sized = ap (λ (l : List Bool). length l) marks ∙ length-set old.marks.items s true;
    stay = stay;
    finds = (s ∷ [], found);
  };
  here = here;
}
  where
    here : is_marked new.marks.items s ≡ true
    here = ap (λ (l : List Bool). get_or l s false) marks ∙ get_or-set_same old.marks.items s true false inside

    stay : (t : ℕ) → is_marked old.marks.items t ≡ true → is_marked new.marks.items t ≡ true
    stay t is =
        elim (cases_eq s t) [
          | inl same ↦ subst (λ v. is_marked new.marks.items v ≡ true) same here
          | inr differs ↦
              let other : t ≢ s = λ e. differs (sym e) in
              ap (λ (l : List Bool). get_or l t false) marks ∙ get_or-set_other old.marks.items s t true false other ∙ is
        ]

-- ---- sources

pub source_marked : (c : Plain) (s g : ℕ) (old new : Marking) → IsSource c.drives s (Gate g) → Marks g old new → MarksSources c (s ∷ []) old new
source_marked c s g old new is marks = record {
  more = marks.more;
  sources = λ t stands h source.
      let same : Gate g ≡ Gate h = one_source c.drives s (Gate g) (Gate h) is (subst (λ v. IsSource c.drives v (Gate h)) (sym (only_one s t stands)) source) in
      let gate : g ≡ h = cc in
      subst (λ v. is_marked new.marks.items v ≡ true) gate marks.here;
}

pub source_free : (c : Plain) (s : ℕ) (e : Source) (m : Marking) → IsMarking m → IsSource c.drives s e → ((g : ℕ) → e ≡ Gate g → ⊥) → MarksSources c (s ∷ []) m m
source_free c s e m marking is never = record {
  more = stays m marking;
  sources = λ t stands h source. absurd (never h (one_source c.drives s e (Gate h) is (subst (λ v. IsSource c.drives v (Gate h)) (sym (only_one s t stands)) source)));
}

pub sources_none : (c : Plain) (signals : List ℕ) (m : Marking) → signals ≡ [] → IsMarking m → MarksSources c signals m m
sources_none c signals m none marking = record {
  more = stays m marking;
  sources = λ t stands. absurd (contains-none t (subst (λ (l : List ℕ). Contains l t) none stands));
}

more_through : (old now new : Marking) → MarksMore old now → MarksMore now new → MarksMore old new
more_through old now new first second = record {
  marking = second.marking;
  sized = second.sized ∙ first.sized;
  stay = λ s is. second.stay s (first.stay s is);
  finds = (first.finds.0 ++ second.finds.0, second.finds.1 ∙ ap (λ (l : List ℕ). l ++ second.finds.0) first.finds.1 ∙ append_assoc old.found.items first.finds.0 second.finds.0);
}

-- The source of one signal of a list more.
pub sources_next : (c : Plain) (signals : List ℕ) (i s : ℕ) (old now new : Marking) → i < length signals → s ≡ get_or signals i s
    → MarksSources c (take i signals) old now → MarksSources c (s ∷ []) now new → MarksSources c (take (i + 1) signals) old new
sources_next c signals i s old now new inside is before one = record {
  more = more_through old now new before.more one.more;
  sources = λ t stands.
      elim (Contains-push_cases (take i signals) s t (subst (λ (l : List ℕ). Contains l t) more stands)) [
        | inl earlier ↦ λ g source. one.more.stay g (before.sources t earlier g source)
        | inr same ↦ one.sources t (subst (λ v. Contains (s ∷ []) v) same (contains-first s []))
      ];
}
  where
    more : take (i + 1) signals ≡ take i signals ++ s ∷ []
    more = take_more signals i s inside ∙ ap (λ v. take i signals ++ v ∷ []) (sym is)

-- ---- all gates

-- The sources of the outputs are marked, and of the pins of the finds before a place.
pub record IsLeading (c : Plain) (place : ℕ) (m : Marking) : Type 0 where
  pub marking : IsMarking m
  pub sized : length m.marks.items ≡ length c.drives
  pub outputs : (o : ℕ) → Contains c.outputs o → HasMarkedSource c m o
  pub done : (q g p : ℕ) → q < place → slice_get m.found.items q ≡ Some g → Contains (pins_of (drive c g)) p → HasMarkedSource c m p

pub leading_first : (c : Plain) (outputs : List ℕ) (old new : Marking) → outputs ≡ c.outputs → length old.marks.items ≡ length c.drives → MarksSources c outputs old new
    → IsLeading c 0 new
leading_first c outputs old new same sized marks = record {
  marking = marks.more.marking;
  sized = marks.more.sized ∙ sized;
  outputs = λ o stands. marks.sources o (subst (λ (l : List ℕ). Contains l o) (sym same) stands);
  done = λ q g p early. absurd (omega arith);
}

pub leading_next : (c : Plain) (place g : ℕ) (pins : List ℕ) (old new : Marking) → IsLeading c place old → slice_get old.found.items place ≡ Some g
    → pins ≡ pins_of (drive c g) → MarksSources c pins old new → IsLeading c (place + 1) new
leading_next c place g pins old new before at same marks = record {
  marking = marks.more.marking;
  sized = marks.more.sized ∙ before.sized;
  outputs = λ o stands h source. marks.more.stay h (before.outputs o stands h source);
  done = λ q h p early found. by_place q h p early (older q h early found);
}
  where
    older : (q h : ℕ) → q < place + 1 → slice_get new.found.items q ≡ Some h → slice_get old.found.items q ≡ Some h
    older q h early found =
        let inside = at-within old.found.items place g at in
        elim (get-append-cases old.found.items marks.more.finds.0 q h (sym (ap (λ (l : List ℕ). slice_get l q) marks.more.finds.1) ∙ found)) [
          | inl here ↦ here
          | inr there ↦ let far = there.1 in absurd (omega (arith, inside, far, early))
        ]

    by_place : (q h p : ℕ) → q < place + 1 → slice_get old.found.items q ≡ Some h → Contains (pins_of (drive c h)) p → HasMarkedSource c new p
    by_place q h p early found stands =
        elim (cases_lt q place) [
          | inl before_it ↦ λ e source. marks.more.stay e (before.done q h p before_it found stands e source)
          | inr late ↦
              let is : q ≡ place = omega arith in
              let here : slice_get old.found.items place ≡ Some h = subst (λ v. slice_get old.found.items v ≡ Some h) is found in
              let gate : g ≡ h = cc in
              marks.sources p (subst (λ (l : List ℕ). Contains l p) (sym same) (subst (λ v. Contains (pins_of (drive c v)) p) (sym gate) stands))
        ]

pub leading_all : (c : Plain) (place : ℕ) (m : Marking) → IsLeading c place m → length m.found.items ≤ place → AreMarked c m.marks.items
leading_all c place m leads past = record {
  sized = leads.sized;
  outputs = λ o g stands source. leads.outputs o stands g source;
  pins = λ g p h marked stands source.
      let found = place-of m.found.items g (leads.marking.all g marked) in
      let inside = at-within m.found.items found.0 g found.1 in
      leads.done found.0 g p (omega (arith, inside, past)) found.1 stands h source;
}
