-- As many steps back as there are signals lead to the source: a way back that stays among latches for so long has come to some
-- latch twice, and goes round for ever.
use Rattle.std.proofs.Common.{◌≡◌, ℕ, zero, suc, ◌+◌, ◌-◌, ◌<◌, ◌≤◌, inl, inr, true, false, List, [], ◌∷◌, length, refl, sym, ◌∙◌, ap, subst, arith, zero-add, suc-add}
use Rattle.std.specs.Prelude.{Contains}
use Rattle.std.proofs.lemmas.Bool.{cases_lt, cases_Bool, both_ways}
use Rattle.std.proofs.lemmas.List.{get_or_past}
use Rattle.tm_circuit.specs.Plain.{Plain, Drive, input, latch, gate, drive_in, is_input, is_latch, is_gate}
use Rattle.tm_circuit.specs.Source.{step_back, back, IsSource}
use Rattle.tm_circuit.specs.Sound.{IsSound, ReadsBelow}
use Rattle.tm_circuit.proofs.ListLemmas.{contains-cases, contains-none}
use Rattle.tm_circuit.proofs.SourceLemmas.{step-within}
use Rattle.tm_circuit.proofs.OneSource.{one_source}
use Rattle.tm_circuit.specs.declared.sources.Source.{Source}
use Rattle.tm_unroll.proofs.ListLemmas.{AreApart, few_below}
use Rattle.tm_circuit.specs.Follow.{first_source_of}
use Rattle.tm_replay.specs.Served.{source_of}

-- The signal is a latch.
abbrev IsLatch : List Drive → ℕ → Type 0
IsLatch drives s = is_latch (drive_in drives s) ≡ true

module _ (drives : List Drive) where
  -- Steps back one after another.
  back-add : (n m s : ℕ) → back drives (n + m) s ≡ back drives m (back drives n s)
  back-add zero m s = rw zero-add refl
  back-add (suc n) m s = rw suc-add (back-add n m (step_back s (drive_in drives s)))

  -- Where the way back comes to its start again over latches alone, it stays among latches.
  goes_round : (s p : ℕ) → ((q : ℕ) → q ≤ p → IsLatch drives (back drives q s)) → back drives (suc p) s ≡ s
      → (fuel m : ℕ) → m < fuel → IsLatch drives (back drives m s)
  goes_round s p latches again zero m short = absurd (omega arith)
  goes_round s p latches again (suc fuel) m short =
      elim (cases_lt p m) [
        | inr early ↦ latches m early
        | inl late ↦
            let left : ℕ = m - suc p in
            let split : m ≡ suc p + left = omega arith in
            let turned : back drives m s ≡ back drives left s = ap (λ n. back drives n s) split ∙ back-add (suc p) left s ∙ ap (λ t. back drives left t) again in
            subst (λ t. IsLatch drives t) (sym turned) (goes_round s p latches again fuel left (omega arith))
      ]

  -- The first signals of the way back.
  abbrev trail : ℕ → ℕ → List ℕ
  trail zero s = []
  trail (suc n) s = s ∷ trail n (step_back s (drive_in drives s))

  trail_long : (n s : ℕ) → length (trail n s) ≡ n
  trail_long zero s = refl
  trail_long (suc n) s = ap suc (trail_long n (step_back s (drive_in drives s)))

  on_trail : (n s t : ℕ) → Contains (trail n s) t → (q : ℕ) × (q < n) × (back drives q s ≡ t)
  on_trail zero s t stands = absurd (contains-none t stands)
  on_trail (suc n) s t stands =
      elim (contains-cases s (trail n (step_back s (drive_in drives s))) t stands) [
        | inl is ↦ (0, omega arith, is)
        | inr later ↦ let more = on_trail n (step_back s (drive_in drives s)) t later in (suc more.0, omega (arith, more.1), more.2)
      ]

  -- Where the way back is among latches for so long and leaves them later, its first signals are all different.
  trail_apart : (n s m : ℕ) → ((q : ℕ) → q < n → IsLatch drives (back drives q s)) → is_latch (drive_in drives (back drives m s)) ≡ false
      → AreApart (trail n s)
  trail_apart zero s m latches leaves = tt
  trail_apart (suc n) s zero latches leaves = absurd (both_ways _ leaves (latches 0 (omega arith)))
  trail_apart (suc n) s (suc m) latches leaves = (
    λ again.
        let (q, low, is) = on_trail n (step_back s (drive_in drives s)) s again in
        both_ways _ leaves (goes_round s q (λ r early. latches r (omega (arith, early, low))) is (suc (suc m)) (suc m) (omega arith)),
    trail_apart n (step_back s (drive_in drives s)) m (λ q low. latches (suc q) (omega (arith, low))) leaves,
  )

  -- The way back from a signal stays among the signals.
  back_below : (size : ℕ) → ((s : ℕ) → s < size → ReadsBelow size (drive_in drives s)) → (q s : ℕ) → s < size → back drives q s < size
  back_below size reads zero s within = within
  back_below size reads (suc q) s within =
      back_below size reads q (step_back s (drive_in drives s)) (step-within size s (drive_in drives s) within (reads s within))

  -- What is no latch stays.
  no_latch_stays : (s : ℕ) (d : Drive) → is_latch d ≡ false → step_back s d ≡ s
  no_latch_stays s input is = refl
  no_latch_stays s (latch next init) is = cc
  no_latch_stays s (gate pins cover) is = refl

  -- Once the way back has left the latches, it has left them for ever.
  left_stays : (n q s : ℕ) → q ≤ n → is_latch (drive_in drives (back drives q s)) ≡ false → back drives n s ≡ back drives q s
  left_stays n zero s low is = stays n s is
    where
      stays : (i t : ℕ) → is_latch (drive_in drives t) ≡ false → back drives i t ≡ t
      stays zero t gone = refl
      stays (suc i) t gone = ap (λ u. back drives i u) (no_latch_stays t (drive_in drives t) gone) ∙ stays i t gone
  left_stays zero (suc q) s low is = absurd (omega arith)
  left_stays (suc n) (suc q) s low is = left_stays n q (step_back s (drive_in drives s)) (omega arith) is

  -- A way back that is still at a latch after as many steps as there are signals never leaves the latches.
  ring : (size s : ℕ) → ((t : ℕ) → t < size → ReadsBelow size (drive_in drives t)) → s < size → IsLatch drives (back drives size s)
      → (m : ℕ) → IsLatch drives (back drives m s)
  ring size s reads within is m =
      elim (cases_Bool (is_latch (drive_in drives (back drives m s)))) [
        | inl yes' ↦ yes'
        | inr leaves ↦
            let latches : (q : ℕ) → q < suc size → IsLatch drives (back drives q s) = λ q low.
            elim (cases_Bool (is_latch (drive_in drives (back drives q s)))) [
              | inl same ↦ same
              | inr left ↦ absurd (both_ways _ (subst (λ t. is_latch (drive_in drives t) ≡ false) (sym (left_stays size q s (omega arith) left)) left) is)
            ] in
            let apart = trail_apart (suc size) s m latches leaves in
            let few = few_below (trail (suc size) s) size apart (λ t stands. let on = on_trail (suc size) s t stands in subst (λ u. u < size) on.2 (back_below size reads on.0 s within)) in
            let long = trail_long (suc size) s in
            absurd (omega (arith, few, long))
      ]

  -- Past the signals the way back stays where it is, at a latch.
  past : (m s : ℕ) → length drives ≤ s → IsLatch drives (back drives m s)
  past m s out =
      let here : drive_in drives s ≡ latch s false = get_or_past drives s (latch s false) out in
      subst (λ t. IsLatch drives t) (sym (stays m here)) (ap is_latch here)
    where
      stays : (i : ℕ) → drive_in drives s ≡ latch s false → back drives i s ≡ s
      stays zero here = refl
      stays (suc i) here = ap (λ u. back drives i u) (ap (λ (d : Drive). step_back s d) here) ∙ stays i here

  found : (s e n : ℕ) (d : Drive) → back drives n s ≡ e → drive_in drives e ≡ d → (is_latch d ≡ true → (m : ℕ) → IsLatch drives (back drives m s))
      → IsSource drives s (first_source_of e d)
  found s e n input leads is round = (ap is_input is, (n, leads))
  found s e n (latch next init) leads is round = round refl
  found s e n (gate pins cover) leads is round = (ap is_gate is, (n, leads))

-- In a sound circuit each drive reads signals alone.
pub reads_signals : (c : Plain) → IsSound c → (s : ℕ) → s < length c.drives → ReadsBelow (length c.drives) (drive_in c.drives s)
reads_signals c sound s within = sound.range.reads s (latch s false) within

-- The source that is found is the source.
pub source_is : (c : Plain) → IsSound c → (s : ℕ) → IsSource c.drives s (source_of c.drives s)
source_is c sound s =
    found c.drives s (back c.drives (length c.drives) s) (length c.drives) (drive_in c.drives (back c.drives (length c.drives) s)) refl refl (λ is.
    elim (cases_lt s (length c.drives)) [
      | inl within ↦ ring c.drives (length c.drives) s (reads_signals c sound) within is
      | inr out ↦ λ m. past c.drives m s out
    ])

-- A source is the one that is found.
pub source_found : (c : Plain) → IsSound c → (s : ℕ) (e : Source) → IsSource c.drives s e → e ≡ source_of c.drives s
source_found c sound s e is = one_source c.drives s e (source_of c.drives s) is (source_is c sound s)
