-- The marks of a queue.
use Rattle.std.proofs.Common.{◌≡◌, ◌≢◌, ℕ, zero, suc, ◌+◌, ◌<◌, ◌≤◌, ◌⊎◌, inl, inr, Bool, true, false, List, [], ◌∷◌, ◌++◌, length, take, get_or, refl, sym, ◌∙◌, ap, subst, arith}
use Rattle.std.specs.Prelude.{slice_set, Contains}
use Rattle.std.proofs.lemmas.Bool.{cases_eq, cases_lt, false≢true}
use Rattle.std.proofs.lemmas.List.{get_or_append_left, get_or_at, length_push, get_or-set_same, get_or-set_other, length-set, take_more, take_all}
use Rattle.std.proofs.lemmas.List.Elements.{Contains-append_left, Contains-push}
use Rattle.tm_circuit.specs.Plain.{Drive}
use Rattle.tm_circuit.specs.Chain.{IsGate}
use Rattle.tm_circuit.proofs.ListLemmas.{contains-none}
use Rattle.tm_unroll.proofs.EachLemmas.{each-more}
use Rattle.tm_labels.specs.Marks.{is_marked, JoinsMarks}

-- The marks of a new queue so far.
pub record IsNewQueue (drives : List Drive) (counts : List Bool) (i : ℕ) (queued : List Bool) : Type 0 where
  pub sized : length queued ≡ i
  pub all : (s : ℕ) → s < i → is_marked counts s ≡ true → IsGate drives s → is_marked queued s ≡ true
  pub only : (s : ℕ) → is_marked queued s ≡ true → is_marked counts s ≡ true × IsGate drives s

pub new_none : (drives : List Drive) (counts : List Bool) → IsNewQueue drives counts 0 []
new_none drives counts = record { sized = refl; all = λ s low. absurd (omega arith); only = λ s is. absurd (false≢true is) }

-- A mark more.
mark_more : (marks : List Bool) (m : Bool) (s : ℕ) → is_marked (marks ++ m ∷ []) s ≡ true → is_marked marks s ≡ true ⊎ ((s ≡ length marks) × (m ≡ true))
mark_more [] m zero is = inr (refl, is)
mark_more [] m (suc s) is = absurd (false≢true is)
mark_more (x ∷ marks) m zero is = inl is
mark_more (x ∷ marks) m (suc s) is = elim (mark_more marks m s is) [ inl was ↦ inl was | inr here ↦ inr (ap suc here.0, here.1) ]

pub new_more : (drives : List Drive) (counts : List Bool) (i : ℕ) (queued : List Bool) (waits : Bool) → IsNewQueue drives counts i queued
    → (waits ≡ true → is_marked counts i ≡ true × IsGate drives i) → (is_marked counts i ≡ true → IsGate drives i → waits ≡ true)
    → IsNewQueue drives counts (i + 1) (queued ++ waits ∷ [])
new_more drives counts i queued waits before right all = record {
  sized = length_push queued waits ∙ ap (λ n. n + 1) before.sized;
  all = λ s low counted is.
      elim (cases_lt s i) [
        | inl lower ↦ get_or_append_left queued (waits ∷ []) false s (let e = before.sized in omega (arith, lower, e)) ∙ before.all s lower counted is
        | inr high ↦
            let same : s ≡ i = omega (arith, low, high) in
            get_or_at queued waits [] false s (before.sized ∙ sym same) ∙ all (subst (λ t. is_marked counts t ≡ true) same counted) (subst (λ t. IsGate drives t) same is)
      ];
  only = λ s is.
      elim (mark_more queued waits s is) [
        | inl was ↦ before.only s was
        | inr last ↦ subst (λ t. is_marked counts t ≡ true × IsGate drives t) (sym (last.0 ∙ before.sized)) (right last.1)
      ];
}

-- No signal is marked yet.
pub joined_none : (marks : List Bool) (signals : List ℕ) → JoinsMarks (take 0 signals) marks marks
joined_none marks signals = record { sized = refl; stays = λ s is. is; joins = λ s stands. absurd (contains-none s stands); only = λ s is. inl is }

-- One more signal is marked.
pub joined_more : (was marks : List Bool) (signals : List ℕ) (i g : ℕ) → i < length signals → g ≡ get_or signals i g → g < length marks → JoinsMarks (take i signals) was marks
    → JoinsMarks (take (i + 1) signals) was (slice_set marks g true)
joined_more was marks signals i g within at low before =
    let here : is_marked (slice_set marks g true) g ≡ true = get_or-set_same marks g true false low in
    let there : (h : ℕ) → h ≢ g → is_marked (slice_set marks g true) h ≡ is_marked marks h = λ h differs. get_or-set_other marks g h true false differs in
    let stays : (h : ℕ) → is_marked marks h ≡ true → is_marked (slice_set marks g true) h ≡ true =
    λ h is. elim (cases_eq h g) [ inl same ↦ ap (is_marked (slice_set marks g true)) same ∙ here | inr differs ↦ there h differs ∙ is ] in
    let more : take (i + 1) signals ≡ take i signals ++ g ∷ [] = take_more signals i g within ∙ ap (λ x. take i signals ++ x ∷ []) (sym at) in
    record {
      sized = length-set marks g true ∙ before.sized;
      stays = λ h is. stays h (before.stays h is);
      joins = each-more (λ h. is_marked (slice_set marks g true) h ≡ true) signals i g (λ h stands. stays h (before.joins h stands)) within at here;
      only = λ h is.
          elim (cases_eq h g) [
            | inl same ↦ inr (subst (λ (xs : List ℕ). Contains xs h) (sym more) (subst (λ x. Contains (take i signals ++ g ∷ []) x) (sym same) (Contains-push (take i signals) g)))
            | inr differs ↦
                elim (before.only h (sym (there h differs) ∙ is)) [
                  | inl was' ↦ inl was'
                  | inr earlier ↦ inr (subst (λ (xs : List ℕ). Contains xs h) (sym more) (Contains-append_left (take i signals) (g ∷ []) h earlier))
                ]
          ];
    }

pub joined_all : (was marks : List Bool) (signals : List ℕ) (i : ℕ) → length signals ≤ i → JoinsMarks (take i signals) was marks → JoinsMarks signals was marks
joined_all was marks signals i past last = subst (λ (xs : List ℕ). JoinsMarks xs was marks) (take_all i signals past) last
