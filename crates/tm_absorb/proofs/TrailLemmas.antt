-- Absorptions one after another.
use Rattle.std.proofs.Common.{◌≡◌, ◌≢◌, ℕ, zero, suc, ◌<◌, ◌≤◌, List, [], ◌∷◌, length, map, refl, sym, ◌∙◌, ap, subst, inl, inr, arith}
use Rattle.std.specs.Prelude.{Contains, AllPairs}
use Rattle.std.proofs.lemmas.List.{length-map}
use Rattle.tm_circuit.specs.Plain.{Plain}
use Rattle.tm_circuit.specs.Sound.{IsSound}
use Rattle.tm_circuit.proofs.ListLemmas.{contains-map, contains-unmap, contains-cases, contains-first}
use Rattle.tm_unroll.specs.Mappings.{Table, IsLawful}
use Rattle.tm_unroll.specs.Chains.{HasChainsWithin}
use Rattle.tm_unroll.proofs.ListLemmas.{AreApart, fits, pairs_first, pairs_rest}
use Rattle.tm_absorb.specs.Absorbing.{Absorbs, IsFirstAbsorbable, AbsorbsFirst, IsAbsorbed}
use Rattle.tm_absorb.proofs.GoLemmas.{can_go}
use Rattle.tm_absorb.proofs.StepLemmas.{absorbs_lawful, same_root, same_or_apart}
use Rattle.tm_absorb.proofs.ChainLemmas.{absorbs_within}

-- One absorption more.
pub absorbs_more : (c : Plain) (k times : ℕ) (old between new : List Table) (t : Table) → AbsorbsFirst c k times old between
    → IsFirstAbsorbable c k between t → Absorbs k t between new → AbsorbsFirst c k (suc times) old new
absorbs_more c k zero old between new t so_far first absorbs =
    (t, new, subst (λ (tables : List Table). IsFirstAbsorbable c k tables t) so_far first, subst (λ (tables : List Table). Absorbs k t tables new) so_far absorbs, refl)
absorbs_more c k (suc times) old between new t (s, next, first-next, absorbs-next, so_far) first absorbs =
    (s, next, first-next, absorbs-next, absorbs_more c k times next between new t so_far first absorbs)

pub lawful_after : (c : Plain) (k d times : ℕ) (old new : List Table) → IsSound c → IsLawful c k d old → AbsorbsFirst c k times old new → IsLawful c k d new
lawful_after c k d zero old new sound lawful so_far = subst (λ (tables : List Table). IsLawful c k d tables) (sym so_far) lawful
lawful_after c k d (suc times) old new sound lawful (t, next, first, absorbs, so_far) =
    lawful_after c k d times next new sound (absorbs_lawful c k d old next t sound lawful (can_go c k old t first.absorbable) absorbs) so_far

pub within_after : (c : Plain) (k times most : ℕ) (old new : List Table) → AbsorbsFirst c k times old new → HasChainsWithin old most → HasChainsWithin new most
within_after c k zero most old new so_far within = subst (λ (tables : List Table). HasChainsWithin tables most) (sym so_far) within
within_after c k (suc times) most old new (t, next, first, absorbs, so_far) within =
    within_after c k times most next new so_far (absorbs_within k t old next first.absorbable.table absorbs most within)

-- The gates of ascending tables are all different.
gates_apart : (tables : List Table) → AllPairs (λ u v. u.gate < v.gate) tables → AreApart (map (λ (u : Table). u.gate) tables)
gates_apart [] ascending = tt
gates_apart (u ∷ tables) ascending = (
  (λ stands. let other = contains-unmap (λ (v : Table). v.gate) tables u.gate stands in
      let up = pairs_first (λ (v w : Table). v.gate < w.gate) u tables ascending other.0 other.1 in omega (arith, up, other.2)),
  gates_apart tables (pairs_rest (λ (v w : Table). v.gate < w.gate) u tables ascending),
)

-- An absorption leaves fewer tables.
pub absorbs_fewer : (c : Plain) (k d : ℕ) (t : Table) (old new : List Table) → IsLawful c k d old → Contains old t → Absorbs k t old new → length new < length old
absorbs_fewer c k d t old new lawful stands absorbs =
    let gate : Table → ℕ = λ (u : Table). u.gate in
    let missing : ¬ Contains (map gate new) t.gate = λ there. (
    let v = contains-unmap gate new t.gate there in
    let from = absorbs.comes_from v.0 v.1 in
    let kept = same_root k t from.0 v.0 from.3 in
    elim (same_or_apart c k d old t from.0 lawful stands from.1) [ inl same ↦ from.2 same | inr apart ↦ apart (sym kept.0 ∙ v.2) ]) in
    let inside : (g : ℕ) → Contains (t.gate ∷ map gate new) g → Contains (map gate old) g = λ g there.
    elim (contains-cases t.gate (map gate new) g there) [
      | inl own ↦ subst (λ h. Contains (map gate old) h) own (contains-map gate old t stands)
      | inr later ↦
          let v = contains-unmap gate new g later in
          let from = absorbs.comes_from v.0 v.1 in
          let kept = same_root k t from.0 v.0 from.3 in
          subst (λ h. Contains (map gate old) h) (sym kept.0 ∙ v.2) (contains-map gate old from.0 from.1)
    ] in
    let fewer = fits (t.gate ∷ map gate new) (map gate old) (missing, gates_apart new absorbs.ascending) inside in
    omega (arith, fewer, length-map old gate, length-map new gate)
