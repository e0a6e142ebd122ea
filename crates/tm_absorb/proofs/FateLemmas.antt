-- What became of the tables of a mapping when one of them was absorbed, and which tables can go afterwards.
use Rattle.std.proofs.Common.{◌≡◌, ◌≢◌, ◌⊎◌, ℕ, ◌<◌, List, Option, None, Some, length, set, refl, sym, ◌∙◌, ap, subst, inl, inr, arith}
use Rattle.std.specs.Prelude.{Contains, AllPairs}
use Rattle.std.proofs.lemmas.Bool.{cases_eq}
use Rattle.tm_circuit.specs.Plain.{Plain, Drive}
use Rattle.tm_circuit.specs.Sound.{IsSound}
use Rattle.tm_circuit.specs.Source.{IsSource}
use Rattle.tm_circuit.specs.declared.sources.Source.TheVariants.{Gate}
use Rattle.tm_unroll.specs.declared.node.Node.{Node}
use Rattle.tm_unroll.specs.declared.node.Lut.{Lut}
use Rattle.tm_unroll.specs.Mappings.{Table, root, IsLawful}
use Rattle.tm_unroll.proofs.ListLemmas.{stands_or_not}
use Rattle.tm_unroll.proofs.ChoiceLemmas.{same_or_other}
use Rattle.tm_absorb.specs.Absorbing.{Reads, TakesIn, Becomes, Absorbs}
use Rattle.tm_absorb.specs.Admitting.{LooksAtRoot, HasRoom, Admits, IsOutputGate, CanGo, IsQueued}
use Rattle.tm_absorb.specs.Slots.{slot_in, present, AreOwn, row_in, AreReaders, DoesNotReadAt}
use Rattle.tm_absorb.proofs.GoLemmas.{own_source, one_gate}
use Rattle.tm_absorb.proofs.SlotLemmas.{present-has, present-own, present-ascends}
use Rattle.tm_absorb.proofs.StepLemmas.{same_root, same_or_apart}

-- A table took another one in, and is queued.
pub record IsRenewed (drives : List Drive) (k : ℕ) (queue : List ℕ) (t u v : Table) : Type 0 where
  pub takes : TakesIn k t u v
  pub queued : IsQueued drives queue v

-- A table took the absorbed one in and is queued, or did not read it and stays.
abbrev pub IsFateOf : List Drive → ℕ → List ℕ → Table → Table → Table → Type 0
IsFateOf drives k queue t u v = IsRenewed drives k queue t u v ⊎ (¬ Reads u t × (v ≡ u))

pub record HaveFates (drives : List Drive) (k : ℕ) (queue : List ℕ) (t : Table) (old new : List Table) : Type 0 where
  pub goes_on : (u : Table) → Contains old u → u ≢ t → (v : Table) × Contains new v × IsFateOf drives k queue t u v
  pub comes_from : (v : Table) → Contains new v → (u : Table) × Contains old u × (u ≢ t) × IsFateOf drives k queue t u v

becomes : (drives : List Drive) (k : ℕ) (queue : List ℕ) (t u v : Table) → IsFateOf drives k queue t u v → Becomes k t u v
becomes drives k queue t u v fate = elim fate [ inl renewed ↦ inl renewed.takes | inr stays ↦ inr stays ]

pub fates_absorb : (drives : List Drive) (k : ℕ) (queue : List ℕ) (t : Table) (old new : List Table) → AllPairs (λ u v. u.gate < v.gate) new
    → HaveFates drives k queue t old new → Absorbs k t old new
fates_absorb drives k queue t old new ascending fates = record {
  ascending = ascending;
  goes_on = λ u stands other. let on = fates.goes_on u stands other in (on.0, on.1, becomes drives k queue t u on.0 on.2);
  comes_from = λ v stands. let from = fates.comes_from v stands in (from.0, from.1, from.2, becomes drives k queue t from.0 v from.3);
}

module _ (c : Plain) (k d : ℕ) (old new : List Table) (t : Table) (queue : List ℕ) (lawful : IsLawful c k d old) (stands-t : Contains old t)
    (fates : HaveFates c.drives k queue t old new) (queued-t : IsQueued c.drives queue t) where
  -- a table whose gate does not wait: what looks at the gate stays as it is
  module _ (v : Table) (stands : Contains old v) (apart : v.gate ≢ t.gate) (missing : ¬ Contains queue v.gate) (each : (w : Table) → Contains new w → Admits c.drives k v w) where
    gated : IsSource c.drives v.gate (Gate v.gate)
    gated = own_source c.drives v.gate (lawful.each v stands).gate

    -- a leaf of an absorbed or renewed table does not have the gate as its source
    renewed_blind : (u w : Table) → IsRenewed c.drives k queue t u w → (x : Node) → Contains u.leaves x → IsSource c.drives x.signal (Gate v.gate) → ⊥
    renewed_blind u w renewed x leaf source =
        elim (same_or_other x (root t)) [
          | inl is ↦ apart (one_gate c.drives t.gate v.gate t.gate (subst (λ (y : Node). IsSource c.drives y.signal (Gate v.gate)) is source)
              (own_source c.drives t.gate (lawful.each t stands-t).gate))
          | inr other ↦ missing (renewed.queued.leaves v.gate x ((renewed.takes.leaves.replaces.nodes x).1 (inl (leaf, other))) source)
        ]

    admits_before : (u : Table) → Contains old u → Admits c.drives k v u
    admits_before u stands-u = elim (same_or_apart c k d old t u lawful stands-t stands-u) [
      | inl is ↦ subst (λ (w : Table). Admits c.drives k v w) (sym is) record {
        looks = λ x leaf source. absurd (missing (queued-t.leaves v.gate x leaf source));
        room = λ reads. absurd (missing (queued-t.leaves v.gate (root v) reads gated));
      }
      | inr other ↦
          let on = fates.goes_on u stands-u (λ same. other (ap (λ (w : Table). w.gate) same)) in
          elim on.2 [
            | inl renewed ↦ record {
              looks = λ x leaf source. absurd (renewed_blind u on.0 renewed x leaf source);
              room = λ reads. absurd (renewed_blind u on.0 renewed (root v) reads gated);
            }
            | inr stays ↦ subst (λ (w : Table). Admits c.drives k v w) stays.1 (each on.0 on.1)
          ]
    ]

  -- A table that can go afterwards waits, or could go before.
  pub waits_or_could : (v : Table) → CanGo c k new v → Contains queue v.gate ⊎ CanGo c k old v
  waits_or_could v goes = elim (stands_or_not queue v.gate) [
    | inl there ↦ inl there
    | inr missing ↦
        let from = fates.comes_from v goes.table in
        elim from.3 [
          | inl renewed ↦ absurd (missing renewed.queued.gate)
          | inr stays ↦
              let stands : Contains old v = subst (λ (w : Table). Contains old w) (sym stays.1) from.1 in
              let apart : v.gate ≢ t.gate = λ same. elim (same_or_apart c k d old t from.0 lawful stands-t from.1) [
                | inl is ↦ from.2 is
                | inr other ↦ other (sym (ap (λ (w : Table). w.gate) stays.1) ∙ same)
              ] in
              inr record { table = stands; inner = goes.inner; each = admits_before v stands apart missing goes.each }
        ]
  ]
