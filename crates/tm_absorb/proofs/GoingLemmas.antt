-- Which tables can go, by the slots and the readers.
use Rattle.std.proofs.Common.{◌≡◌, ◌≢◌, ◌⊎◌, ℕ, ◌<◌, ◌≤◌, List, ◌∷◌, length, Option, None, Some, refl, sym, ◌∙◌, ap, subst, inl, inr, arith}
use Rattle.std.specs.Prelude.{Contains, All}
use Rattle.std.specs.Ordering.{nat_cmp}
use Rattle.std.specs.BTreeMap.Range.{IsLtBy}
use Rattle.tm_circuit.specs.Plain.{Plain, Drive}
use Rattle.tm_circuit.specs.Source.{IsSource}
use Rattle.tm_circuit.specs.declared.sources.Source.TheVariants.{Gate}
use Rattle.tm_circuit.proofs.ListLemmas.{contains-cases}
use Rattle.tm_unroll.specs.declared.node.Node.{Node}
use Rattle.tm_unroll.specs.declared.node.Lut.{Lut}
use Rattle.tm_unroll.specs.Mappings.{Table, root}
use Rattle.tm_unroll.proofs.ListLemmas.{stands_or_not}
use Rattle.tm_absorb.specs.Absorbing.{Reads}
use Rattle.tm_absorb.specs.Admitting.{Admits, IsOutputGate, CanGo}
use Rattle.tm_absorb.specs.Slots.{slot_in, present, AreOwn, row_in, IsUnderWay, IsAdmittedAt, IsRefusedAt, CanGoAt, AreAwaited, IsNextAt, AreWithin}
use Rattle.tm_absorb.proofs.GoLemmas.{own_source}
use Rattle.tm_absorb.proofs.SlotLemmas.{present-has, present-at, present-own}

-- The leaves of the tables of a mapping under way are signals.
pub leaves_within : (c : Plain) (k d n : ℕ) (slots : List (Option Lut)) (rows : List (List ℕ)) → IsUnderWay c k d slots rows → n ≡ length c.drives → AreWithin n slots
leaves_within c k d n slots rows state same g t x at leaf =
    let inside = (((state.lawful.each t (present-has slots g t at)).leaves.leaves) x leaf).signal in omega (arith, inside, same)

module _ (c : Plain) (k d : ℕ) (slots : List (Option Lut)) (rows : List (List ℕ)) (state : IsUnderWay c k d slots rows) (g : ℕ) (t : Table) (at : slot_in slots g ≡ Some t) where
  named : t.gate ≡ g
  named = state.own g t at

  stands : Contains (present slots) t
  stands = present-has slots g t at

  -- what is no reader has nothing to do with the table
  stranger : (u : Table) (h : ℕ) → slot_in slots h ≡ Some u → ¬ Contains (row_in rows g) h → Admits c.drives k t u
  stranger u h at-u missing = record {
    looks = λ x leaf source. absurd (missing (state.readers h g u x at-u leaf (subst (λ b. IsSource c.drives x.signal (Gate b)) named source)));
    room = λ reads. absurd (missing (state.readers h g u (root t) at-u reads
        (subst (λ b. IsSource c.drives t.gate (Gate b)) named (own_source c.drives t.gate (state.lawful.each t stands).gate))));
  }

  pub goes_where_admitted : ¬ IsOutputGate c g → ((h : ℕ) → Contains (row_in rows g) h → IsAdmittedAt c.drives k slots t h) → CanGoAt c k slots g
  goes_where_admitted inner admitted = record {
    table = t;
    at = at;
    goes = record {
      table = stands;
      inner = subst (λ b. ¬ IsOutputGate c b) (sym named) inner;
      each = λ u stands-u.
          let at-u = present-at slots u stands-u in
          elim (stands_or_not (row_in rows g) at-u.0) [
            | inl reader ↦ admitted at-u.0 reader u at-u.1
            | inr missing ↦ stranger u at-u.0 at-u.1 missing
          ];
    };
  }

  -- there is one table in a slot
  same_table : (other : Table) → slot_in slots g ≡ Some other → other ≡ t
  same_table other is = let both : Some other ≡ Some t = sym is ∙ at in cc

  pub refused_stays : (h : ℕ) → IsRefusedAt c.drives k slots t h → CanGoAt c k slots g → ⊥
  refused_stays h (u, at-u, refuses) can =
      refuses (subst (λ (v : Table). Admits c.drives k v u) (same_table can.table can.at) (can.goes.each u (present-has slots h u at-u)))

  pub output_stays : IsOutputGate c g → CanGoAt c k slots g → ⊥
  output_stays output can =
      can.goes.inner (subst (λ (v : Table). IsOutputGate c v.gate) (sym (same_table can.table can.at)) (subst (λ b. IsOutputGate c b) (sym named) output))

pub empty_stays : (c : Plain) (k : ℕ) (slots : List (Option Lut)) (g : ℕ) → slot_in slots g ≡ None → CanGoAt c k slots g → ⊥
empty_stays c k slots g empty can = let both : None ≡ Some can.table = sym empty ∙ can.at in cc

-- A table that can go stands in its slot.
going_at : (c : Plain) (k : ℕ) (slots : List (Option Lut)) (t : Table) → AreOwn slots → CanGo c k (present slots) t → CanGoAt c k slots t.gate
going_at c k slots t own goes = record { table = t; at = present-own slots t own goes.table; goes = goes }

-- The first in the queue, where its table cannot go.
pub awaits_rest : (c : Plain) (k : ℕ) (slots : List (Option Lut)) (g : ℕ) (queue rest : List ℕ) → AreOwn slots → queue ≡ g ∷ rest → AreAwaited c k slots queue
    → (CanGoAt c k slots g → ⊥) → AreAwaited c k slots rest
awaits_rest c k slots g queue rest own split awaited stays t goes =
    elim (contains-cases g rest t.gate (subst (λ (keys : List ℕ). Contains keys t.gate) split (awaited t goes))) [
      | inl first ↦ absurd (stays (subst (λ b. CanGoAt c k slots b) (sym first) (going_at c k slots t own goes)))
      | inr later ↦ later
    ]

-- The first in the queue, where its table can go.
pub next_here : (c : Plain) (k : ℕ) (slots : List (Option Lut)) (g : ℕ) (queue rest : List ℕ) → AreOwn slots → queue ≡ g ∷ rest → AreAwaited c k slots queue
    → ((h : ℕ) → Contains rest h → g ≤ h) → CanGoAt c k slots g → IsNextAt c k slots rest g
next_here c k slots g queue rest own split awaited above can = record {
  goes = can;
  first = λ t goes. elim (split_cases t goes) [ inl first ↦ omega (arith, first) | inr later ↦ above t.gate later ];
  awaited = λ t goes. elim (split_cases t goes) [ inl first ↦ inl (sym first) | inr later ↦ inr later ];
}
  where
    split_cases : (t : Table) → CanGo c k (present slots) t → (g ≡ t.gate) ⊎ Contains rest t.gate
    split_cases t goes = contains-cases g rest t.gate (subst (λ (keys : List ℕ). Contains keys t.gate) split (awaited t goes))
