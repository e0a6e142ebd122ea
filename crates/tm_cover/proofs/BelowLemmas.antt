-- Tables of the gates below a number, one gate after another.
use Rattle.std.proofs.Common.{◌≡◌, ℕ, ◌+◌, ◌<◌, inl, inr, List, [], ◌∷◌, ◌++◌, sym, subst, arith}
use Rattle.std.specs.Prelude.{Contains, AllPairs}
use Rattle.std.proofs.lemmas.Bool.{cases_lt}
use Rattle.std.proofs.lemmas.List.Elements.{Contains-push, Contains-append_left, Contains-push_cases}
use Rattle.tm_circuit.proofs.ListLemmas.{contains-none}
use Rattle.tm_unroll.specs.Mappings.{Table}
use Rattle.tm_unroll.proofs.ListLemmas.{pairs-push}
use Rattle.tm_labels.specs.Settled.{Settling}
use Rattle.tm_cover.specs.Chosen.{IsTableAt}
use Rattle.tm_cover.proofs.TableLemmas.{AreTablesOf}

-- The tables of those of the gates that are below a number.
pub record AreTablesBelow (s : Settling) (IsOne : ℕ → Type 0) (n : ℕ) (tables : List Table) : Type 0 where
  pub ascending : AllPairs (λ t u. t.gate < u.gate) tables
  pub each : (t : Table) → Contains tables t → IsTableAt s t × IsOne t.gate
  pub low : (t : Table) → Contains tables t → t.gate < n
  pub all : (g : ℕ) → IsOne g → g < n → (t : Table) × Contains tables t × (t.gate ≡ g)

module _ (s : Settling) (IsOne : ℕ → Type 0) where
  pub below_none : AreTablesBelow s IsOne 0 []
  below_none = record {
    ascending = λ i j e before inside. absurd (omega arith);
    each = λ t none. absurd (contains-none t none);
    low = λ t none. absurd (contains-none t none);
    all = λ g is low. absurd (omega arith);
  }

  pub below_other : (n : ℕ) (tables : List Table) → AreTablesBelow s IsOne n tables → (IsOne n → ⊥) → AreTablesBelow s IsOne (n + 1) tables
  below_other n tables are other = record {
    ascending = are.ascending;
    each = are.each;
    low = λ t stands. let less = are.low t stands in omega (arith, less);
    all = λ g is low. elim (cases_lt g n) [
      | inl lower ↦ are.all g is lower
      | inr high ↦ let e : g ≡ n = omega arith in absurd (other (subst (λ (h : ℕ). IsOne h) e is))
    ];
  }

  pub below_more : (n : ℕ) (tables : List Table) (t : Table) → AreTablesBelow s IsOne n tables → t.gate ≡ n → IsTableAt s t → IsOne n
      → AreTablesBelow s IsOne (n + 1) (tables ++ t ∷ [])
  below_more n tables t are named at is = record {
    ascending = pairs-push (λ (x : Table) (y : Table). x.gate < y.gate) tables t are.ascending (λ u stands. let less = are.low u stands in omega (arith, less, named));
    each = λ u stands. elim (Contains-push_cases tables t u stands) [
      | inl earlier ↦ are.each u earlier
      | inr same ↦ subst (λ (v : Table). IsTableAt s v × IsOne v.gate) same (at, subst (λ (h : ℕ). IsOne h) (sym named) is)
    ];
    low = λ u stands. elim (Contains-push_cases tables t u stands) [
      | inl earlier ↦ let less = are.low u earlier in omega (arith, less)
      | inr same ↦ subst (λ (v : Table). v.gate < n + 1) same (omega (arith, named))
    ];
    all = λ g one low. elim (cases_lt g n) [
      | inl lower ↦ let (u, stands, e) = are.all g one lower in (u, Contains-append_left tables (t ∷ []) u stands, e)
      | inr high ↦ (t, Contains-push tables t, omega arith)
    ];
  }

  pub below_all : (n : ℕ) (tables : List Table) → AreTablesBelow s IsOne n tables → ((g : ℕ) → IsOne g → g < n) → AreTablesOf s IsOne tables
  below_all n tables are low = record { ascending = are.ascending; each = are.each; all = λ g is. are.all g is (low g is) }
