-- A mapping has one first fault at most, and none where it is lawful.
use Rattle.std.proofs.Common.{◌≡◌, ℕ, suc, ◌<◌, inl, inr, List, length, Some, refl, sym, ◌∙◌, ap, subst, arith}
use Rattle.std.specs.Prelude.{slice_get}
use Rattle.std.proofs.lemmas.Bool.{cases_lt}
use Rattle.tm_circuit.specs.Plain.{Plain}
use Rattle.tm_unroll.specs.declared.node.MappingFault.{MappingFault}
use Rattle.tm_unroll.specs.declared.node.MapWhy.{MapWhy}
use Rattle.tm_unroll.specs.declared.node.MapWhy.TheVariants.{Lag, Leaves, Uncovered, Unserved, Output}
use Rattle.tm_unroll.specs.Mappings.{Table, IsLawfulTable, IsLawfulFrom}
use Rattle.tm_unroll.specs.Faults.{Passes, PassBelow, FailsBy, IsTableFault, IsOutputFault, IsFirstFaultFrom, HasOneFault}
use Rattle.tm_unroll.proofs.ListLemmas.{contains-at, at-within, one-at, pairs-at}

-- A fault is known by its parts.
same_fault : (f g : MappingFault) → f.entry ≡ g.entry → f.why ≡ g.why → f ≡ g
same_fault f g entry why = λ i. record { entry = entry i; why = why i }

module _ (base : ℕ) (c : Plain) (k d : ℕ) (tables : List Table) where
  -- A table that passes fails by no test.
  pub passes_not_fails : (place : ℕ) (t : Table) (why : MapWhy) → FailsBy why base c k d tables place t → Passes base c k d tables place t → ⊥
  passes_not_fails place t Lag fails passes = fails passes.placed
  passes_not_fails place t Leaves fails passes = fails.1 passes.leaves
  passes_not_fails place t Uncovered fails passes = fails.2 passes.covers
  passes_not_fails place t Unserved fails passes = fails.3 passes.served
  passes_not_fails place t Output fails passes = fails

  -- A table fails by one test.
  one_why : (place : ℕ) (t : Table) (v w : MapWhy) → FailsBy v base c k d tables place t → FailsBy w base c k d tables place t → v ≡ w
  one_why place t Lag Lag f g = refl
  one_why place t Lag Leaves f g = absurd (f g.0)
  one_why place t Lag Uncovered f g = absurd (f g.0)
  one_why place t Lag Unserved f g = absurd (f g.0)
  one_why place t Lag Output f g = absurd g
  one_why place t Leaves Lag f g = absurd (g f.0)
  one_why place t Leaves Leaves f g = refl
  one_why place t Leaves Uncovered f g = absurd (f.1 g.1)
  one_why place t Leaves Unserved f g = absurd (f.1 g.1)
  one_why place t Leaves Output f g = absurd g
  one_why place t Uncovered Lag f g = absurd (g f.0)
  one_why place t Uncovered Leaves f g = absurd (g.1 f.1)
  one_why place t Uncovered Uncovered f g = refl
  one_why place t Uncovered Unserved f g = absurd (f.2 g.2)
  one_why place t Uncovered Output f g = absurd g
  one_why place t Unserved Lag f g = absurd (g f.0)
  one_why place t Unserved Leaves f g = absurd (g.1 f.1)
  one_why place t Unserved Uncovered f g = absurd (g.2 f.2)
  one_why place t Unserved Unserved f g = refl
  one_why place t Unserved Output f g = absurd g
  one_why place t Output w f g = absurd f

  -- No table fails before the first one that fails.
  none_before : (f g : MappingFault) → (h : IsTableFault base c k d tables f) → (i : IsTableFault base c k d tables g) → h.place < i.place → ⊥
  none_before f g h i before = passes_not_fails h.place h.table f.why h.fails (i.before h.place h.table before h.at)

  -- Two first tables that fail are one, with one reason.
  one_table_fault : (f g : MappingFault) → IsTableFault base c k d tables f → IsTableFault base c k d tables g → f ≡ g
  one_table_fault f g h i =
      elim (cases_lt h.place i.place) [
        | inl before ↦ absurd (none_before f g h i before)
        | inr after ↦
            elim (cases_lt i.place h.place) [
              | inl later ↦ absurd (none_before g f i h later)
              | inr not_later ↦ at_one (omega arith)
            ]
      ]
    where
      at_one : i.place ≡ h.place → f ≡ g
      at_one same =
          let at : slice_get tables h.place ≡ Some i.table = subst (λ n. slice_get tables n ≡ Some i.table) same i.at in
          let table : i.table ≡ h.table = one-at tables h.place i.table h.table at h.at in
          let there : FailsBy g.why base c k d tables h.place i.table = subst (λ n. FailsBy g.why base c k d tables n i.table) same i.fails in
          let fails : FailsBy g.why base c k d tables h.place h.table = subst (λ (t : Table). FailsBy g.why base c k d tables h.place t) table there in
          same_fault f g (h.entry ∙ ap suc (sym same) ∙ sym i.entry) (one_why h.place h.table f.why g.why h.fails fails)

  -- Where all tables pass none fails.
  passed_none : (f : MappingFault) → IsTableFault base c k d tables f → PassBelow base c k d tables (length tables) → ⊥
  passed_none f h passed = passes_not_fails h.place h.table f.why h.fails (passed h.place h.table (at-within tables h.place h.table h.at) h.at)

  -- Each table of a lawful mapping passes.
  pub lawful_passes : (need : ℕ → ℕ) → IsLawfulFrom base need c k d tables → PassBelow base c k d tables (length tables)
  lawful_passes need lawful place t inside at =
      let table : IsLawfulTable base c.drives k d tables t = lawful.each t (contains-at tables place t at) in
      record {
        placed = record {
          gate = table.gate;
          after = λ before b is was.
              let earlier : before < place = omega arith in
              pairs-at (λ (x : Table) (y : Table). x.gate < y.gate) tables lawful.ascending before place b t earlier was at;
          lag = table.lag;
        };
        leaves = table.leaves;
        covers = table.covers;
        served = table.served;
      }

module _ (base : ℕ) (need : ℕ → ℕ) (c : Plain) (k d : ℕ) (tables : List Table) where
  -- Two first outputs without a table are one.
  one_output_fault : (f g : MappingFault) → IsOutputFault base need c k d tables f → IsOutputFault base need c k d tables g → f ≡ g
  one_output_fault f g h i =
      elim (cases_lt h.place i.place) [
        | inl before ↦ absurd (h.fails (i.before h.place h.output before h.at))
        | inr after ↦
            elim (cases_lt i.place h.place) [
              | inl later ↦ absurd (i.fails (h.before i.place i.output later i.at))
              | inr not_later ↦ let same : h.place ≡ i.place = omega arith in same_fault f g (h.entry ∙ ap suc same ∙ sym i.entry) (h.why ∙ sym i.why)
            ]
      ]

  one_first : (f g : MappingFault) → IsFirstFaultFrom base need c k d tables f → IsFirstFaultFrom base need c k d tables g → f ≡ g
  one_first f g (inl h) (inl i) = one_table_fault base c k d tables f g h i
  one_first f g (inl h) (inr i) = absurd (passed_none base c k d tables f h i.passed)
  one_first f g (inr h) (inl i) = absurd (passed_none base c k d tables g i h.passed)
  one_first f g (inr h) (inr i) = one_output_fault f g h i

  lawful_none : (f : MappingFault) → IsLawfulFrom base need c k d tables → ¬ IsFirstFaultFrom base need c k d tables f
  lawful_none f lawful (inl h) = passed_none base c k d tables f h (lawful_passes base c k d tables need lawful)
  lawful_none f lawful (inr h) = h.fails (lawful.outputs h.output (contains-at c.outputs h.place h.output h.at))

pub has_one_fault : (base : ℕ) (need : ℕ → ℕ) (c : Plain) (k d : ℕ) (tables : List Table) → HasOneFault base need c k d tables
has_one_fault base need c k d tables = record {
  lawful_has_none = lawful_none base need c k d tables;
  one = one_first base need c k d tables;
}
