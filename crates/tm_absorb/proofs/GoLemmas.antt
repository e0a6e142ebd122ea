-- A table is absorbable where it can go, and the other way round.
use Rattle.std.proofs.Common.{◌≡◌, ◌≢◌, ◌⊎◌, ℕ, zero, suc, ◌≤◌, List, true, false, IsTrue, refl, sym, ◌∙◌, ap, subst, inl, inr}
use Rattle.std.specs.Prelude.{Contains}
use Rattle.tm_circuit.specs.Plain.{Plain, Drive, input, latch, gate, drive_in, is_input, is_latch, is_gate}
use Rattle.tm_circuit.specs.Chain.{IsGate}
use Rattle.tm_circuit.specs.Source.{IsSource}
use Rattle.tm_circuit.specs.declared.sources.Source.{Source}
use Rattle.tm_circuit.specs.declared.sources.Source.TheVariants.{Input, Gate, Ring}
use Rattle.tm_circuit.specs.Follow.{first_source_of}
use Rattle.tm_circuit.proofs.OneSource.{one_source}
use Rattle.tm_circuit.proofs.SourceLemmas.{source-own}
use Rattle.tm_unroll.specs.declared.node.Node.{Node}
use Rattle.tm_unroll.specs.Mappings.{Table, root}
use Rattle.tm_unroll.proofs.ReadLemmas.{same_node}
use Rattle.tm_absorb.specs.Absorbing.{Reads, IsLeafIn, IsAbsorbable}
use Rattle.tm_absorb.specs.Admitting.{LooksAtRoot, Admits, IsOutputGate, CanGo}

-- A signal has one gate as its source.
pub one_gate : (drives : List Drive) (s g h : ℕ) → IsSource drives s (Gate g) → IsSource drives s (Gate h) → g ≡ h
one_gate drives s g h first second = let same : Gate g ≡ Gate h = one_source drives s (Gate g) (Gate h) first second in cc

-- A gate is its own source.
pub own_source : (drives : List Drive) (g : ℕ) → IsGate drives g → IsSource drives g (Gate g)
own_source drives g is = (is, (0, refl))

-- A leaf whose source is a gate is a latch, or the gate itself.
source_cases : (drives : List Drive) (s g : ℕ) (d : Drive) → drive_in drives s ≡ d → IsSource drives s (Gate g) → (IsTrue (is_latch d)) ⊎ (s ≡ g)
source_cases drives s g input e source =
    let one : Input s ≡ Gate g = one_source drives s (Input s) (Gate g) (source-own drives s input e refl) source in absurd cc
source_cases drives s g (latch next init) e source = inl refl
source_cases drives s g (gate pins cover) e source =
    let one : Gate s ≡ Gate g = one_source drives s (Gate s) (Gate g) (source-own drives s (gate pins cover) e refl) source in inr cc

-- A latch is no gate.
latch_no_gate : (d : Drive) → IsTrue (is_latch d) → IsTrue (is_gate d) → ⊥
latch_no_gate input l g = cc
latch_no_gate (latch next init) l g = cc
latch_no_gate (gate pins cover) l g = cc

pub can_go : (c : Plain) (k : ℕ) (tables : List Table) (t : Table) → IsAbsorbable c k tables t → CanGo c k tables t
can_go c k tables t is = record {
  table = is.table;
  inner = λ (s, output, source). is.inner s output source;
  each = λ u stands. record {
    looks = λ x leaf source. elim (source_cases c.drives x.signal t.gate (drive_in c.drives x.signal) refl source) [
      | inl latched ↦ absurd (is.unlatched x (u, stands, leaf) latched source)
      | inr own ↦ same_node x (root t) own (is.at_lag x (u, stands, leaf) own)
    ];
    room = is.fits u stands;
  };
}

pub is_absorbable : (c : Plain) (k : ℕ) (tables : List Table) (t : Table) → IsGate c.drives t.gate → CanGo c k tables t → IsAbsorbable c k tables t
is_absorbable c k tables t gated goes = record {
  table = goes.table;
  inner = λ s output source. goes.inner (s, output, source);
  unlatched = λ x (u, stands, leaf) latched source.
      let same = (goes.each u stands).looks x leaf source in
      let latched_gate = subst (λ (y : Node). IsTrue (is_latch (drive_in c.drives y.signal))) same latched in
      latch_no_gate (drive_in c.drives t.gate) latched_gate gated;
  at_lag = λ x (u, stands, leaf) own.
      let source = subst (λ s. IsSource c.drives s (Gate t.gate)) (sym own) (own_source c.drives t.gate gated) in
      ap (λ (y : Node). y.advance) ((goes.each u stands).looks x leaf source);
  fits = λ u stands. (goes.each u stands).room;
}
