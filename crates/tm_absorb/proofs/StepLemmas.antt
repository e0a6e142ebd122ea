-- What is left of a lawful mapping after a table was absorbed is lawful.
use Rattle.std.proofs.Common.{◌≡◌, ◌≢◌, ◌⊎◌, ℕ, ◌<◌, ◌≤◌, List, true, IsTrue, refl, sym, ◌∙◌, ap, subst, inl, inr, arith}
use Rattle.std.specs.Prelude.{Contains, AllPairs}
use Rattle.std.proofs.lemmas.Bool.{cases_eq}
use Rattle.tm_circuit.specs.Plain.{Plain, Drive, input, latch, gate, drive_in, is_gate}
use Rattle.tm_circuit.specs.Chain.{IsGate}
use Rattle.tm_circuit.specs.Sound.{IsSound}
use Rattle.tm_circuit.specs.Source.{IsSource}
use Rattle.tm_circuit.specs.declared.sources.Source.TheVariants.{Gate}
use Rattle.tm_unroll.specs.declared.node.Node.{Node}
use Rattle.tm_unroll.specs.Nodes.{IsBefore}
use Rattle.tm_unroll.specs.Walks.{IsReached, Covers}
use Rattle.tm_unroll.specs.Falls.{height}
use Rattle.tm_unroll.specs.Mappings.{Table, root, IsLeaf, IsLeafOf, HasLeaves, HasTable, HasSourceTable, IsServedOf, AreServed, IsLawfulTable, IsLawful}
use Rattle.tm_unroll.specs.Replaced.{Replaces}
use Rattle.tm_unroll.proofs.LeafLemmas.{reached_lower, more_lag, one_of_gate}
use Rattle.tm_unroll.proofs.ReadLemmas.{same_node}
use Rattle.tm_unroll.proofs.ReplaceLemmas.{one_replaced}
use Rattle.tm_absorb.specs.Absorbing.{Reads, IsNewSet, TakesIn, Becomes, Absorbs}
use Rattle.tm_absorb.specs.Admitting.{LooksAtRoot, Admits, IsOutputGate, CanGo}
use Rattle.tm_absorb.proofs.GoLemmas.{own_source}

-- No table of a lawful mapping has its own root as a leaf.
pub never_own : (c : Plain) (k d : ℕ) (tables : List Table) (t : Table) → IsSound c → IsLawful c k d tables → Contains tables t → ¬ Reads t t
never_own c k d tables t sound lawful stands own =
    let falls = reached_lower c (root t) (root t) sound ((lawful.each t stands).covers.reached (root t) own) in omega (arith, falls)

-- Two tables of a lawful mapping are one, or have different gates.
pub same_or_apart : (c : Plain) (k d : ℕ) (tables : List Table) (t u : Table) → IsLawful c k d tables → Contains tables t → Contains tables u
    → (u ≡ t) ⊎ (u.gate ≢ t.gate)
same_or_apart c k d tables t u lawful first second =
    elim (cases_eq u.gate t.gate) [ inl same ↦ inl (one_of_gate 0 (λ _. 0) c k d tables u t lawful second first same) | inr apart ↦ inr apart ]

-- A table keeps its gate and its lag.
pub same_root : (k : ℕ) (t u v : Table) → Becomes k t u v → (v.gate ≡ u.gate) × (v.lag ≡ u.lag)
same_root k t u v becomes = elim becomes [ inl takes ↦ (takes.gate, takes.lag) | inr stays ↦ (ap (λ (w : Table). w.gate) stays.1, ap (λ (w : Table). w.lag) stays.1) ]

-- A gate leaf is at most as far ahead as its table.
gate_ahead : (d : Drive) (lag advance : ℕ) → IsTrue (is_gate d) → IsLeafOf 0 d lag advance → advance ≤ lag
gate_ahead input lag advance is kind = absurd cc
gate_ahead (latch next init) lag advance is kind = absurd cc
gate_ahead (gate pins cover) lag advance is kind = kind

module _ (c : Plain) (k d : ℕ) (old new : List Table) (t : Table) (sound : IsSound c) (lawful : IsLawful c k d old) (goes : CanGo c k old t)
    (absorbs : Absorbs k t old new) where
  own : IsLawfulTable 0 c.drives k d old t
  own = lawful.each t goes.table

  -- a gate that is not the absorbed one keeps a table
  keeps_table : (g lag : ℕ) → HasTable old g lag → (g ≢ t.gate) → HasTable new g lag
  keeps_table g lag (u, stands, is, most) other =
      let later = absorbs.goes_on u stands (λ same. other (sym is ∙ ap (λ (w : Table). w.gate) same)) in
      let kept = same_root k t u later.0 later.2 in
      (later.0, later.1, kept.0 ∙ is, omega (arith, kept.1))

  -- a source that is not the absorbed gate keeps a table
  keeps_source : (s : ℕ) → HasSourceTable c.drives old s 0 → ((g : ℕ) → IsSource c.drives s (Gate g) → g ≢ t.gate) → HasSourceTable c.drives new s 0
  keeps_source s given other g source = keeps_table g 0 (given g source) (other g source)

  -- a leaf that is served, and is not the root of the absorbed table, still is
  keeps_served : (u : Table) (x : Node) (d : Drive) → Contains old u → Contains u.leaves x → (x ≢ root t) → drive_in c.drives x.signal ≡ d
      → IsServedOf d c.drives old x → IsServedOf d c.drives new x
  keeps_served u x input stands leaf other is served = tt
  keeps_served u x (latch next init) stands leaf other is served =
      keeps_source x.signal served (λ g source same. other ((goes.each u stands).looks x leaf (subst (λ h. IsSource c.drives x.signal (Gate h)) same source)))
  keeps_served u x (gate pins cover) stands leaf other is served =
      keeps_table x.signal x.advance served
      (λ same. other ((goes.each u stands).looks x leaf (subst (λ s. IsSource c.drives s (Gate t.gate)) (sym same) (own_source c.drives t.gate own.gate))))

  -- the leaves of the absorbed table are not its root
  own_leaves : (x : Node) → Contains t.leaves x → x ≢ root t
  own_leaves x leaf same = never_own c k d old t sound lawful goes.table (subst (λ (y : Node). Contains t.leaves y) same leaf)

  -- a reader that took the table in is lawful
  takes_lawful : (u v : Table) → Contains old u → TakesIn k t u v → IsLawfulTable 0 c.drives k d new v
  takes_lawful u v stands takes =
      let was = lawful.each u stands in
      let kept : root u ≡ root v = same_node (root u) (root v) (sym takes.gate) (sym takes.lag) in
      let up : IsLeaf 0 c.drives u.lag (root t) = was.leaves.leaves (root t) takes.reads in
      let from = takes.leaves.replaces.nodes in
      record {
        gate = subst (λ g. IsGate c.drives g) (sym takes.gate) was.gate;
        lag = omega (arith, was.lag, takes.lag);
        leaves = record {
          few = takes.leaves.few;
          ascending = takes.leaves.ascending;
          leaves = λ x leaf. subst (λ lag. IsLeaf 0 c.drives lag x) (sym takes.lag) (elim ((from x).0 leaf) [
            | inl other ↦ was.leaves.leaves x other.0
            | inr inside ↦ more_lag 0 c.drives t.lag u.lag x (own.leaves.leaves x inside) (gate_ahead (drive_in c.drives t.gate) u.lag t.lag own.gate up.kind)
          ]);
        };
        covers = subst (λ (r : Node). Covers c.drives v.leaves r) kept (one_replaced c.drives u.leaves t.leaves v.leaves (root u) (root t) was.covers takes.reads own.covers takes.leaves.replaces);
        served = λ x leaf. elim ((from x).0 leaf) [
          | inl other ↦ keeps_served u x (drive_in c.drives x.signal) stands other.0 other.1 refl (was.served x other.0)
          | inr inside ↦ keeps_served t x (drive_in c.drives x.signal) goes.table inside (own_leaves x inside) refl (own.served x inside)
        ];
      }

  -- a table that stays is lawful
  stays_lawful : (u : Table) → Contains old u → ¬ Reads u t → IsLawfulTable 0 c.drives k d new u
  stays_lawful u stands apart =
      let was = lawful.each u stands in
      record {
        gate = was.gate;
        lag = was.lag;
        leaves = was.leaves;
        covers = was.covers;
        served = λ x leaf. keeps_served u x (drive_in c.drives x.signal) stands leaf
            (λ same. apart (subst (λ (y : Node). Contains u.leaves y) same leaf)) refl (was.served x leaf);
      }

  pub absorbs_lawful : IsLawful c k d new
  absorbs_lawful = record {
    ascending = absorbs.ascending;
    each = λ v stands.
        let from = absorbs.comes_from v stands in
        elim from.3 [
          | inl takes ↦ takes_lawful from.0 v from.1 takes
          | inr stays ↦ subst (λ (w : Table). IsLawfulTable 0 c.drives k d new w) (sym stays.1) (stays_lawful from.0 from.1 stays.0)
        ];
    outputs = λ s output. keeps_source s (lawful.outputs s output)
        (λ g source same. goes.inner (s, output, subst (λ h. IsSource c.drives s (Gate h)) same source));
  }
