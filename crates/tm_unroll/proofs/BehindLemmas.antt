-- The nodes behind latches: how far ahead they are, that they may be leaves, and that each covers the node that leads to it.
use Rattle.std.proofs.Common.{◌≡◌, ℕ, zero, suc, ◌-◌, ◌<◌, ◌≤◌, ◌⊎◌, inl, inr, true, false, List, [], ◌∷◌, length, refl, sym, ap, subst, arith}
use Rattle.std.specs.Prelude.{Contains}
use Rattle.tm_circuit.specs.Plain.{Plain, Drive, input, latch, gate, drive_in, is_latch, is_gate}
use Rattle.tm_circuit.specs.Sound.{IsSound}
use Rattle.tm_circuit.specs.Source.{step_back}
use Rattle.tm_circuit.proofs.ListLemmas.{contains-first, contains-cases, contains-none}
use Rattle.tm_unroll.specs.declared.node.Node.{Node}
use Rattle.tm_unroll.specs.Nodes.{node_at, reads_of, is_end_of}
use Rattle.tm_unroll.specs.Walks.{Covers}
use Rattle.tm_unroll.specs.Mappings.{IsLeafOf}
use Rattle.tm_unroll.specs.Latches.{behind_of, behind_latches, need_of, LeadsToGate}
use Rattle.tm_unroll.proofs.CountLemmas.{read_within}
use Rattle.tm_unroll.proofs.ReplaceLemmas.{reads_cover, each_replaced}

-- It is no further ahead.
pub behind_low : (drives : List Drive) (a s : ℕ) → (behind_latches drives a s).advance ≤ a
behind_low drives zero s = omega arith
behind_low drives (suc less) s = by_drive (drive_in drives s) (λ next. behind_low drives less next)
  where
    by_drive : (d : Drive) → ((next : ℕ) → (behind_latches drives less next).advance ≤ less)
        → (behind_of d (node_at (suc less) s) (λ next. behind_latches drives less next)).advance ≤ suc less
    by_drive input low = omega arith
    by_drive (latch next init) low = let rest = low next in omega (arith, rest)
    by_drive (gate pins cover) low = omega arith

-- Where it is as far ahead, no latch was passed.
pub behind_same : (drives : List Drive) (a s : ℕ) → (behind_latches drives a s).advance ≡ a → behind_latches drives a s ≡ node_at a s
behind_same drives zero s same = refl
behind_same drives (suc less) s same = by_drive (drive_in drives s) same
  where
    by_drive : (d : Drive) → (behind_of d (node_at (suc less) s) (λ next. behind_latches drives less next)).advance ≡ suc less
        → behind_of d (node_at (suc less) s) (λ next. behind_latches drives less next) ≡ node_at (suc less) s
    by_drive input is = refl
    by_drive (latch next init) is = let low = behind_low drives less next in absurd (omega (arith, low, is))
    by_drive (gate pins cover) is = refl

-- It may be a leaf.
leaf_at_end : (base : ℕ) (d : Drive) (lag : ℕ) → IsLeafOf base d lag 0
leaf_at_end base input lag = omega arith
leaf_at_end base (latch next init) lag = refl
leaf_at_end base (gate pins cover) lag = omega arith

pub behind_leaf : (base lag : ℕ) (drives : List Drive) (a s : ℕ) → a ≤ base → a ≤ lag
    → IsLeafOf base (drive_in drives (behind_latches drives a s).signal) lag (behind_latches drives a s).advance
behind_leaf base lag drives zero s low near = leaf_at_end base (drive_in drives s) lag
behind_leaf base lag drives (suc less) s low near = by_drive (drive_in drives s) refl (λ next. behind_leaf base lag drives less next (omega arith) (omega arith))
  where
    IsLeafAt : Node → Type 0
    IsLeafAt x = IsLeafOf base (drive_in drives x.signal) lag x.advance

    by_drive : (d : Drive) → drive_in drives s ≡ d
        → ((next : ℕ) → IsLeafOf base (drive_in drives (behind_latches drives less next).signal) lag (behind_latches drives less next).advance)
        → IsLeafOf base (drive_in drives (behind_of d (node_at (suc less) s) (λ next. behind_latches drives less next)).signal) lag
        (behind_of d (node_at (suc less) s) (λ next. behind_latches drives less next)).advance
    by_drive input is rest = subst (λ (d : Drive). IsLeafOf base d lag (suc less)) (sym is) low
    by_drive (latch next init) is rest = rest next
    by_drive (gate pins cover) is rest = subst (λ (d : Drive). IsLeafOf base d lag (suc less)) (sym is) near

-- A latch with advance to spend reads its next.
latch_reads : (drives : List Drive) (s less next : ℕ) (d : Drive) → drive_in drives s ≡ d → Contains (reads_of d (suc less)) (node_at less next)
    → Contains (reads_of (drive_in drives s) (suc less)) (node_at less next)
latch_reads drives s less next d is read = subst (λ (e : Drive). Contains (reads_of e (suc less)) (node_at less next)) (sym is) read

-- It is a signal.
pub behind_within : (c : Plain) → IsSound c → (a s : ℕ) → s < length c.drives → (behind_latches c.drives a s).signal < length c.drives
behind_within c sound zero s inside = inside
behind_within c sound (suc less) s inside = by_drive (drive_in c.drives s) refl (λ next. behind_within c sound less next)
  where
    by_drive : (d : Drive) → drive_in c.drives s ≡ d → ((next : ℕ) → next < length c.drives → (behind_latches c.drives less next).signal < length c.drives)
        → (behind_of d (node_at (suc less) s) (λ next. behind_latches c.drives less next)).signal < length c.drives
    by_drive input is rest = inside
    by_drive (latch next init) is rest =
        rest next (read_within c sound (node_at (suc less) s) (node_at less next) inside
        (latch_reads c.drives s less next (latch next init) is (contains-first (node_at less next) [])))
    by_drive (gate pins cover) is rest = inside

-- The next of a latch with advance to spend covers it.
next_covers : (drives : List Drive) (s less : ℕ) (d : Drive) → drive_in drives s ≡ d → is_end_of d (suc less) ≡ false
    → Covers drives (reads_of d (suc less)) (node_at (suc less) s)
next_covers drives s less d is goes_on =
    subst (λ (e : Drive). Covers drives (reads_of e (suc less)) (node_at (suc less) s)) is
    (reads_cover drives (node_at (suc less) s) (subst (λ (e : Drive). is_end_of e (suc less) ≡ false) (sym is) goes_on))

-- It is the node itself, or covers it.
pub behind_covers : (drives : List Drive) (a s : ℕ) → (behind_latches drives a s ≡ node_at a s) ⊎ Covers drives (behind_latches drives a s ∷ []) (node_at a s)
behind_covers drives zero s = inl refl
behind_covers drives (suc less) s = by_drive (drive_in drives s) refl (λ next. behind_covers drives less next)
  where
    through : (next : ℕ) → Covers drives (node_at less next ∷ []) (node_at (suc less) s)
        → (behind_latches drives less next ≡ node_at less next) ⊎ Covers drives (behind_latches drives less next ∷ []) (node_at less next)
        → Covers drives (behind_latches drives less next ∷ []) (node_at (suc less) s)
    through next first (inl same) = subst (λ (z : Node). Covers drives (z ∷ []) (node_at (suc less) s)) (sym same) first
    through next first (inr cover) =
        let end = behind_latches drives less next in
        each_replaced drives (node_at less next ∷ []) (end ∷ []) (node_at (suc less) s) first record {
          each = λ y leaf. elim (contains-cases (node_at less next) [] y leaf) [
            | inl is ↦ inr (end ∷ [], subst (λ (v : Node). Covers drives (end ∷ []) v) is cover, λ z stands. stands)
            | inr none ↦ absurd (contains-none y none)
          ];
          only = λ z stands. inr (node_at less next, contains-first (node_at less next) [], cover.reached z stands);
        }

    by_drive : (d : Drive) → drive_in drives s ≡ d
        → ((next : ℕ) → (behind_latches drives less next ≡ node_at less next) ⊎ Covers drives (behind_latches drives less next ∷ []) (node_at less next))
        → (behind_of d (node_at (suc less) s) (λ next. behind_latches drives less next) ≡ node_at (suc less) s)
        ⊎ Covers drives (behind_of d (node_at (suc less) s) (λ next. behind_latches drives less next) ∷ []) (node_at (suc less) s)
    by_drive input is rest = inl refl
    by_drive (latch next init) is rest = inr (through next (next_covers drives s less (latch next init) is refl) (rest next))
    by_drive (gate pins cover) is rest = inl refl

-- ---- what an output needs

pub needs_low : (base : ℕ) (c : Plain) (s : ℕ) → need_of base c s ≤ base
needs_low base c s = behind_low c.drives base s

pub needs_none : (c : Plain) (s : ℕ) → need_of 0 c s ≡ 0
needs_none c s = refl

-- One latch costs one.
behind_latch : (drives : List Drive) (less s : ℕ) → is_latch (drive_in drives s) ≡ true
    → behind_latches drives (suc less) s ≡ behind_latches drives less (step_back s (drive_in drives s))
behind_latch drives less s is = by_drive (drive_in drives s) is
  where
    by_drive : (d : Drive) → is_latch d ≡ true
        → behind_of d (node_at (suc less) s) (λ next. behind_latches drives less next) ≡ behind_latches drives less (step_back s d)
    by_drive input is = cc
    by_drive (latch next init) is = refl
    by_drive (gate pins cover) is = cc

behind_gate : (drives : List Drive) (a s : ℕ) → is_gate (drive_in drives s) ≡ true → behind_latches drives a s ≡ node_at a s
behind_gate drives zero s is = refl
behind_gate drives (suc less) s is = by_drive (drive_in drives s) is
  where
    by_drive : (d : Drive) → is_gate d ≡ true → behind_of d (node_at (suc less) s) (λ next. behind_latches drives less next) ≡ node_at (suc less) s
    by_drive input is = cc
    by_drive (latch next init) is = cc
    by_drive (gate pins cover) is = refl

need_counts : (drives : List Drive) (base s latches : ℕ) → LeadsToGate drives s latches → (behind_latches drives base s).advance ≡ base - latches
need_counts drives base s zero leads = let same = ap (λ (n : Node). n.advance) (behind_gate drives base s leads.arrives) in omega (arith, same)
need_counts drives zero s (suc latches) leads = omega arith
need_counts drives (suc less) s (suc latches) leads =
    let first = ap (λ (n : Node). n.advance) (behind_latch drives less s (leads.passes 0 (omega arith))) in
    let rest = need_counts drives less (step_back s (drive_in drives s)) latches record { passes = λ n low. leads.passes (suc n) (omega arith); arrives = leads.arrives } in
    omega (arith, first, rest)

pub needs_count : (base : ℕ) (c : Plain) (s latches : ℕ) → LeadsToGate c.drives s latches → need_of base c s ≡ base - latches
needs_count base c s latches leads = need_counts c.drives base s latches leads
