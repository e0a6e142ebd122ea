-- The lag of a table of a lawful mapping is paid by the latches on each path back from its gate to an input.
use Rattle.std.proofs.Common.{◌≡◌, ℕ, zero, suc, ◌+◌, ◌<◌, ◌≤◌, inl, inr, true, cond, List, [], ◌∷◌, length, refl, sym, subst, arith}
use Rattle.std.specs.Prelude.{Contains}
use Rattle.std.proofs.lemmas.Bool.{cases_lt}
use Rattle.std.proofs.lemmas.List.Sums.{sum_by-cons}
use Rattle.tm_circuit.specs.Plain.{Plain, Drive, input, latch, gate, drive_in, is_input, is_latch, is_gate}
use Rattle.tm_circuit.proofs.ListLemmas.{contains-first, contains-cases, contains-none, contains-map}
use Rattle.tm_unroll.specs.declared.node.Node.{Node}
use Rattle.tm_unroll.specs.Nodes.{node_at, reads_of, is_end_of}
use Rattle.tm_unroll.specs.Walks.{IsWalk}
use Rattle.tm_unroll.specs.Mappings.{Table, IsLeafOf, IsServedOf, HasTable, IsLawful}
use Rattle.tm_unroll.specs.Lags.{made_of, IsPathBack, latches_on, LagsArePaid}

-- One for a latch and nothing for all else.
abbrev one_of : Drive → ℕ
one_of d = cond (is_latch d) 1 0

latches-cons : (drives : List Drive) (s : ℕ) (path : List ℕ) → latches_on drives (s ∷ path) ≡ one_of (drive_in drives s) + latches_on drives path
latches-cons drives s path = sum_by-cons (λ p. one_of (drive_in drives p)) s path

gate-none : (d : Drive) → is_gate d ≡ true → one_of d ≡ 0
gate-none input is = refl
gate-none (latch next init) is = cc
gate-none (gate pins cover) is = refl

input-ends : (d : Drive) (a : ℕ) → is_input d ≡ true → is_end_of d a ≡ true
input-ends input a is = refl
input-ends (latch next init) a is = cc
input-ends (gate pins cover) a is = cc

-- One step back along a path is a read, where there is more advance than latches are left.
step_down : (d : Drive) (p a left : ℕ) → Contains (made_of d) p → one_of d + left < a
    → (b : ℕ) × Contains (reads_of d a) (node_at b p) × (left < b)
step_down input p a left made high = absurd (contains-none p made)
step_down (latch next init) p zero left made high = absurd (omega arith)
step_down (latch next init) p (suc less) left made high =
    elim (contains-cases next [] p made) [
      | inl is ↦ (less, subst (λ q. Contains (node_at less next ∷ []) (node_at less q)) is (contains-first (node_at less next) []), omega arith)
      | inr none ↦ absurd (contains-none p none)
    ]
step_down (gate pins cover) p a left made high = (a, contains-map (λ q. node_at a q) pins p made, omega arith)

-- A node stands on the way along a path: a shorter path leads back from it, with fewer latches than its advance.
pub record IsOnWay (drives : List Drive) (path : List ℕ) (y : Node) : Type 0 where
  pub rest : List ℕ
  pub shorter : length rest < length path
  pub back : IsPathBack drives y.signal rest
  pub high : latches_on drives (y.signal ∷ rest) < y.advance

-- Along a path back with fewer latches than the advance there is a walk, which ends at the input before the present.
along : (drives : List Drive) (path : List ℕ) (s a : ℕ) → IsPathBack drives s path → latches_on drives (s ∷ path) < a
    → (walk : List Node) × IsWalk drives (node_at a s) walk × ((y : Node) → Contains walk y → IsOnWay drives path y)
along drives [] s a back high = ([], input-ends (drive_in drives s) a back, λ y none. absurd (contains-none y none))
along drives (p ∷ path) s a back high =
    let counted = latches-cons drives s (p ∷ path) in
    let down = step_down (drive_in drives s) p a (latches_on drives (p ∷ path)) back.0 (omega (arith, counted, high)) in
    let more = along drives path p down.0 back.1 down.2 in (
      node_at down.0 p ∷ more.0,
      (down.1, more.1),
      λ y stands.
          elim (contains-cases (node_at down.0 p) more.0 y stands) [
            | inl is ↦ subst (λ (z : Node). IsOnWay drives (p ∷ path) z) is record { rest = path; shorter = omega arith; back = back.1; high = down.2 }
            | inr later ↦
                let way = more.2 y later in
                let short = way.shorter in
                record { rest = way.rest; shorter = omega arith; back = way.back; high = way.high }
          ],
    )

-- A leaf at a positive advance is a gate that has a table of at least that lag.
leaf_table : (drives : List Drive) (tables : List Table) (lag : ℕ) (y : Node) (d : Drive) → IsLeafOf 0 d lag y.advance → 0 < y.advance
    → IsServedOf d drives tables y → HasTable tables y.signal y.advance
leaf_table drives tables lag y input kind high served = absurd (omega arith)
leaf_table drives tables lag y (latch next init) kind high served = absurd (omega arith)
leaf_table drives tables lag y (gate pins cover) kind high served = served

paid : (c : Plain) (k d : ℕ) (tables : List Table) → IsLawful c k d tables → (fuel : ℕ) (t : Table) (path : List ℕ) → length path < fuel
    → Contains tables t → IsPathBack c.drives t.gate path → t.lag ≤ latches_on c.drives path
paid c k d tables lawful zero t path short stands back = absurd (omega arith)
paid c k d tables lawful (suc fuel) t path short stands back =
    elim (cases_lt (latches_on c.drives path) t.lag) [
      | inr most ↦ most
      | inl unpaid ↦
          let table = lawful.each t stands in
          let own = latches-cons c.drives t.gate path in
          let none = gate-none (drive_in c.drives t.gate) table.gate in
          let walk = along c.drives path t.gate t.lag back (omega (arith, own, none, unpaid)) in
          let met = table.covers.met walk.0 walk.1 in
          let way = walk.2 met.0 met.1 in
          let high = way.high in
          let shorter = way.shorter in
          let here = latches-cons c.drives met.0.signal way.rest in
          let of = leaf_table c.drives tables t.lag met.0 (drive_in c.drives met.0.signal) (table.leaves.leaves met.0 met.2).kind (omega (arith, high)) (table.served met.0 met.2) in
          let ih = paid c k d tables lawful fuel of.0 way.rest (omega (arith, short, shorter)) of.1 (subst (λ s. IsPathBack c.drives s way.rest) (sym of.2) way.back) in
          let least = of.3 in
          absurd (omega (arith, high, here, ih, least))
    ]

pub lags_paid : (c : Plain) (k d : ℕ) (tables : List Table) → IsLawful c k d tables → LagsArePaid c.drives tables
lags_paid c k d tables lawful t path stands back = paid c k d tables lawful (suc (length path)) t path (omega arith) stands back
