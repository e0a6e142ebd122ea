-- What the turn of each node does to the depths of tables, and what they are at the end.
use Rattle.std.proofs.Common.{◌≡◌, ◌≢◌, ℕ, zero, suc, ◌+◌, ◌<◌, ◌≤◌, ◌⊎◌, inl, inr, true, List, [], ◌∷◌, map, length, get_or, set, take, Some, refl, sym, ◌∙◌, ap, subst, arith, length-set, get_or-set_same, get_or-set_other}
use Rattle.std.specs.Prelude.{Contains, AllPairs, slice_get, slice_index}
use Rattle.std.proofs.Math.Nat.{mul-le-mul_right}
use Rattle.std.proofs.lemmas.Bool.{cases_lt, cases_eq}
use Rattle.std.proofs.lemmas.List.Sums.{count_by-le-length}
use Rattle.tm_circuit.specs.Plain.{Plain, Drive, input, latch, gate, drive_in, is_gate, gate_count, pins_of, greatest}
use Rattle.tm_circuit.specs.Chain.{IsGate, IsOrder}
use Rattle.tm_circuit.specs.Sound.{IsSound}
use Rattle.tm_circuit.proofs.ListLemmas.{contains-first, contains-rest, contains-cases, contains-none}
use Rattle.tm_unroll.specs.declared.node.Node.{Node}
use Rattle.tm_unroll.specs.Nodes.{node_at, reads_of, reads}
use Rattle.tm_unroll.specs.Walks.{LeadsTo}
use Rattle.tm_unroll.specs.declared.node.Lut.{Lut}
use Rattle.tm_unroll.specs.Mappings.{Table, table_of, root, IsLawful}
use Rattle.tm_unroll.specs.Falls.{height}
use Rattle.tm_unroll.specs.Chains.{IsPeriodOf}
use Rattle.tm_unroll.specs.Depths.{IsMapping, HasNoRoot, depth_in, IsDeepest, IsDeep, Deepens, AddsNode, IsDone, HasDepths}
use Rattle.tm_unroll.proofs.ListLemmas.{at-within, at-read, place-of, pairs-at, one-at}
use Rattle.tm_unroll.proofs.ReadLemmas.{same_node, gate_reads, falls_lem}
use Rattle.tm_unroll.proofs.ChainLemmas.{leaf_lower}
use Rattle.tm_unroll.proofs.DepthLemmas.{period_from_depths}
use Rattle.tm_unroll.proofs.JudgeLemmas.{gate_within}
use Rattle.tm_unroll.proofs.PlaceLemmas.{depths_read}

-- ---- the first of a list

-- What stands among the first of a list stands at a place before.
place-before : {A : Type 0} (xs : List A) (k : ℕ) (x : A) → Contains (take k xs) x → (j : ℕ) × (j < k) × (slice_get xs j ≡ Some x)
place-before xs zero x stands = absurd (contains-none x stands)
place-before [] (suc k) x stands = absurd (contains-none x stands)
place-before (y ∷ xs) (suc k) x stands =
    elim (contains-cases y (take k xs) x stands) [
      | inl e ↦ (zero, omega arith, ap Some e)
      | inr later ↦ let p = place-before xs k x later in (suc p.0, omega (arith, p.1), p.2)
    ]

-- What stands at a place before stands among the first.
contains-take : {A : Type 0} (xs : List A) (j k : ℕ) (x : A) → j < k → slice_get xs j ≡ Some x → Contains (take k xs) x
contains-take xs j zero x low at = absurd (omega arith)
contains-take [] j (suc k) x low at = cc
contains-take {A} (y ∷ xs) zero (suc k) x low at = let e : y ≡ x = cc in subst (λ (v : A). Contains (y ∷ take k xs) v) e (contains-first y (take k xs))
contains-take (y ∷ xs) (suc j) (suc k) x low at = contains-rest y (take k xs) x (contains-take xs j k x (omega arith) at)

-- What stands among one more of the first is that one, or stood there.
one-more : {A : Type 0} (xs : List A) (i : ℕ) (g x : A) → slice_get xs i ≡ Some g → Contains (take (suc i) xs) x → Contains (take i xs) x ⊎ (g ≡ x)
one-more {A} xs i g x at stands =
    let p = place-before xs (suc i) x stands in
    elim (cases_lt p.0 i) [
      | inl low ↦ inl (contains-take xs p.0 i x low p.2)
      | inr high ↦ let e : p.0 ≡ i = omega (arith, high, p.1) in inr (one-at xs i g x at (subst (λ n. slice_get xs n ≡ Some x) e p.2))
    ]

-- ---- reads that stay at an advance

read_low : (c : Plain) → IsSound c → (x y : Node) → Contains (reads c.drives x) y → y.advance ≤ x.advance
read_low c sound x y read = elim (falls_lem c sound x y read) [ inl less ↦ omega (arith, less) | inr same ↦ let e = same.0 in omega (arith, e) ]

-- What is reached is not further ahead.
leads_low : (c : Plain) → IsSound c → (x y : Node) (through : List Node) → LeadsTo c.drives x through y → y.advance ≤ x.advance
leads_low c sound x y [] leads = read_low c sound x y leads
leads_low c sound x y (z ∷ through) leads =
    let first = read_low c sound x z leads.0 in
    let ih = leads_low c sound z y through leads.1 in
    omega (arith, first, ih)

-- A read that stays at its advance is that of a gate's pin.
stays : (d : Drive) (a : ℕ) (y : Node) → Contains (reads_of d a) y → a ≤ y.advance → (is_gate d ≡ true) × Contains (pins_of d) y.signal
stays input a y read high = absurd (contains-none y read)
stays (latch next init) zero y read high = absurd (contains-none y read)
stays (latch next init) (suc less) y read high =
    elim (contains-cases (node_at less next) [] y read) [
      | inl is ↦ let e : less ≡ y.advance = ap (λ (n : Node). n.advance) is in absurd (omega (arith, e, high))
      | inr none ↦ absurd (contains-none y none)
    ]
stays (gate pins cover) a y read high = (refl, (gate_reads (gate pins cover) a y refl read).1)

-- What leads on and stays at its advance is a gate.
gate_stays : (c : Plain) → IsSound c → (x y : Node) (through : List Node) → LeadsTo c.drives x through y → x.advance ≤ y.advance → IsGate c.drives x.signal
gate_stays c sound x y [] leads high = (stays (drive_in c.drives x.signal) x.advance y leads high).0
gate_stays c sound x y (z ∷ through) leads high =
    let low = leads_low c sound z y through leads.1 in
    (stays (drive_in c.drives x.signal) x.advance z leads.0 (omega (arith, low, high))).0

-- Where reads stay at an advance, they lead from a gate to gates that stand before it in the order.
before_in_order : (c : Plain) → IsSound c → (order : List ℕ) → IsOrder c.drives order → (through : List Node) (x y : Node) (k : ℕ)
    → slice_get order k ≡ Some x.signal → LeadsTo c.drives x through y → x.advance ≤ y.advance → IsGate c.drives y.signal → Contains (take k order) y.signal
before_in_order c sound order is [] x y k at leads high ends =
    is.after k x.signal y.signal at (stays (drive_in c.drives x.signal) x.advance y leads high).1 ends
before_in_order c sound order is (z ∷ through) x y k at leads high ends =
    let low = leads_low c sound z y through leads.1 in
    let first = read_low c sound x z leads.0 in
    let level : z.advance ≤ y.advance = omega (arith, first, high) in
    let pin = stays (drive_in c.drives x.signal) x.advance z leads.0 (omega (arith, low, high)) in
    let p = place-before order k z.signal (is.after k x.signal z.signal at pin.1 (gate_stays c sound z y through leads.1 level)) in
    let q = place-before order p.0 y.signal (before_in_order c sound order is through z y p.0 p.2 leads.1 level ends) in
    contains-take order q.0 k y.signal (omega (arith, q.1, p.1)) q.2

-- ---- one turn

-- Where the depths of the tables at some leaves stay, the deepest stays.
kept : (tables : List Table) (old new : List ℕ) (leaves : List Node) (most : ℕ)
    → ((t : Table) → Contains tables t → Contains leaves (root t) → depth_in new t ≡ depth_in old t) → IsDeepest tables old leaves most → IsDeepest tables new leaves most
kept tables old new leaves most same deep = record {
  above = λ t stands leaf. let e = same t stands leaf in let l = deep.above t stands leaf in omega (arith, e, l);
  reached = elim deep.reached [
    | inl none ↦ inl none
    | inr (t, stands, leaf, at) ↦ inr (t, stands, leaf, same t stands leaf ∙ at)
  ];
}

module _ (c : Plain) (sound : IsSound c) (tables : List Table) (mapping : IsMapping c tables) where
  -- A gate has one table.
  one_table : (t u : Table) → Contains tables t → Contains tables u → t.gate ≡ u.gate → t ≡ u
  one_table t u t_in u_in same =
      let p = place-of tables t t_in in
      let q = place-of tables u u_in in
      let rises : AllPairs (λ (v : Table) (w : Table). v.gate < w.gate) tables = mapping.lawful.ascending in
      elim (cases_lt p.0 q.0) [
        | inl before ↦ let less = pairs-at (λ (v : Table) (w : Table). v.gate < w.gate) tables rises p.0 q.0 t u before p.1 q.1 in absurd (omega (arith, less, same))
        | inr high ↦
            elim (cases_lt q.0 p.0) [
              | inl before ↦ let less = pairs-at (λ (v : Table) (w : Table). v.gate < w.gate) tables rises q.0 p.0 u t before q.1 p.1 in absurd (omega (arith, less, same))
              | inr level ↦ let e : q.0 ≡ p.0 = omega (arith, high, level) in one-at tables p.0 t u p.1 (subst (λ n. slice_get tables n ≡ Some u) e q.1)
            ]
      ]

  -- The root of a table is higher than each leaf.
  lower : (t u : Table) → Contains tables u → Contains u.leaves (root t) → height c (root t) < height c (root u)
  lower t u u_in leaf = leaf_lower 0 (λ _. 0) c mapping.k mapping.d tables sound mapping.lawful t u u_in leaf

  -- No depth is near the greatest number.
  pub room : (lag : ℕ) (seen depths : List ℕ) → HasDepths c tables lag seen depths → (t : Table) → Contains tables t → depth_in depths t < 4294967295
  room lag seen depths has t stands =
      let low = has.low t stands in
      let lag_low = (mapping.lawful.each t stands).lag in
      let near = mapping.near in
      let lag_few : t.lag ≤ 8 = omega (arith, lag_low, near) in
      let product = mul-le-mul_right (suc (gate_count c.drives)) lag_few in
      let rank_low = sound.bounded t.gate in
      let gates = count_by-le-length is_gate c.drives in
      let few = sound.few in
      omega (arith, low, product, rank_low, gates, few)

module _ (c : Plain) (sound : IsSound c) (tables : List Table) (mapping : IsMapping c tables) (order : List ℕ) (is : IsOrder c.drives order) (lag i g : ℕ)
    (at : slice_get order i ≡ Some g) where
  -- The turn of the gate is not over before it comes.
  not_yet : Contains (take i order) g → ⊥
  not_yet stands =
      let p = place-before order i g stands in
      pairs-at (λ (a : ℕ) (b : ℕ). a ≢ b) order is.once p.0 i g g p.1 p.2 at refl

  -- What is done after the turn was done before it, or has this node as its root.
  done_or_now : (t : Table) → IsDone lag (take (suc i) order) t → IsDone lag (take i order) t ⊎ (root t ≡ node_at lag g)
  done_or_now t done =
      elim done [
        | inl less ↦ inl (inl less)
        | inr now ↦
            elim (one-more order i g t.gate at now.1) [
              | inl before ↦ inl (inr (now.0, before))
              | inr same ↦ inr (same_node (root t) (node_at lag g) (sym same) now.0)
            ]
      ]

  -- The tables at the leaves of a table that is done are done.
  leaf_done : (t u : Table) → Contains tables t → Contains tables u → Contains u.leaves (root t) → IsDone lag (take i order) u → IsDone lag (take i order) t
  leaf_done t u t_in u_in leaf done =
      let reached = (mapping.lawful.each u u_in).covers.reached (root t) leaf in
      let low : t.lag ≤ u.lag = leads_low c sound (root u) (root t) reached.0 reached.1 in
      elim done [
        | inl less ↦ inl (omega (arith, low, less))
        | inr now ↦
            elim (cases_lt t.lag lag) [
              | inl less ↦ inl less
              | inr high ↦
                  let level = now.0 in
                  let p = place-before order i u.gate now.1 in
                  let before = before_in_order c sound order is reached.0 (root u) (root t) p.0 p.2 reached.1 (omega (arith, level, high)) (mapping.lawful.each t t_in).gate in
                  let q = place-before order p.0 t.gate before in
                  inr (omega (arith, level, high, low), contains-take order q.0 i t.gate (omega (arith, q.1, p.1)) q.2)
            ]
      ]

  none_adds : (depths : List ℕ) → HasNoRoot tables (node_at lag g) → HasDepths c tables lag (take i order) depths → HasDepths c tables lag (take (suc i) order) depths
  none_adds depths none has = record {
    sized = has.sized;
    low = has.low;
    done = λ t stands done. elim (done_or_now t done) [ inl before ↦ has.done t stands before | inr now ↦ absurd (none t stands now) ];
  }

  module _ (old new : List ℕ) (u : Table) (deepens : Deepens tables (node_at lag g) old new u) (has : HasDepths c tables lag (take i order) old) where
    gate_is : u.gate ≡ g
    gate_is = ap (λ (n : Node). n.signal) deepens.is

    lag_is : u.lag ≡ lag
    lag_is = ap (λ (n : Node). n.advance) deepens.is

    inside : g < length old
    inside =
        let within = gate_within c.drives u.gate (mapping.lawful.each u deepens.stands).gate in
        let same = gate_is in
        let sized = has.sized in
        omega (arith, within, same, sized)

    own_depth : depth_in new u ≡ suc deepens.most
    own_depth =
        ap (λ (xs : List ℕ). get_or xs u.gate 0) deepens.sets ∙ ap (λ n. get_or (set old g (suc deepens.most)) n 0) gate_is
        ∙ get_or-set_same old g (suc deepens.most) 0 inside

    other_depth : (t : Table) → t.gate ≢ g → depth_in new t ≡ depth_in old t
    other_depth t other = ap (λ (xs : List ℕ). get_or xs t.gate 0) deepens.sets ∙ get_or-set_other old g t.gate (suc deepens.most) 0 other

    is_own : (t : Table) → Contains tables t → t.gate ≡ g → t ≡ u
    is_own t stands same = one_table c sound tables mapping t u stands deepens.stands (same ∙ sym gate_is)

    done_other : (t : Table) → Contains tables t → IsDone lag (take i order) t → t.gate ≢ g
    done_other t stands done same =
        elim done [
          | inl less ↦ let e = ap (λ (w : Table). w.lag) (is_own t stands same) in let own = lag_is in omega (arith, e, own, less)
          | inr now ↦ not_yet (subst (λ n. Contains (take i order) n) same now.1)
        ]

    leaf_other : (t : Table) → Contains tables t → Contains u.leaves (root t) → t.gate ≢ g
    leaf_other t stands leaf same =
        let e = ap (λ (w : Table). height c (root w)) (is_own t stands same) in
        let less = lower c sound tables mapping t u deepens.stands leaf in
        omega (arith, e, less)

    most_low : deepens.most ≤ height c (root u)
    most_low =
        elim deepens.deepest.reached [
          | inl none ↦ omega (arith, none)
          | inr (t, stands, leaf, deep) ↦ let low = has.low t stands in let less = lower c sound tables mapping t u deepens.stands leaf in omega (arith, deep, low, less)
        ]

    own_deep : IsDeep tables new u
    own_deep = record {
      most = deepens.most;
      deepest = kept tables old new u.leaves deepens.most (λ t stands leaf. other_depth t (leaf_other t stands leaf)) deepens.deepest;
      deeper = own_depth;
    }

    other_deep : (t : Table) → Contains tables t → IsDone lag (take i order) t → IsDeep tables new t
    other_deep t stands done =
        let deep = has.done t stands done in
        record {
          most = deep.most;
          deepest = kept tables old new t.leaves deep.most (λ v v_in leaf. other_depth v (done_other v v_in (leaf_done v t v_in stands leaf done))) deep.deepest;
          deeper = other_depth t (done_other t stands done) ∙ deep.deeper;
        }

    some_adds : HasDepths c tables lag (take (suc i) order) new
    some_adds = record {
      sized = ap (λ (xs : List ℕ). length xs) deepens.sets ∙ length-set old g (suc deepens.most) ∙ has.sized;
      low = λ t stands. elim (cases_eq t.gate g) [
        | inl same ↦ subst (λ (w : Table). depth_in new w ≤ suc (height c (root w))) (sym (is_own t stands same)) (let e = own_depth in let low = most_low in omega (arith, e, low))
        | inr other ↦ let e = other_depth t other in let low = has.low t stands in omega (arith, e, low)
      ];
      done = λ t stands done. elim (done_or_now t done) [
        | inl before ↦ other_deep t stands before
        | inr now ↦ subst (λ (w : Table). IsDeep tables new w) (sym (is_own t stands (ap (λ (n : Node). n.signal) now))) own_deep
      ];
    }

  turn_of : (old new : List ℕ) → AddsNode tables (node_at lag g) old new → HasDepths c tables lag (take i order) old → HasDepths c tables lag (take (suc i) order) new
  turn_of old new (inl (none, same)) has = subst (λ (xs : List ℕ). HasDepths c tables lag (take (suc i) order) xs) (sym same) (none_adds old none has)
  turn_of old new (inr (u, deepens)) has = some_adds old new u deepens has

-- The turn of the gate at a place of the order.
pub turn : (c : Plain) → IsSound c → (tables : List Table) → IsMapping c tables → (order : List ℕ) → IsOrder c.drives order → (lag i g : ℕ) (old new : List ℕ)
    → i < length order → g ≡ get_or order i g → AddsNode tables (node_at lag g) old new → HasDepths c tables lag (take i order) old → HasDepths c tables lag (take (i + 1) order) new
turn c sound tables mapping order is lag i g old new inside read adds has =
    let one : suc i ≡ i + 1 = omega arith in
    subst (λ n. HasDepths c tables lag (take n order) new) one (turn_of c sound tables mapping order is lag i g (at-read order i g inside (sym read)) old new adds has)

-- The gates of the order are signals.
pub order_within : (c : Plain) (order : List ℕ) → IsOrder c.drives order → (i g : ℕ) → i < length order → g ≡ get_or order i g → g < length c.drives
order_within c order is i g inside read = gate_within c.drives g ((is.gates g).0 (i, inside, sym read))

-- ---- from lag to lag

-- After all gates the next lag begins.
pub next_lag : (c : Plain) (tables : List Table) (mapping : IsMapping c tables) (order : List ℕ) → IsOrder c.drives order → (lag i : ℕ) (depths : List ℕ)
    → i ≡ length order → HasDepths c tables lag (take i order) depths → HasDepths c tables (suc lag) [] depths
next_lag c tables mapping order is lag i depths all has = record {
  sized = has.sized;
  low = has.low;
  done = λ t stands done. elim done [
    | inl less ↦ elim (cases_lt t.lag lag) [
      | inl lower ↦ has.done t stands (inl lower)
      | inr high ↦ has.done t stands (inr (omega (arith, less, high), in_order t stands))
    ]
    | inr now ↦ absurd (contains-none t.gate now.1)
  ];
}
  where
    in_order : (t : Table) → Contains tables t → Contains (take i order) t.gate
    in_order t stands =
        let p = place-of order t.gate ((is.gates t.gate).1 (mapping.lawful.each t stands).gate) in
        contains-take order p.0 i t.gate (let within = at-within order p.0 t.gate p.1 in omega (arith, within, all)) p.1

-- After all lags the greatest depth is the period.
pub last_lag : (c : Plain) (k d : ℕ) (tables : List Table) (depths : List ℕ) → IsLawful c k d tables → HasDepths c tables (suc d) [] depths
    → IsPeriodOf tables (greatest (map (depth_in depths) tables))
last_lag c k d tables depths lawful has = period_from_depths tables (depth_in depths) record {
  some = λ t stands. let e = (deep t stands).deeper in omega (arith, e);
  rises = λ t u t_in u_in leaf. let e = (deep u u_in).deeper in let low = (deep u u_in).deepest.above t t_in leaf in omega (arith, e, low);
  least = λ t stands. elim (deep t stands).deepest.reached [
    | inl none ↦ inl ((deep t stands).deeper ∙ ap suc none)
    | inr (u, u_in, leaf, at) ↦ inr (u, u_in, leaf, (deep t stands).deeper ∙ ap suc (sym at))
  ];
}
  where
    deep : (t : Table) → Contains tables t → IsDeep tables depths t
    deep t stands = has.done t stands (inl (let low = (lawful.each t stands).lag in omega (arith, low)))

-- The same of the tables in code, whatever names their list and that of their depths have.
pub period_is : (c : Plain) (k d : ℕ) (luts seen : List Lut) (depths read : List ℕ) (p : ℕ) → seen ≡ luts → read ≡ depths → IsLawful c k d (map table_of luts)
    → HasDepths c (map table_of seen) (suc d) [] depths → p ≡ greatest (map (λ (lut : Lut). slice_index read lut.gate) seen) → IsPeriodOf (map table_of luts) p
period_is c k d luts seen depths read p same_luts same_depths lawful has is =
    let has_all = subst (λ (ls : List Lut). HasDepths c (map table_of ls) (suc d) [] depths) same_luts has in
    let by_luts = ap (λ (ls : List Lut). greatest (map (λ (lut : Lut). slice_index read lut.gate) ls)) same_luts in
    let by_depths = ap (λ (xs : List ℕ). greatest (map (λ (lut : Lut). slice_index xs lut.gate) luts)) same_depths in
    let by_tables = ap (λ (xs : List ℕ). greatest xs) (depths_read depths luts) in
    subst (λ n. IsPeriodOf (map table_of luts) n) (sym (is ∙ by_luts ∙ by_depths ∙ sym by_tables)) (last_lag c k d (map table_of luts) depths lawful has_all)
