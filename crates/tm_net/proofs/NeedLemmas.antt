-- Least advances fall to needed nodes, and go on behind latches.
use Rattle.std.proofs.Common.{◌≡◌, ◌≢◌, ℕ, zero, suc, ◌+◌, ◌-◌, ◌<◌, ◌≤◌, ◌⊎◌, inl, inr, Bool, false, List, [], ◌∷◌, ◌++◌, map, length, get_or, set, take, refl, sym, ◌∙◌, ap, subst, arith, append_assoc, length-set, get_or-set_same, get_or-set_other}
use Rattle.std.specs.Prelude.{Contains, All}
use Rattle.std.specs.List.{flat_map}
use Rattle.std.proofs.lemmas.Bool.{cases_eq}
use Rattle.std.proofs.lemmas.List.{append-nil}
use Rattle.std.proofs.lemmas.List.Elements.{Contains-append_cases, Contains-append_left, Contains-append_right, Contains-get_or, All-get_or}
use Rattle.std.proofs.lemmas.Grind.{flat_map-append}
use Rattle.tm_circuit.specs.Plain.{Plain, Drive, input, latch, gate, drive, drive_of}
use Rattle.tm_circuit.specs.Sound.{IsSound, ReadsBelow}
use Rattle.tm_circuit.specs.declared.parts.Driver.{Driver}
use Rattle.tm_circuit.specs.declared.parts.Driver.TheVariants.{Input, Latch, Gate}
use Rattle.tm_circuit.proofs.ListLemmas.{contains-first, contains-rest, contains-cases, contains-none, contains-map, contains-unmap}
use Rattle.tm_unroll.specs.declared.node.Node.{Node}
use Rattle.tm_unroll.specs.declared.node.Lut.{Lut}
use Rattle.tm_unroll.specs.Nodes.{node_at}
use Rattle.tm_unroll.specs.Mappings.{Table, table_of}
use Rattle.tm_unroll.proofs.ListLemmas.{contains-at}
use Rattle.tm_unroll.proofs.ReadLemmas.{same_node}
use Rattle.tm_mapped.specs.Needed.{HasTablePast, IsNeeded, output, of_root, of_leaf, further, of_next, MayBeRegister}
use Rattle.tm_mapped.proofs.StandLemmas.{placed}
use Rattle.tm_net.specs.Registers.{IsSmallMapping, AreEnds, IsPast, AreLows, AreNeeded, Lowers, AreLeast}
use Rattle.tm_net.proofs.EndLemmas.{mapped-at, taken, register_before, root_end}

-- ---- nodes after a needed one

further_on : (c : Plain) (tables : List Table) (s a m : ℕ) → HasTablePast tables s (a + m) → IsNeeded c tables (node_at a s) → IsNeeded c tables (node_at (a + m) s)
further_on c tables s a zero past needed = let e : a ≡ a + 0 = omega arith in subst (λ n. IsNeeded c tables (node_at n s)) e needed
further_on c tables s a (suc m) past needed =
    let (t, stands, is, less) = past in
    let one : suc (a + m) ≡ a + suc m = omega arith in
    let before : HasTablePast tables s (a + m) = (t, stands, is, omega (arith, less)) in
    subst (λ n. IsNeeded c tables (node_at n s)) one (further s (a + m) before (further_on c tables s a m before needed))

after_by : (c : Plain) (tables : List Table) (x y : Node) (d : Drive) → IsNeeded c tables x → x.signal ≡ y.signal → x.advance ≤ y.advance
    → MayBeRegister d tables y → IsNeeded c tables y
after_by c tables x y input needed same late may = absurd may
after_by c tables x y (latch next init) needed same late may =
    subst (IsNeeded c tables) (same_node x y same (omega (arith, late, may))) needed
after_by c tables x y (gate pins cover) needed same late may =
    let m : ℕ = y.advance - x.advance in
    let whole : x.advance + m ≡ y.advance = omega (arith, late) in
    let past : HasTablePast tables x.signal (x.advance + m) =
    subst (λ n. HasTablePast tables n (x.advance + m)) (sym same) (subst (λ n. HasTablePast tables y.signal n) (sym whole) may) in
    subst (IsNeeded c tables) (same_node (node_at (x.advance + m) x.signal) y same whole) (further_on c tables x.signal x.advance m past needed)

-- What may be a register after a needed node of the same signal is needed.
pub after_needed : (c : Plain) (tables : List Table) (x y : Node) → IsNeeded c tables x → x.signal ≡ y.signal → x.advance ≤ y.advance
    → MayBeRegister (drive c y.signal) tables y → IsNeeded c tables y
after_needed c tables x y needed same late may = after_by c tables x y (drive c y.signal) needed same late may

-- ---- falling least advances

pub lowers_join : (c : Plain) (xs ys : List Node) (a b e : List ℕ) → Lowers c xs a b → Lowers c ys b e → Lowers c (xs ++ ys) a e
lowers_join c xs ys a b e first second = record {
  falls = λ s. let p = first.falls s in let q = second.falls s in omega (arith, p, q);
  reached = λ x stands. elim (Contains-append_cases xs ys x stands) [
    | inl early ↦ let p = first.reached x early in let q = second.falls x.signal in omega (arith, p, q)
    | inr late ↦ second.reached x late
  ];
  needed = λ tables all before.
      second.needed tables (λ x stands. all x (Contains-append_right xs ys x stands))
      (first.needed tables (λ x stands. all x (Contains-append_left xs ys x stands)) before);
}

-- ---- the way behind latches

-- The least advances before the turn of a node, from a first node on.
pub record IsWay (c : Plain) (first : Node) (old lows : List ℕ) (node : Node) : Type 0 where
  pub sized : length lows ≡ length c.drives
  pub latches : (q next : ℕ) (init : Bool) → q < length c.drives → drive c q ≡ latch next init → get_or lows q 0 ≤ 1
  pub closed : (q next : ℕ) (init : Bool) → q < length c.drives → drive c q ≡ latch next init → get_or lows q 0 ≡ 0
      → (get_or lows next 0 ≡ 0) ⊎ (node ≡ node_at 0 next)
  pub signal : node.signal < length c.drives
  pub falls : (s : ℕ) → get_or lows s 0 ≤ get_or old s 0
  pub stands : IsPast lows first ⊎ (node ≡ first)
  pub needed : (tables : List Table) → IsNeeded c tables first → AreNeeded c tables old → AreNeeded c tables lows × IsNeeded c tables node

lowered : (c : Plain) (first : Node) (old lows : List ℕ) → ((s : ℕ) → get_or lows s 0 ≤ get_or old s 0) → IsPast lows first
    → ((tables : List Table) → IsNeeded c tables first → AreNeeded c tables old → AreNeeded c tables lows) → Lowers c (first ∷ []) old lows
lowered c first old lows falls past needed = record {
  falls = falls;
  reached = λ x stands. elim (contains-cases first [] x stands) [ inl same ↦ subst (IsPast lows) same past | inr none ↦ absurd (contains-none x none) ];
  needed = λ tables all before. needed tables (all first (contains-first first [])) before;
}

-- The turn of a node that is before its least advance.
module _ (c : Plain) (first : Node) (old lows : List ℕ) (node : Node) (way : IsWay c first old lows node) (before : node.advance < get_or lows node.signal 0) where
  set_here : get_or (set lows node.signal node.advance) node.signal 0 ≡ node.advance
  set_here = get_or-set_same lows node.signal node.advance 0 (let sized = way.sized in let inside = way.signal in omega (arith, sized, inside))

  set_other : (s : ℕ) → s ≢ node.signal → get_or (set lows node.signal node.advance) s 0 ≡ get_or lows s 0
  set_other s other = get_or-set_other lows node.signal s node.advance 0 other

  set_falls : (s : ℕ) → get_or (set lows node.signal node.advance) s 0 ≤ get_or lows s 0
  set_falls s =
      elim (cases_eq s node.signal) [
        | inl same ↦
            let here = ap (λ n. get_or (set lows node.signal node.advance) n 0) same ∙ set_here in
            let was = ap (λ n. get_or lows n 0) same in
            omega (arith, here, was, before)
        | inr other ↦ let is = set_other s other in omega (arith, is)
      ]

  set_latches : (q next : ℕ) (init : Bool) → q < length c.drives → drive c q ≡ latch next init → get_or (set lows node.signal node.advance) q 0 ≤ 1
  set_latches q next init low is = let most = way.latches q next init low is in let less = set_falls q in omega (arith, most, less)

  -- Each other latch at advance 0 has its next there.
  set_closed : (q next : ℕ) (init : Bool) → q < length c.drives → drive c q ≡ latch next init → get_or (set lows node.signal node.advance) q 0 ≡ 0
      → (get_or (set lows node.signal node.advance) next 0 ≡ 0) ⊎ (q ≡ node.signal)
  set_closed q next init low is none =
      elim (cases_eq q node.signal) [
        | inl same ↦ inr same
        | inr other ↦
            let was : get_or lows q 0 ≡ 0 = sym (set_other q other) ∙ none in
            elim (way.closed q next init low is was) [
              | inl done ↦ let less = set_falls next in inl (omega (arith, done, less))
              | inr same ↦
                  let signal = ap (λ (n : Node). n.signal) same in
                  let now = ap (λ (n : Node). n.advance) same in
                  inl (ap (λ n. get_or (set lows node.signal node.advance) n 0) (sym signal) ∙ (set_here ∙ now))
            ]
      ]

  set_past : IsPast (set lows node.signal node.advance) first
  set_past =
      elim way.stands [
        | inl done ↦ let less = set_falls first.signal in omega (arith, done, less)
        | inr same ↦
            let here = set_here in
            let own : get_or (set lows node.signal node.advance) node.signal 0 ≤ node.advance = omega (arith, here) in
            subst (IsPast (set lows node.signal node.advance)) same own
      ]

  set_needed : (tables : List Table) → IsNeeded c tables first → AreNeeded c tables old → AreNeeded c tables (set lows node.signal node.advance)
  set_needed tables needed was =
      let (are, own) = way.needed tables needed was in
      λ x inside past may. elim (cases_eq x.signal node.signal) [
        | inl same ↦
            let here : get_or (set lows node.signal node.advance) x.signal 0 ≡ node.advance = ap (λ n. get_or (set lows node.signal node.advance) n 0) same ∙ set_here in
            after_needed c tables node x own (sym same) (omega (arith, here, past)) may
        | inr other ↦ let is = set_other x.signal other in are x inside (omega (arith, is, past)) may
      ]

  -- Behind anything but a latch there is no more to do.
  pub way_ends : ((next : ℕ) (init : Bool) → drive c node.signal ≡ latch next init → ⊥)
      → AreLows c (set lows node.signal node.advance) × Lowers c (first ∷ []) old (set lows node.signal node.advance)
  way_ends no_latch = (
    record {
      sized = length-set lows node.signal node.advance ∙ way.sized;
      latches = set_latches;
      closed = λ q next init low is none. elim (set_closed q next init low is none) [
        | inl done ↦ done
        | inr same ↦ absurd (no_latch next init (subst (λ n. drive c n ≡ latch next init) same is))
      ];
    },
    lowered c first old (set lows node.signal node.advance) (λ s. let less = set_falls s in let was = way.falls s in omega (arith, less, was)) set_past set_needed,
  )

  -- Behind a latch its next has its turn.
  pub way_on : (next : ℕ) (init : Bool) → drive c node.signal ≡ latch next init → next < length c.drives
      → IsWay c first old (set lows node.signal node.advance) (node_at 0 next)
  way_on next init is inside = record {
    sized = length-set lows node.signal node.advance ∙ way.sized;
    latches = set_latches;
    closed = λ q other i low own none. elim (set_closed q other i low own none) [
      | inl done ↦ inl done
      | inr same ↦
          let both : latch next init ≡ latch other i = sym is ∙ (ap (drive c) (sym same) ∙ own) in
          let one : next ≡ other = cc in
          inr (ap (node_at 0) one)
    ];
    signal = inside;
    falls = λ s. let less = set_falls s in let was = way.falls s in omega (arith, less, was);
    stands = inl set_past;
    needed = λ tables needed was. (
      set_needed tables needed was,
      (let own = (way.needed tables needed was).1 in
          let most = way.latches node.signal next init way.signal is in
          let now : node.advance ≡ 0 = omega (arith, most, before) in
          of_next node.signal next init is (subst (IsNeeded c tables) (same_node node (node_at 0 node.signal) refl now) own)),
    );
  }

-- The next of a latch is a signal.
pub next_inside : (c : Plain) → IsSound c → (q next : ℕ) (init : Bool) → q < length c.drives → drive c q ≡ latch next init → next < length c.drives
next_inside c sound q next init inside is =
    subst (λ (d : Drive). ReadsBelow (length c.drives) d) is (All-get_or (ReadsBelow (length c.drives)) c.drives q (latch q false) inside sound.range.reads)

-- A driver that drives as a latch is one.
pub as_latch : (d : Driver) (next : ℕ) (init : Bool) → drive_of d ≡ latch next init → d ≡ Latch next init
as_latch Input next init is = cc
as_latch (Latch n i) next init is = cc
as_latch (Gate pins cover) next init is = cc

-- ---- all nodes

ends_needed : (c : Plain) (tables : List Table) (ends : List ℕ) → AreEnds c tables ends → AreNeeded c tables ends
ends_needed c tables ends are x inside past may = let less = (register_before c tables ends are x inside).0 may in absurd (omega (arith, less, past))

-- The leaves of tables.
abbrev pub leaves_of : List Table → List Node
leaves_of tables = flat_map (λ (t : Table). t.leaves) tables

leaf_among : (tables : List Table) (t : Table) (x : Node) → Contains tables t → Contains t.leaves x → Contains (leaves_of tables) x
leaf_among [] t x stands leaf = absurd (contains-none t stands)
leaf_among (u ∷ tables) t x stands leaf =
    elim (contains-cases u tables t stands) [
      | inl same ↦ Contains-append_left u.leaves (leaves_of tables) x (subst (λ (v : Table). Contains v.leaves x) (sym same) leaf)
      | inr later ↦ Contains-append_right u.leaves (leaves_of tables) x (leaf_among tables t x later leaf)
    ]

among_leaf : (tables : List Table) (x : Node) → Contains (leaves_of tables) x → (t : Table) × Contains tables t × Contains t.leaves x
among_leaf [] x stands = absurd (contains-none x stands)
among_leaf (u ∷ tables) x stands =
    elim (Contains-append_cases u.leaves (leaves_of tables) x stands) [
      | inl early ↦ (u, contains-first u tables, early)
      | inr late ↦ let (t, among, leaf) = among_leaf tables x late in (t, contains-rest u tables t among, leaf)
    ]

-- One table more.
pub lowers_table : (c : Plain) (tables : List Table) (t : Table) (outs : List Node) (a b e : List ℕ) → Lowers c (outs ++ leaves_of tables) a b
    → Lowers c t.leaves b e → Lowers c (outs ++ leaves_of (tables ++ t ∷ [])) a e
lowers_table c tables t outs a b e first second =
    let whole : leaves_of (tables ++ t ∷ []) ≡ leaves_of tables ++ (t.leaves ++ []) = flat_map-append (λ (u : Table). u.leaves) tables (t ∷ []) in
    let same : (outs ++ leaves_of tables) ++ t.leaves ≡ outs ++ leaves_of (tables ++ t ∷ []) =
    append_assoc outs (leaves_of tables) t.leaves ∙ ap (λ xs. outs ++ xs) (ap (λ xs. leaves_of tables ++ xs) (sym (append-nil t.leaves)) ∙ sym whole) in
    subst (λ (xs : List Node). Lowers c xs a e) same (lowers_join c (outs ++ leaves_of tables) t.leaves a b e first second)

pub lowers_next : (c : Plain) (luts : List Lut) (i : ℕ) (lut : Lut) (outs : List Node) (a b e : List ℕ) → i < length luts → lut ≡ get_or luts i lut
    → Lowers c (outs ++ leaves_of (take i (map table_of luts))) a b → Lowers c lut.leaves.items b e
    → Lowers c (outs ++ leaves_of (take (i + 1) (map table_of luts))) a e
lowers_next c luts i lut outs a b e inside is first second =
    subst (λ (ts : List Table). Lowers c (outs ++ leaves_of ts) a e) (sym (taken table_of luts i lut inside is))
    (lowers_table c (take i (map table_of luts)) (table_of lut) outs a b e first second)

-- The leaves of a table are signals.
pub leaves_inside : (c : Plain) (luts : List Lut) → IsSmallMapping c (map table_of luts) → (i : ℕ) (lut : Lut) → i < length luts → lut ≡ get_or luts i lut
    → All (λ (x : Node). x.signal < length c.drives) lut.leaves.items
leaves_inside c luts small i lut inside is j e low =
    ((small.lawful.each (table_of lut) (contains-at (map table_of luts) i (table_of lut) (mapped-at table_of luts i lut inside is))).leaves.leaves
    (get_or lut.leaves.items j e) (Contains-get_or lut.leaves.items j e low)).signal

-- Where the least advances have fallen from the ends to all outputs and leaves, they tell the needed registers.
module _ (c : Plain) (tables : List Table) (ends lows : List ℕ) (sound : IsSound c) (small : IsSmallMapping c tables) (are : AreEnds c tables ends) (low : AreLows c lows)
    (lowers : Lowers c (map (λ s. node_at 0 s) c.outputs ++ leaves_of tables) ends lows)
  where
    all_reached : (x : Node) → IsNeeded c tables x → IsPast lows x
    all_reached x (output s stands) =
        lowers.reached (node_at 0 s) (Contains-append_left (map (λ o. node_at 0 o) c.outputs) (leaves_of tables) (node_at 0 s) (contains-map (λ o. node_at 0 o) c.outputs s stands))
    all_reached x (of_root t stands) =
        let end = root_end c tables ends small are t stands in
        let less = lowers.falls t.gate in
        omega (arith, end, less)
    all_reached x (of_leaf t y stands leaf) =
        lowers.reached y (Contains-append_right (map (λ o. node_at 0 o) c.outputs) (leaves_of tables) y (leaf_among tables t y stands leaf))
    all_reached x (further g advance past before) = let earlier = all_reached (node_at advance g) before in omega (arith, earlier)
    all_reached x (of_next q next init is before) =
        let inside : q < length c.drives = (placed c small.k small.d tables sound small.lawful (node_at 0 q) before).signal in
        let earlier : get_or lows q 0 ≤ 0 = all_reached (node_at 0 q) before in
        let done = low.closed q next init inside is (omega (arith, earlier)) in
        omega (arith, done)

    wanted_needed : (x : Node) → Contains (map (λ s. node_at 0 s) c.outputs ++ leaves_of tables) x → IsNeeded c tables x
    wanted_needed x stands =
        elim (Contains-append_cases (map (λ s. node_at 0 s) c.outputs) (leaves_of tables) x stands) [
          | inl early ↦ let (s, among, is) = contains-unmap (λ s. node_at 0 s) c.outputs x early in subst (IsNeeded c tables) is (output s among)
          | inr late ↦ let (t, among, leaf) = among_leaf tables x late in of_leaf t x among leaf
        ]

    pub all_least : AreLeast c tables ends lows
    all_least = record {
      chained = low;
      within = lowers.falls;
      reached = all_reached;
      needed = lowers.needed tables wanted_needed (ends_needed c tables ends are);
    }
