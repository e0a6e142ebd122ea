-- Where the registers and the other nodes of a layout stand.
use Rattle.std.proofs.Common.{◌≡◌, ◌≢◌, ℕ, zero, suc, ◌+◌, ◌-◌, ◌<◌, ◌≤◌, inl, inr, Bool, true, false, cond, ltb, List, [], ◌∷◌, ◌++◌, map, length, get_or, Some, slice_get, refl, sym, ◌∙◌, ap, subst, arith}
use Rattle.std.specs.Prelude.{Contains, AllPairs}
use Rattle.std.specs.List.{range_with_len}
use Rattle.std.proofs.lemmas.Bool.{cases_lt, ltb-true, ltb-false}
use Rattle.std.proofs.lemmas.List.Kept.{AllPairs-cons}
use Rattle.std.proofs.lemmas.List.Elements.{Contains-append_cases, Contains-get_or}
use Rattle.tm_circuit.specs.Plain.{Plain, Drive, input, latch, gate, drive, is_gate, input_count}
use Rattle.tm_circuit.specs.Sound.{IsSound}
use Rattle.tm_circuit.proofs.ListLemmas.{contains-first, contains-rest, contains-cases, contains-none, contains-unmap}
use Rattle.tm_unroll.specs.declared.node.Node.{Node}
use Rattle.tm_unroll.specs.Nodes.{node_at, IsBefore}
use Rattle.tm_unroll.specs.Mappings.{Table, root}
use Rattle.tm_unroll.proofs.ReadLemmas.{same_node}
use Rattle.tm_unroll.proofs.ListLemmas.{contains-at, place-of, pairs_rest, pairs_first}
use Rattle.tm_mapped.specs.Needed.{MayBeRegister, IsNeeded, IsRegister, AreRegisters, nodes_of}
use Rattle.tm_mapped.specs.Standing.{IsRoot, IsPlaceOf}
use Rattle.tm_mapped.proofs.ListLemmas.{at-left, at-right, at-count}
use Rattle.tm_mapped.proofs.NodeLemmas.{input_below, input_stands, register_stands, root_stands}
use Rattle.tm_mapped.proofs.StandLemmas.{placed, has_place}
use Rattle.tm_net.specs.declared.layout.Layout.{Layout}
use Rattle.tm_net.specs.Registers.{IsSmallMapping, IsEnd, registers_at, registers_before, IsPast}
use Rattle.tm_net.specs.Layouts.{registers_of, IsLayout, number_in}
use Rattle.tm_net.proofs.EndLemmas.{register_before, root_end}

-- ---- the list of registers

in_range : (a n x : ℕ) → Contains (range_with_len a n) x → (a ≤ x) × (x < a + n)
in_range a zero x stands = absurd (contains-none x stands)
in_range a (suc n) x stands =
    elim (contains-cases a (range_with_len (a + 1) n) x stands) [
      | inl same ↦ (omega (arith, same), omega (arith, same))
      | inr later ↦ let (low, high) = in_range (a + 1) n x later in (omega (arith, low), omega (arith, high))
    ]

-- A node at which its signal, one of the first so many, has a register.
pub record IsAmong (lows ends : List ℕ) (n : ℕ) (x : Node) : Type 0 where
  pub signal : x.signal < n
  pub past : IsPast lows x
  pub before : x.advance < get_or ends x.signal 0

among_at : (lows ends : List ℕ) (s : ℕ) (x : Node) → Contains (registers_at lows ends s) x → (x.signal ≡ s) × (get_or lows s 0 ≤ x.advance) × (x.advance < get_or ends s 0)
among_at lows ends s x stands =
    let (a, among, is) = contains-unmap (λ a. node_at a s) (range_with_len (get_or lows s 0) (get_or ends s 0 - get_or lows s 0)) x stands in
    let (low, high) = in_range (get_or lows s 0) (get_or ends s 0 - get_or lows s 0) a among in
    let signal : s ≡ x.signal = ap (λ (y : Node). y.signal) is in
    let advance : a ≡ x.advance = ap (λ (y : Node). y.advance) is in
    (sym signal, omega (arith, low, advance), omega (arith, low, high, advance))

pub among_before : (lows ends : List ℕ) (n : ℕ) (x : Node) → Contains (registers_before lows ends n) x → IsAmong lows ends n x
among_before lows ends zero x stands = absurd (contains-none x stands)
among_before lows ends (suc n) x stands =
    elim (Contains-append_cases (registers_before lows ends n) (registers_at lows ends n) x stands) [
      | inl early ↦
          let is = among_before lows ends n x early in
          let less = is.signal in
          record { signal = omega (arith, less); past = is.past; before = is.before }
      | inr here ↦
          let (signal, low, high) = among_at lows ends n x here in
          record {
            signal = omega (arith, signal);
            past = subst (λ s. get_or lows s 0 ≤ x.advance) (sym signal) low;
            before = subst (λ s. x.advance < get_or ends s 0) (sym signal) high;
          }
    ]

-- The place of a register.
pub before_place : (lows ends : List ℕ) (n s a : ℕ) → s < n → get_or lows s 0 ≤ a → a < get_or ends s 0
    → slice_get (registers_before lows ends n) (length (registers_before lows ends s) + (a - get_or lows s 0)) ≡ Some (node_at a s)
before_place lows ends zero s a less low high = absurd (omega arith)
before_place lows ends (suc n) s a less low high =
    elim (cases_lt s n) [
      | inl below ↦ at-left (registers_before lows ends n) (registers_at lows ends n) (length (registers_before lows ends s) + (a - get_or lows s 0)) (node_at a s)
          (before_place lows ends n s a below low high)
      | inr late ↦
          let same : s ≡ n = omega (arith, less, late) in
          subst (λ m. slice_get (registers_before lows ends (suc n)) (length (registers_before lows ends m) + (a - get_or lows m 0)) ≡ Some (node_at a m)) (sym same)
          (at-right (registers_before lows ends n) (registers_at lows ends n) (a - get_or lows n 0) (node_at a n)
          (here (subst (λ m. get_or lows m 0 ≤ a) same low) (subst (λ m. a < get_or ends m 0) same high)))
    ]
  where
    here : get_or lows n 0 ≤ a → a < get_or ends n 0 → slice_get (registers_at lows ends n) (a - get_or lows n 0) ≡ Some (node_at a n)
    here l h =
        let whole : get_or lows n 0 + (a - get_or lows n 0) ≡ a = omega (arith, l) in
        at-count (λ b. node_at b n) (get_or lows n 0) (get_or ends n 0 - get_or lows n 0) (a - get_or lows n 0) (omega (arith, l, h)) ∙ ap (λ b. Some (node_at b n)) whole

-- The registers ascend.
pairs_append : {X : Type 0} (R : X → X → Type 0) (xs ys : List X) → AllPairs R xs → AllPairs R ys → ((x y : X) → Contains xs x → Contains ys y → R x y)
    → AllPairs R (xs ++ ys)
pairs_append R [] ys first second cross = second
pairs_append R (x ∷ xs) ys first second cross =
    AllPairs-cons R x (xs ++ ys) (λ k d inside. with_first (get_or (xs ++ ys) k d) (Contains-get_or (xs ++ ys) k d inside))
    (pairs_append R xs ys (pairs_rest R x xs first) second (λ u v among later. cross u v (contains-rest x xs u among) later))
  where
    with_first : (y : _) → Contains (xs ++ ys) y → R x y
    with_first y stands =
        elim (Contains-append_cases xs ys y stands) [
          | inl early ↦ pairs_first R x xs first y early
          | inr late ↦ cross x y (contains-first x xs) late
        ]

rising_at : (s a n : ℕ) → AllPairs IsBefore (map (λ b. node_at b s) (range_with_len a n))
rising_at s a zero = λ i j d less inside. absurd (omega arith)
rising_at s a (suc n) =
    AllPairs-cons IsBefore (node_at a s) (map (λ b. node_at b s) (range_with_len (a + 1) n))
    (λ k d inside. later (get_or (map (λ b. node_at b s) (range_with_len (a + 1) n)) k d) (Contains-get_or (map (λ b. node_at b s) (range_with_len (a + 1) n)) k d inside))
    (rising_at s (a + 1) n)
  where
    later : (y : Node) → Contains (map (λ b. node_at b s) (range_with_len (a + 1) n)) y → IsBefore (node_at a s) y
    later y stands =
        let (b, among, is) = contains-unmap (λ b. node_at b s) (range_with_len (a + 1) n) y stands in
        let low = (in_range (a + 1) n b among).0 in
        subst (IsBefore (node_at a s)) is (inr (refl, omega (arith, low)))

pub rising_before : (lows ends : List ℕ) (n : ℕ) → AllPairs IsBefore (registers_before lows ends n)
rising_before lows ends zero = λ i j d less inside. absurd (omega arith)
rising_before lows ends (suc n) =
    pairs_append IsBefore (registers_before lows ends n) (registers_at lows ends n) (rising_before lows ends n)
    (rising_at n (get_or lows n 0) (get_or ends n 0 - get_or lows n 0))
    (λ x y early late.
    let less = (among_before lows ends n x early).signal in
    let same = (among_at lows ends n y late).0 in
    inl (omega (arith, less, same)))

-- ---- numbers

by_test : {X : Type 0} (b : Bool) (x y z : X) → (b ≡ true → x ≡ z) → (b ≡ false → y ≡ z) → cond b x y ≡ z
by_test true x y z first second = first refl
by_test false x y z first second = second refl

number_before : (layout : Layout) (x : Node) → x.advance < get_or layout.ends.items x.signal 0
    → number_in layout x ≡ get_or layout.firsts.items x.signal 0 + (x.advance - get_or layout.lows.items x.signal 0)
number_before layout x less =
    by_test (ltb x.advance (get_or layout.ends.items x.signal 0)) _ _ _ (λ before. refl)
    (λ after. let high = ltb-false x.advance (get_or layout.ends.items x.signal 0) after in absurd (omega (arith, less, high)))

number_after : (layout : Layout) (x : Node) → get_or layout.ends.items x.signal 0 ≤ x.advance → number_in layout x ≡ get_or layout.tops.items x.signal 0
number_after layout x high =
    by_test (ltb x.advance (get_or layout.ends.items x.signal 0)) _ _ _
    (λ before. let less = ltb-true x.advance (get_or layout.ends.items x.signal 0) before in absurd (omega (arith, less, high))) (λ after. refl)

module _ (c : Plain) (tables : List Table) (layout : Layout) (sound : IsSound c) (small : IsSmallMapping c tables) (is : IsLayout c tables layout) where
  before_end : (x : Node) → x.signal < length c.drives → MayBeRegister (drive c x.signal) tables x → x.advance < get_or layout.ends.items x.signal 0
  before_end x inside may = (register_before c tables layout.ends.items is.ends x inside).0 may

  signal_inside : (x : Node) → IsNeeded c tables x → x.signal < length c.drives
  signal_inside x needed = (placed c small.k small.d tables sound small.lawful x needed).signal

  register_at_place : (x : Node) → IsRegister c tables x
      → slice_get (registers_of c layout) (length (registers_before layout.lows.items layout.ends.items x.signal) + (x.advance - get_or layout.lows.items x.signal 0)) ≡ Some x
  register_at_place x register =
      let inside = signal_inside x register.needed in
      before_place layout.lows.items layout.ends.items (length c.drives) x.signal x.advance inside (is.least.reached x register.needed) (before_end x inside register.kind)
      ∙ ap Some (same_node (node_at x.advance x.signal) x refl refl)

  -- The registers of the layout are those of the mapping.
  pub registers_are : AreRegisters c tables (registers_of c layout)
  registers_are = record {
    ascending = rising_before layout.lows.items layout.ends.items (length c.drives);
    each = λ x. (
      λ stands.
          let among = among_before layout.lows.items layout.ends.items (length c.drives) x stands in
          let may = (register_before c tables layout.ends.items is.ends x among.signal).1 among.before in
          record { needed = is.least.needed x among.signal among.past may; kind = may },
      λ register. contains-at (registers_of c layout) _ x (register_at_place x register),
    );
  }

  register_number : (x : Node) → IsRegister c tables x → slice_get (nodes_of c (registers_of c layout) tables) (number_in layout x) ≡ Some x
  register_number x register =
      let inside = signal_inside x register.needed in
      let first = is.firsts.each x.signal (omega (arith, inside)) in
      let number = number_before layout x (before_end x inside register.kind) in
      let place : ℕ = length (registers_before layout.lows.items layout.ends.items x.signal) + (x.advance - get_or layout.lows.items x.signal 0) in
      let same : input_count c.drives + place ≡ number_in layout x = omega (arith, first, number) in
      subst (λ n. slice_get (nodes_of c (registers_of c layout) tables) n ≡ Some x) same
      (register_stands c (registers_of c layout) tables place x (register_at_place x register))

  input_number : (x : Node) → x.signal < length c.drives → drive c x.signal ≡ input → x.advance ≡ 0
      → slice_get (nodes_of c (registers_of c layout) tables) (number_in layout x) ≡ Some x
  input_number x inside is_input now =
      let end : get_or layout.ends.items x.signal 0 ≡ 0 = subst (λ (d : Drive). IsEnd d tables x.signal (get_or layout.ends.items x.signal 0)) is_input (is.ends.each x.signal inside) in
      let no_table : (t : Table) → Contains tables t → t.gate ≢ x.signal = λ t stands same.
      let gate_is : is_gate (drive c x.signal) ≡ true = subst (λ n. is_gate (drive c n) ≡ true) same (small.lawful.each t stands).gate in
      let none = ap is_gate is_input in cc in
      let same : x.signal ≡ number_in layout x = sym (number_after layout x (omega (arith, end)) ∙ is.tops.own x.signal inside no_table) in
      subst (λ n. slice_get (nodes_of c (registers_of c layout) tables) n ≡ Some x) same
      (input_stands c (registers_of c layout) tables x.signal (input_below c sound x.signal inside is_input) ∙ ap Some (same_node (node_at 0 x.signal) x refl (sym now)))

  root_number : (x : Node) → IsRoot tables x → slice_get (nodes_of c (registers_of c layout) tables) (number_in layout x) ≡ Some x
  root_number x (t, stands, root_is) =
      let (i, at) = place-of tables t stands in
      let end = root_end c tables layout.ends.items small is.ends t stands in
      let number : number_in layout (root t) ≡ get_or layout.tops.items t.gate 0 = number_after layout (root t) end in
      let top = is.tops.roots i t at in
      let same : input_count c.drives + (length (registers_of c layout) + i) ≡ number_in layout (root t) = omega (arith, number, top) in
      subst (λ (y : Node). slice_get (nodes_of c (registers_of c layout) tables) (number_in layout y) ≡ Some y) root_is
      (subst (λ n. slice_get (nodes_of c (registers_of c layout) tables) n ≡ Some (root t)) same (root_stands c (registers_of c layout) tables i t at))

  -- Each needed node stands at its number.
  pub number_stands : (x : Node) → IsNeeded c tables x → slice_get (nodes_of c (registers_of c layout) tables) (number_in layout x) ≡ Some x
  number_stands x needed =
      let has = has_place c small.k small.d tables sound small.lawful x needed in
      by_drive (drive c x.signal) refl has.signal has.place
    where
      by_drive : (d : Drive) → drive c x.signal ≡ d → x.signal < length c.drives → IsPlaceOf d c tables x
          → slice_get (nodes_of c (registers_of c layout) tables) (number_in layout x) ≡ Some x
      by_drive input is_input inside now = input_number x inside is_input now
      by_drive (latch next init) is_latch inside register = register_number x register
      by_drive (gate pins cover) gate_is inside (inl register) = register_number x register
      by_drive (gate pins cover) gate_is inside (inr is_root) = root_number x is_root
