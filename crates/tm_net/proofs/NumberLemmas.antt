-- The numbers of registers and of roots.
use Rattle.std.proofs.Common.{◌≡◌, ◌≢◌, ℕ, zero, suc, ◌+◌, ◌-◌, ◌*◌, ◌<◌, ◌≤◌, inl, inr, List, [], ◌∷◌, ◌++◌, map, length, get_or, set, take, Some, slice_get, sym, ◌∙◌, ap, subst, arith, length-append, length-set, get_or-set_same, get_or-set_other}
use Rattle.std.specs.Prelude.{Contains, AllPairs}
use Rattle.std.proofs.lemmas.Bool.{cases_lt}
use Rattle.std.proofs.lemmas.List.{get_or_append_left, get_or_push, get_or_default, length-map, length-take-le}
use Rattle.std.proofs.lemmas.List.FromFn.{length-map-range_with_len}
use Rattle.std.proofs.lemmas.List.Elements.{Contains-append_left, Contains-append_right}
use Rattle.std.proofs.lemmas.List.Sums.{count_by-le-length}
use Rattle.tm_circuit.specs.Plain.{Plain, is_input, input_count}
use Rattle.tm_circuit.specs.Sound.{IsSound}
use Rattle.tm_circuit.proofs.ListLemmas.{contains-first, contains-unmap}
use Rattle.tm_circuit.proofs.LayoutLemmas.{get-append-cases}
use Rattle.tm_unroll.specs.declared.node.Lut.{Lut}
use Rattle.tm_unroll.specs.Nodes.{node_at}
use Rattle.tm_unroll.specs.Mappings.{Table, table_of}
use Rattle.tm_unroll.proofs.ListLemmas.{AreApart, few_below, pairs_first, pairs_rest, contains-at}
use Rattle.tm_unroll.proofs.JudgeLemmas.{gate_within}
use Rattle.tm_net.specs.Registers.{IsSmallMapping, AreEnds, registers_at, registers_before}
use Rattle.tm_net.specs.Layouts.{AreFirsts, AreTops}
use Rattle.tm_net.proofs.EndLemmas.{mapped-at, taken, lesser_before, end_near}

-- ---- registers

pub length-registers_at : (lows ends : List ℕ) (s : ℕ) → length (registers_at lows ends s) ≡ get_or ends s 0 - get_or lows s 0
length-registers_at lows ends s = length-map-range_with_len (λ a. node_at a s) (get_or lows s 0) (get_or ends s 0 - get_or lows s 0)

-- At most 8 for each signal.
pub registers_few : (lows ends : List ℕ) → ((s : ℕ) → get_or ends s 0 ≤ 8) → (n : ℕ) → length (registers_before lows ends n) ≤ 8 * n
registers_few lows ends near zero = omega arith
registers_few lows ends near (suc n) =
    let few = registers_few lows ends near n in
    let here = length-registers_at lows ends n in
    let low = near n in
    let all = length-append (registers_before lows ends n) (registers_at lows ends n) in
    omega (arith, few, here, low, all)

-- The numbers of the first registers of the first signals, so many, and the number that comes next.
pub record AreFirstsBelow (inputs : ℕ) (lows ends : List ℕ) (s : ℕ) (firsts : List ℕ) (next : ℕ) : Type 0 where
  pub sized : length firsts ≡ s
  pub each : (q : ℕ) → q < s → get_or firsts q 0 ≡ inputs + length (registers_before lows ends q)
  pub next_is : next ≡ inputs + length (registers_before lows ends s)

each_more : (inputs : ℕ) (lows ends : List ℕ) (s : ℕ) (firsts : List ℕ) (next : ℕ) → AreFirstsBelow inputs lows ends s firsts next
    → (q : ℕ) → q ≤ s → get_or (firsts ++ next ∷ []) q 0 ≡ inputs + length (registers_before lows ends q)
each_more inputs lows ends s firsts next are q less =
    elim (cases_lt q s) [
      | inl below ↦
          let sized = are.sized in
          let inside : q < length firsts = omega (arith, sized, below) in
          get_or_append_left firsts (next ∷ []) 0 q inside ∙ are.each q below
      | inr high ↦
          let same : s ≡ q = omega (arith, less, high) in
          get_or_push firsts next 0 q (are.sized ∙ same) ∙ (are.next_is ∙ ap (λ n. inputs + length (registers_before lows ends n)) same)
    ]

pub one_first_more : (inputs : ℕ) (lows ends : List ℕ) (s : ℕ) (firsts : List ℕ) (next : ℕ) → AreFirstsBelow inputs lows ends s firsts next
    → AreFirstsBelow inputs lows ends (s + 1) (firsts ++ next ∷ []) (next + (get_or ends s 0 - get_or lows s 0))
one_first_more inputs lows ends s firsts next are = record {
  sized = let sized = are.sized in let long = length-append firsts (next ∷ []) in omega (arith, sized, long);
  each = λ q less. each_more inputs lows ends s firsts next are q (omega (arith, less));
  next_is =
      let one : suc s ≡ s + 1 = omega arith in
      let here = length-registers_at lows ends s in
      let all = length-append (registers_before lows ends s) (registers_at lows ends s) in
      let was = are.next_is in
      let sum : next + (get_or ends s 0 - get_or lows s 0) ≡ inputs + length (registers_before lows ends (suc s)) = omega (arith, here, all, was) in
      sum ∙ ap (λ n. inputs + length (registers_before lows ends n)) one;
}

-- The same over lists that are read.
pub firsts_over : (i inputs n : ℕ) (a b lows ends firsts : List ℕ) → AreFirsts i a b (length a) firsts → i ≡ inputs → a ≡ lows → b ≡ ends → length lows ≡ n
    → AreFirsts inputs lows ends n firsts
firsts_over i inputs n a b lows ends firsts are same_inputs same_lows same_ends sized =
    subst (λ m. AreFirsts inputs lows ends m firsts) sized
    (subst (λ (ls : List ℕ). AreFirsts inputs ls ends (length ls) firsts) same_lows
    (subst (λ (es : List ℕ). AreFirsts inputs a es (length a) firsts) same_ends
    (subst (λ m. AreFirsts m a b (length a) firsts) same_inputs are)))

-- The number after all registers, as it is read.
pub after_registers : (inputs : ℕ) (lows ends : List ℕ) (n : ℕ) (firsts : List ℕ) (place number : ℕ) → AreFirsts inputs lows ends n firsts → place ≡ n
    → number ≡ get_or firsts place number → number ≡ inputs + length (registers_before lows ends n)
after_registers inputs lows ends n firsts place number are same read =
    let sized = are.sized in
    let inside : place < length firsts = omega (arith, sized, same) in
    read ∙ (get_or_default firsts place number 0 inside ∙ (ap (λ i. get_or firsts i 0) same ∙ are.each n (omega arith)))

-- The next number stays low.
pub next_low : (inputs : ℕ) (lows ends : List ℕ) (s n : ℕ) (firsts : List ℕ) (next : ℕ) → AreFirstsBelow inputs lows ends s firsts next
    → ((q : ℕ) → get_or ends q 0 ≤ 8) → s < n → next + 8 ≤ inputs + 8 * n
next_low inputs lows ends s n firsts next are near less =
    let few = registers_few lows ends near s in
    let is = are.next_is in
    omega (arith, few, is, less)

-- ---- roots

-- Each of the first signals, so many, has its own number.
pub record AreOwn (s : ℕ) (tops : List ℕ) : Type 0 where
  pub sized : length tops ≡ s
  pub each : (q : ℕ) → q < s → get_or tops q 0 ≡ q

-- One table more.
tops_more : (tables : List Table) (first signals : ℕ) (tops : List ℕ) (t : Table) → t.gate < signals → ((u : Table) → Contains tables u → u.gate < t.gate)
    → AreTops tables first signals tops → AreTops (tables ++ t ∷ []) first signals (set tops t.gate (first + length tables))
tops_more tables first signals tops t inside lesser are = record {
  sized = length-set tops t.gate (first + length tables) ∙ are.sized;
  own = λ s low none.
      let other : s ≢ t.gate = λ same. none t (Contains-append_right tables (t ∷ []) t (contains-first t [])) (sym same) in
      get_or-set_other tops t.gate s (first + length tables) 0 other ∙ are.own s low (λ u stands. none u (Contains-append_left tables (t ∷ []) u stands));
  roots = λ i u at. elim (get-append-cases tables (t ∷ []) i u at) [
    | inl early ↦
        let less = lesser u (contains-at tables i u early) in
        let other : u.gate ≢ t.gate = omega (arith, less) in
        get_or-set_other tops t.gate u.gate (first + length tables) 0 other ∙ are.roots i u early
    | inr (j, is, late) ↦ last i j u is late
  ];
}
  where
    last : (i j : ℕ) (u : Table) → i ≡ length tables + j → slice_get (t ∷ []) j ≡ Some u → get_or (set tops t.gate (first + length tables)) u.gate 0 ≡ first + i
    last i zero u is at =
        let same : t ≡ u = cc in
        let gate = ap (λ (v : Table). v.gate) same in
        let within : t.gate < length tops = let sized = are.sized in omega (arith, sized, inside) in
        ap (λ n. get_or (set tops t.gate (first + length tables)) n 0) (sym gate)
        ∙ (get_or-set_same tops t.gate (first + length tables) 0 within ∙ omega (arith, is))
    last i (suc j) u is at = cc

pub tops_next : (luts : List Lut) (first signals i : ℕ) (lut : Lut) (tops : List ℕ) → AllPairs (λ (t : Table) (u : Table). t.gate < u.gate) (map table_of luts)
    → i < length luts → lut ≡ get_or luts i lut → lut.gate < signals → AreTops (take i (map table_of luts)) first signals tops
    → AreTops (take (i + 1) (map table_of luts)) first signals (set tops lut.gate (first + i))
tops_next luts first signals i lut tops ascending inside is low are =
    let at = mapped-at table_of luts i lut inside is in
    let long : length (take i (map table_of luts)) ≡ i = length-take-le i (map table_of luts) (let all = length-map luts table_of in omega (arith, all, inside)) in
    subst (λ (ts : List Table). AreTops ts first signals (set tops lut.gate (first + i))) (sym (taken table_of luts i lut inside is))
    (subst (λ n. AreTops (take i (map table_of luts) ++ table_of lut ∷ []) first signals (set tops lut.gate (first + n))) long
    (tops_more (take i (map table_of luts)) first signals tops (table_of lut) low (lesser_before (map table_of luts) ascending i (table_of lut) at) are))

-- ---- how many they are

-- Tables have distinct gates, so there are no more tables than signals.
gates_apart : (tables : List Table) → AllPairs (λ (t : Table) (u : Table). t.gate < u.gate) tables → AreApart (map (λ (t : Table). t.gate) tables)
gates_apart [] ascending = tt
gates_apart (t ∷ tables) ascending = (
  λ stands.
      let (u, among, same) = contains-unmap (λ (v : Table). v.gate) tables t.gate stands in
      let less = pairs_first (λ (v : Table) (w : Table). v.gate < w.gate) t tables ascending u among in
      omega (arith, less, same),
  gates_apart tables (pairs_rest (λ (v : Table) (w : Table). v.gate < w.gate) t tables ascending),
)

pub tables_few : (c : Plain) (tables : List Table) → IsSmallMapping c tables → length tables ≤ length c.drives
tables_few c tables small =
    let few = few_below (map (λ (t : Table). t.gate) tables) (length c.drives) (gates_apart tables small.lawful.ascending) (λ g stands.
    let (t, among, is) = contains-unmap (λ (v : Table). v.gate) tables g stands in
    let low = gate_within c.drives t.gate (small.lawful.each t among).gate in
    omega (arith, low, is)) in
    let long = length-map tables (λ (t : Table). t.gate) in
    omega (arith, few, long)

-- The numbers of a layout are low.
pub record AreLowNumbers (c : Plain) (tables : List Table) (lows ends : List ℕ) : Type 0 where
  pub inputs : input_count c.drives ≤ 900000
  pub signals : length c.drives ≤ 900000
  pub roots : length tables ≤ 900000
  pub registers : (s : ℕ) → s ≤ length c.drives → length (registers_before lows ends s) ≤ 7200000

pub low_numbers : (c : Plain) (tables : List Table) (lows ends : List ℕ) → IsSound c → IsSmallMapping c tables → AreEnds c tables ends → AreLowNumbers c tables lows ends
low_numbers c tables lows ends sound small are =
    let few = sound.few in
    record {
      inputs = let all = count_by-le-length is_input c.drives in omega (arith, few, all);
      signals = few;
      roots = let all = tables_few c tables small in omega (arith, few, all);
      registers = λ s low. let all = registers_few lows ends (end_near c tables ends small are) s in omega (arith, few, all, low);
    }
