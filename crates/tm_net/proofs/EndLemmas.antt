-- Where the registers of a signal end.
use Rattle.std.proofs.Common.{◌≡◌, ◌≢◌, ℕ, zero, suc, ◌+◌, ◌<◌, ◌≤◌, inl, inr, true, List, [], ◌∷◌, ◌++◌, map, length, get_or, set, take, Some, slice_get, refl, sym, ◌∙◌, ap, subst, arith, length-append, length-set, get_or-set_same, get_or-set_other}
use Rattle.std.specs.Prelude.{◌↔◌, Contains, AllPairs, All}
use Rattle.std.proofs.lemmas.Bool.{cases_lt, cases_eq}
use Rattle.std.proofs.lemmas.List.{get_or_append_left, get_or_push, get_or_past}
use Rattle.std.proofs.lemmas.List.Elements.{Contains-push_cases, Contains-append_left, Contains-append_right, Contains-get_or, All-contains}
use Rattle.tm_circuit.specs.Plain.{Plain, Drive, input, latch, gate, drive, is_gate}
use Rattle.tm_circuit.specs.Chain.{IsGate}
use Rattle.tm_circuit.proofs.ListLemmas.{contains-first, contains-cases, contains-none, contains-map, contains-unmap}
use Rattle.tm_unroll.specs.declared.node.Node.{Node}
use Rattle.tm_unroll.specs.declared.node.Lut.{Lut}
use Rattle.tm_unroll.specs.Mappings.{Table, table_of}
use Rattle.tm_unroll.proofs.ListLemmas.{contains-at, pairs_first, pairs_rest}
use Rattle.tm_unroll.proofs.LeafLemmas.{one_of_gate}
use Rattle.tm_unroll.proofs.JudgeLemmas.{gate_within}
use Rattle.tm_mapped.specs.Needed.{MayBeRegister}
use Rattle.tm_mapped.proofs.StandLemmas.{at_gate}
use Rattle.tm_net.specs.Registers.{IsSmallMapping, IsEnd, AreEnds}
use Rattle.tm_net.specs.Layouts.{IsEndWithin}

-- ---- without tables

-- The ends of the first signals, so many.
pub record AreFirstEnds (c : Plain) (s : ℕ) (ends : List ℕ) : Type 0 where
  pub sized : length ends ≡ s
  pub each : (q : ℕ) → q < s → IsEnd (drive c q) [] q (get_or ends q 0)

pub no_ends : (c : Plain) → AreFirstEnds c 0 []
no_ends c = record { sized = refl; each = λ q less. absurd (omega arith) }

pub one_end_more : (c : Plain) (s : ℕ) (ends : List ℕ) (d : Drive) (end : ℕ) → AreFirstEnds c s ends → drive c s ≡ d
    → ((q : ℕ) → IsEnd d [] q end) → AreFirstEnds c (s + 1) (ends ++ end ∷ [])
one_end_more c s ends d end are is here = record {
  sized = let sized = are.sized in let long = length-append ends (end ∷ []) in omega (arith, sized, long);
  each = λ q less. elim (cases_lt q s) [
    | inl below ↦
        let sized = are.sized in
        let inside : q < length ends = omega (arith, sized, below) in
        subst (λ (e : ℕ). IsEnd (drive c q) [] q e) (sym (get_or_append_left ends (end ∷ []) 0 q inside)) (are.each q below)
    | inr high ↦
        let same : s ≡ q = omega (arith, less, high) in
        let own : drive c q ≡ d = subst (λ n. drive c n ≡ d) same is in
        subst (λ (e : ℕ). IsEnd (drive c q) [] q e) (sym (get_or_push ends end 0 q (are.sized ∙ same)))
        (subst (λ (f : Drive). IsEnd f [] q end) (sym own) (here q))
  ];
}

pub all_ends : (c : Plain) (s : ℕ) (ends : List ℕ) → AreFirstEnds c s ends → s ≡ length c.drives → AreEnds c [] ends
all_ends c s ends are all = record {
  sized = are.sized ∙ all;
  each = λ q low. are.each q (omega (arith, low, all));
}

-- ---- one table more

-- The tables before a table have lesser gates.
pub lesser_before : (tables : List Table) → AllPairs (λ (t : Table) (u : Table). t.gate < u.gate) tables → (i : ℕ) (t : Table)
    → slice_get tables i ≡ Some t → (u : Table) → Contains (take i tables) u → u.gate < t.gate
lesser_before [] ascending i t at u stands = cc
lesser_before (x ∷ tables) ascending zero t at u stands = absurd (contains-none u stands)
lesser_before (x ∷ tables) ascending (suc i) t at u stands =
    elim (contains-cases x (take i tables) u stands) [
      | inl same ↦ subst (λ (v : Table). v.gate < t.gate) same (pairs_first (λ (v : Table) (w : Table). v.gate < w.gate) x tables ascending t (contains-at tables i t at))
      | inr later ↦ lesser_before tables (pairs_rest (λ (v : Table) (w : Table). v.gate < w.gate) x tables ascending) i t at u later
    ]

-- The end of the gate of a new table.
own_end : (d : Drive) (tables : List Table) (t : Table) → is_gate d ≡ true → ((u : Table) → Contains tables u → u.gate < t.gate)
    → IsEnd d (tables ++ t ∷ []) t.gate t.lag
own_end d tables t is lesser =
    at_gate (λ e. IsEnd e (tables ++ t ∷ []) t.gate t.lag) d is (λ pins cover a. (
      λ past. elim (Contains-push_cases tables t past.0 past.1) [
        | inl early ↦ let less = lesser past.0 early in let same = past.2 in absurd (omega (arith, less, same))
        | inr own ↦ let lag = ap (λ (v : Table). v.lag) own in let less = past.3 in omega (arith, lag, less)
      ],
      λ less. (t, Contains-append_right tables (t ∷ []) t (contains-first t []), refl, less),
    ))

-- The end of any other signal.
other_end : (d : Drive) (tables : List Table) (t : Table) (s end : ℕ) → s ≢ t.gate → IsEnd d tables s end → IsEnd d (tables ++ t ∷ []) s end
other_end input tables t s end other is = is
other_end (latch next init) tables t s end other is = is
other_end (gate pins cover) tables t s end other is = λ a. (
  λ past. elim (Contains-push_cases tables t past.0 past.1) [
    | inl early ↦ (is a).0 (past.0, early, past.2, past.3)
    | inr own ↦ absurd (other (sym past.2 ∙ sym (ap (λ (v : Table). v.gate) own)))
  ],
  λ less. let past = (is a).1 less in (past.0, Contains-append_left tables (t ∷ []) past.0 past.1, past.2, past.3),
)

pub ends_more : (c : Plain) (tables : List Table) (ends : List ℕ) (t : Table) → IsGate c.drives t.gate
    → ((u : Table) → Contains tables u → u.gate < t.gate) → AreEnds c tables ends → AreEnds c (tables ++ t ∷ []) (set ends t.gate t.lag)
ends_more c tables ends t is lesser are = record {
  sized = length-set ends t.gate t.lag ∙ are.sized;
  each = λ s low. elim (cases_eq s t.gate) [
    | inl same ↦
        let inside : t.gate < length ends = let sized = are.sized in let within = gate_within c.drives t.gate is in omega (arith, sized, within) in
        subst (λ n. IsEnd (drive c n) (tables ++ t ∷ []) n (get_or (set ends t.gate t.lag) n 0)) (sym same)
        (subst (λ (e : ℕ). IsEnd (drive c t.gate) (tables ++ t ∷ []) t.gate e) (sym (get_or-set_same ends t.gate t.lag 0 inside))
        (own_end (drive c t.gate) tables t is lesser))
    | inr other ↦
        subst (λ (e : ℕ). IsEnd (drive c s) (tables ++ t ∷ []) s e) (sym (get_or-set_other ends t.gate s t.lag 0 other))
        (other_end (drive c s) tables t s (get_or ends s 0) other (are.each s low))
  ];
}

-- ---- tables in code

-- What stands in a list stands mapped at the same place.
pub mapped-at : {X Y : Type 0} (f : X → Y) (xs : List X) (i : ℕ) (x : X) → i < length xs → x ≡ get_or xs i x → slice_get (map f xs) i ≡ Some (f x)
mapped-at f [] i x inside is = absurd (omega arith)
mapped-at f (y ∷ xs) zero x inside is = ap (λ z. Some (f z)) (sym is)
mapped-at f (y ∷ xs) (suc i) x inside is = mapped-at f xs i x (omega arith) is

-- What is read at a place stands at the end of one item more.
pub taken : {X Y : Type 0} (f : X → Y) (xs : List X) (i : ℕ) (x : X) → i < length xs → x ≡ get_or xs i x
    → take (i + 1) (map f xs) ≡ take i (map f xs) ++ f x ∷ []
taken f [] i x inside is = absurd (omega arith)
taken f (y ∷ xs) zero x inside is = ap (λ z. f z ∷ []) (sym is)
taken {X} {Y} f (y ∷ xs) (suc i) x inside is =
    let more : suc i + 1 ≡ suc (i + 1) = omega arith in
    ap (λ n. take n (map f (y ∷ xs))) more ∙ ap (λ zs. f y ∷ zs) (taken f xs i x (omega arith) is)

-- What is asked of one table of a list in code.
pub record IsTableAt (c : Plain) (luts : List Lut) (i : ℕ) (lut : Lut) : Type 0 where
  pub gate : IsGate c.drives lut.gate
  pub signal : lut.gate < length c.drives
  pub near : lut.lag ≤ 8
  pub lesser : (u : Table) → Contains (take i (map table_of luts)) u → u.gate < lut.gate

pub table_at : (c : Plain) (luts : List Lut) → IsSmallMapping c (map table_of luts) → (i : ℕ) (lut : Lut) → i < length luts → lut ≡ get_or luts i lut
    → IsTableAt c luts i lut
table_at c luts small i lut inside is =
    let at = mapped-at table_of luts i lut inside is in
    let table = small.lawful.each (table_of lut) (contains-at (map table_of luts) i (table_of lut) at) in
    record {
      gate = table.gate;
      signal = gate_within c.drives lut.gate table.gate;
      near = let near = small.near in let lag = table.lag in omega (arith, near, lag);
      lesser = lesser_before (map table_of luts) small.lawful.ascending i (table_of lut) at;
    }

-- The gates of tables are signals.
pub gates_inside : (c : Plain) (luts : List Lut) → IsSmallMapping c (map table_of luts) → (i : ℕ) (e : Lut) → i < length luts → (get_or luts i e).gate < length c.drives
gates_inside c luts small i e inside =
    gate_within c.drives (get_or luts i e).gate (small.lawful.each (table_of (get_or luts i e)) (contains-map table_of luts (get_or luts i e) (Contains-get_or luts i e inside))).gate

-- Their lags are low.
pub lags_near : (c : Plain) (luts : List Lut) → IsSmallMapping c (map table_of luts) → (i : ℕ) (e : Lut) → i < length luts → (get_or luts i e).lag ≤ 8
lags_near c luts small i e inside =
    let table = small.lawful.each (table_of (get_or luts i e)) (contains-map table_of luts (get_or luts i e) (Contains-get_or luts i e inside)) in
    let lag = table.lag in
    let near = small.near in
    omega (arith, lag, near)

-- What holds of the lags in code holds of those of the tables.
pub lags_below : (luts : List Lut) (most : ℕ) → All (λ (lut : Lut). lut.lag ≤ most) luts → (t : Table) → Contains (map table_of luts) t → t.lag ≤ most
lags_below luts most low t stands =
    let (lut, among, is) = contains-unmap table_of luts t stands in
    subst (λ (u : Table). u.lag ≤ most) is (All-contains (λ (l : Lut). l.lag ≤ most) luts lut low among)

pub ends_next : (c : Plain) (luts : List Lut) → IsSmallMapping c (map table_of luts) → (i : ℕ) (lut : Lut) (ends : List ℕ) → i < length luts
    → lut ≡ get_or luts i lut → AreEnds c (take i (map table_of luts)) ends → AreEnds c (take (i + 1) (map table_of luts)) (set ends lut.gate lut.lag)
ends_next c luts small i lut ends inside is are =
    let table = table_at c luts small i lut inside is in
    subst (λ (ts : List Table). AreEnds c ts (set ends lut.gate lut.lag)) (sym (taken table_of luts i lut inside is))
    (ends_more c (take i (map table_of luts)) ends (table_of lut) table.gate table.lesser are)

-- ---- what ends tell

-- A node may be a register where it is before the end.
may_before : (d : Drive) (tables : List Table) (x : Node) (end : ℕ) → IsEnd d tables x.signal end → MayBeRegister d tables x ↔ (x.advance < end)
may_before input tables x end is = (λ never. absurd never, λ less. absurd (omega (arith, is, less)))
may_before (latch next init) tables x end is = (λ now. omega (arith, is, now), λ less. omega (arith, is, less))
may_before (gate pins cover) tables x end is = is x.advance

pub register_before : (c : Plain) (tables : List Table) (ends : List ℕ) → AreEnds c tables ends → (x : Node) → x.signal < length c.drives
    → MayBeRegister (drive c x.signal) tables x ↔ (x.advance < get_or ends x.signal 0)
register_before c tables ends are x low = may_before (drive c x.signal) tables x (get_or ends x.signal 0) (are.each x.signal low)

-- The registers of a gate end at the lag of its table.
pub root_end : (c : Plain) (tables : List Table) (ends : List ℕ) → IsSmallMapping c tables → AreEnds c tables ends → (t : Table)
    → Contains tables t → get_or ends t.gate 0 ≤ t.lag
root_end c tables ends small are t stands =
    at_gate (λ d. IsEnd d tables t.gate (get_or ends t.gate 0) → get_or ends t.gate 0 ≤ t.lag) (drive c t.gate) (small.lawful.each t stands).gate
    (λ pins cover is. elim (cases_lt t.lag (get_or ends t.gate 0)) [
      | inl less ↦
          let past = (is t.lag).1 less in
          let own = one_of_gate 0 (λ _. 0) c small.k small.d tables past.0 t small.lawful past.1 stands past.2 in
          let lag = ap (λ (v : Table). v.lag) own in
          let more = past.3 in
          absurd (omega (arith, lag, more))
      | inr high ↦ high
    ])
    (are.each t.gate (gate_within c.drives t.gate (small.lawful.each t stands).gate))

-- Where all lags are low, so are the ends.
within : (d : Drive) (tables : List Table) (s end most : ℕ) → ((t : Table) → Contains tables t → t.lag ≤ most) → IsEnd d tables s end → IsEndWithin d most end
within input tables s end most low is = is
within (latch next init) tables s end most low is = is
within (gate pins cover) tables s end most low is =
    elim (cases_lt most end) [
      | inl less ↦ let past = (is most).1 less in let lag = low past.0 past.1 in let more = past.3 in absurd (omega (arith, lag, more))
      | inr high ↦ high
    ]

pub ends_within : (c : Plain) (tables : List Table) (ends : List ℕ) (most : ℕ) → AreEnds c tables ends → ((t : Table) → Contains tables t → t.lag ≤ most)
    → (s : ℕ) → s < length c.drives → IsEndWithin (drive c s) most (get_or ends s 0)
ends_within c tables ends most are low s inside = within (drive c s) tables s (get_or ends s 0) most low (are.each s inside)

-- Any end is at most 8, past the last signal too.
pub end_near : (c : Plain) (tables : List Table) (ends : List ℕ) → IsSmallMapping c tables → AreEnds c tables ends → (s : ℕ) → get_or ends s 0 ≤ 8
end_near c tables ends small are s =
    elim (cases_lt s (length c.drives)) [
      | inl inside ↦ near (drive c s) (get_or ends s 0) (ends_within c tables ends 8 are (λ t stands. let lag = (small.lawful.each t stands).lag in let most = small.near in omega (arith, lag, most)) s inside)
      | inr past ↦ let sized = are.sized in let none = get_or_past ends s 0 (omega (arith, sized, past)) in omega (arith, none)
    ]
  where
    near : (d : Drive) (end : ℕ) → IsEndWithin d 8 end → end ≤ 8
    near input end is = omega (arith, is)
    near (latch next init) end is = omega (arith, is)
    near (gate pins cover) end is = is
