-- What the greatest lags of tables tell of them.
use Rattle.std.proofs.Common.{◌≡◌, ◌≢◌, ℕ, zero, suc, ◌+◌, ◌-◌, ◌<◌, ◌≤◌, ◌⊎◌, inl, inr, Bool, true, false, List, [], ◌∷◌, ◌++◌, map, length, get_or, set, replicate, take, is_lt, nat_cmp, Option, Some, None, refl, sym, ◌∙◌, ap, subst, arith, get_or-set_same, get_or-set_other}
use Rattle.std.specs.Prelude.{AllPairs, Contains, slice_get, slice_index_or, ◌↔◌}
use Rattle.std.specs.Bool.{Decides}
use lib.Dec.{ltb}
use Rattle.std.proofs.lemmas.Bool.{cases_lt, cases_eq, false≢true}
use Rattle.std.proofs.lemmas.Bool.Decides.{Decides-like, Decides-at, Decides-ltb, nat_tests}
use Rattle.std.proofs.lemmas.List.{take_more, map-append, length-set, length-replicate, set_past}
use Rattle.std.proofs.lemmas.List.Elements.{Contains-push, Contains-push_cases, Contains-append_left}
use Rattle.tm_circuit.specs.declared.sources.Source.TheVariants.{Input, Gate, Ring}
use Rattle.tm_circuit.specs.Plain.{Drive, latch, drive_in}
use Rattle.tm_circuit.specs.Source.{IsSource}
use Rattle.tm_circuit.proofs.ListLemmas.{contains-none}
use Rattle.tm_circuit.proofs.OneSource.{one_source}
use Rattle.tm_unroll.specs.declared.node.Node.{Node}
use Rattle.tm_unroll.specs.declared.node.Lut.{Lut}
use Rattle.tm_unroll.specs.Nodes.{IsBefore}
use Rattle.tm_unroll.specs.Mappings.{Table, table_of, IsLeaf, HasLeaves, HasTable, HasSourceTable, IsServedOf}
use Rattle.tm_unroll.specs.Lookups.{HasLag, greater_lag, AreGreatestLags, ComesAfter}
use Rattle.tm_unroll.proofs.ListLemmas.{at-read, one-at}
use Rattle.tm_unroll.proofs.JudgeLemmas.{gate_within}

-- An item of a mapped list.
pub at-mapped : {X Y : Type 0} (f : X → Y) (xs : List X) (k : ℕ) (x : X) → slice_get xs k ≡ Some x → slice_get (map f xs) k ≡ Some (f x)
at-mapped f [] k x at = cc
at-mapped f (y ∷ xs) zero x at = let e : y ≡ x = cc in ap (λ z. Some (f z)) e
at-mapped f (y ∷ xs) (suc k) x at = at-mapped f xs k x at

-- Whether a gate comes after that of the table before, by that table.
pub after_is : (luts : List Lut) (place g : ℕ) (l : Lut) (b : Bool) → place ≢ 0 → place ≤ length luts → l ≡ get_or luts (place - 1) l → Decides b (l.gate < g)
    → Decides b (ComesAfter (map table_of luts) place g)
after_is luts place g l b some within is less =
    let at : slice_get (map table_of luts) (place - 1) ≡ Some (table_of l) = at-mapped table_of luts (place - 1) l (at-read luts (place - 1) l (omega arith) (sym is)) in
    Decides-like b (λ low before t next stands.
    let same : before ≡ place - 1 = omega arith in
    let there : slice_get (map table_of luts) (place - 1) ≡ Some t = subst (λ n. slice_get (map table_of luts) n ≡ Some t) same stands in
    subst (λ (u : Table). u.gate < g) (one-at (map table_of luts) (place - 1) (table_of l) t at there) low)
    (λ after. after (place - 1) (table_of l) (omega arith) at) less

-- A greater lag has what either has.
greater_has : (o : Option ℕ) (l lag : ℕ) → HasLag (greater_lag o l) lag ↔ (HasLag o lag ⊎ (lag ≤ l))
greater_has None l lag = (λ h. inr h, λ h. elim h [ inl none ↦ absurd none | inr low ↦ low ])
greater_has (Some g) l lag =
    (λ h. elim (cases_lt g lag) [ inl above ↦ inr (omega arith) | inr low ↦ inl low ], λ h. elim h [ inl low ↦ omega arith | inr low ↦ omega arith ])

-- No table has a lag.
pub lags_none : (n : ℕ) → AreGreatestLags n [] (replicate n None)
lags_none n = record {
  sized = length-replicate n None;
  each = λ s lag inside. (λ has. absurd (nothing n s lag has), λ has. absurd (contains-none has.0 has.1));
}
  where
    nothing : (m s lag : ℕ) → ¬ HasLag (slice_index_or (replicate m None) s None) lag
    nothing zero s lag h = h
    nothing (suc m) zero lag h = h
    nothing (suc m) (suc s) lag h = nothing m s lag h

has_more : (tables : List Table) (t : Table) (s lag : ℕ) → HasTable (tables ++ t ∷ []) s lag ↔ (HasTable tables s lag ⊎ ((t.gate ≡ s) × (lag ≤ t.lag)))
has_more tables t s lag = (
  λ has. elim (Contains-push_cases tables t has.0 has.1) [
    | inl before ↦ inl (has.0, before, has.2, has.3)
    | inr is ↦ inr (subst (λ (u : Table). (u.gate ≡ s) × (lag ≤ u.lag)) (sym is) (has.2, has.3))
  ],
  λ h. elim h [
    | inl has ↦ (has.0, Contains-append_left tables (t ∷ []) has.0 has.1, has.2, has.3)
    | inr is ↦ (t, Contains-push tables t, is.0, is.1)
  ],
)

module _ (n : ℕ) (tables : List Table) (lags : List (Option ℕ)) (t : Table) (h : AreGreatestLags n tables lags) (inside : t.gate < n) where
  abbrev new : List (Option ℕ)
  new = set lags t.gate (greater_lag (slice_index_or lags t.gate None) t.lag)

  at_gate : (s lag : ℕ) → s < n → t.gate ≡ s → HasLag (slice_index_or new s None) lag ↔ HasTable (tables ++ t ∷ []) s lag
  at_gate s lag below same =
      let read : slice_index_or new s None ≡ greater_lag (slice_index_or lags s None) t.lag =
      subst (λ g. slice_index_or new g None ≡ greater_lag (slice_index_or lags g None) t.lag) same
      (get_or-set_same lags t.gate (greater_lag (slice_index_or lags t.gate None) t.lag) None (omega (arith, h.sized))) in
      let more = has_more tables t s lag in
      let has = greater_has (slice_index_or lags s None) t.lag lag in
      let each = h.each s lag below in (
        λ l. more.1 (elim (has.0 (subst (λ (o : Option ℕ). HasLag o lag) read l)) [ inl before ↦ inl (each.0 before) | inr low ↦ inr (same, low) ]),
        λ l. subst (λ (o : Option ℕ). HasLag o lag) (sym read) (has.1 (elim (more.0 l) [ inl before ↦ inl (each.1 before) | inr is ↦ inr is.1 ])),
      )

  elsewhere : (s lag : ℕ) → s < n → t.gate ≢ s → HasLag (slice_index_or new s None) lag ↔ HasTable (tables ++ t ∷ []) s lag
  elsewhere s lag below differs =
      let read : slice_index_or new s None ≡ slice_index_or lags s None = get_or-set_other lags t.gate s (greater_lag (slice_index_or lags t.gate None) t.lag) None (λ e. differs (sym e)) in
      let more = has_more tables t s lag in
      let each = h.each s lag below in (
        λ l. more.1 (inl (each.0 (subst (λ (o : Option ℕ). HasLag o lag) read l))),
        λ l. subst (λ (o : Option ℕ). HasLag o lag) (sym read) (each.1 (elim (more.0 l) [ inl before ↦ before | inr is ↦ absurd (differs is.0) ])),
      )

  -- The lags with one table more, whose gate is a signal.
  pub lags_more : AreGreatestLags n (tables ++ t ∷ []) (set lags t.gate (greater_lag (slice_index_or lags t.gate None) t.lag))
  lags_more = record {
    sized = length-set lags t.gate (greater_lag (slice_index_or lags t.gate None) t.lag) ∙ h.sized;
    each = λ s lag below. elim (cases_eq t.gate s) [ inl same ↦ at_gate s lag below same | inr differs ↦ elsewhere s lag below differs ];
  }

-- A table of no signal changes nothing.
pub lags_same : (n : ℕ) (tables : List Table) (lags : List (Option ℕ)) (t : Table) → AreGreatestLags n tables lags → n ≤ t.gate → AreGreatestLags n (tables ++ t ∷ []) lags
lags_same n tables lags t h past = record {
  sized = h.sized;
  each = λ s lag below.
      let more = has_more tables t s lag in
      let each = h.each s lag below in
      (λ l. more.1 (inl (each.0 l)), λ l. each.1 (elim (more.0 l) [ inl before ↦ before | inr is ↦ let e = is.0 in absurd (omega arith) ]));
}

-- The lags with one table more.
pub lags_add : (n : ℕ) (tables : List Table) (lags new : List (Option ℕ)) (t : Table) → AreGreatestLags n tables lags
    → new ≡ set lags t.gate (greater_lag (slice_index_or lags t.gate None) t.lag) → AreGreatestLags n (tables ++ t ∷ []) new
lags_add n tables lags new t h is =
    elim (cases_lt t.gate n) [
      | inl inside ↦ subst (λ (l : List (Option ℕ)). AreGreatestLags n (tables ++ t ∷ []) l) (sym is) (lags_more n tables lags t h inside)
      | inr past ↦
          let same : new ≡ lags = is ∙ set_past lags t.gate (greater_lag (slice_index_or lags t.gate None) t.lag) (omega (arith, h.sized)) in
          subst (λ (l : List (Option ℕ)). AreGreatestLags n (tables ++ t ∷ []) l) (sym same) (lags_same n tables lags t h past)
    ]

-- A test of two numbers by their order.
pub less_decides : (b : Bool) (m n : ℕ) → b ≡ is_lt (nat_cmp m n) → Decides b (m < n)
less_decides b m n is = Decides-at b (ltb m n) (is ∙ less m n) (Decides-ltb m n)
  where
    less : (x y : ℕ) → is_lt (nat_cmp x y) ≡ ltb x y
    less x y = grind (arith, nat_tests)

-- The tables up to a place, and one more.
pub tables_more : (luts : List Lut) (i : ℕ) (l : Lut) → i < length luts → l ≡ get_or luts i l → map table_of (take (i + 1) luts) ≡ map table_of (take i luts) ++ table_of l ∷ []
tables_more luts i l within is =
    ap (λ (ls : List Lut). map table_of ls) (take_more luts i l within ∙ ap (λ v. take i luts ++ v ∷ []) (sym is)) ∙ map-append table_of (take i luts) (l ∷ [])

-- The source of a signal is a gate, and whether it has a table.
pub source_is : (drives : List Drive) (tables : List Table) (lags : List (Option ℕ)) (s g : ℕ) (b : Bool) → IsSource drives s (Gate g) → AreGreatestLags (length drives) tables lags
    → Decides b (HasLag (slice_index_or lags g None) 0) → Decides b (HasSourceTable drives tables s 0)
source_is drives tables lags s g b source h has =
    let each = h.each g 0 (gate_within drives g source.0) in
    Decides-like b (λ (l : HasLag (slice_index_or lags g None) 0) (other : ℕ) (is : IsSource drives s (Gate other)).
    let same : Gate g ≡ Gate other = one_source drives s (Gate g) (Gate other) source is in
    let one : g ≡ other = cc in
    subst (λ u. HasTable tables u 0) one (each.0 l))
    (λ (serves : HasSourceTable drives tables s 0). each.1 (serves g source)) has

-- A signal whose source is no gate asks for no table.
pub source_input : (drives : List Drive) (tables : List Table) (s e : ℕ) → IsSource drives s (Input e) → Decides true (HasSourceTable drives tables s 0)
source_input drives tables s e source =
    (λ _ g is. let same : Input e ≡ Gate g = one_source drives s (Input e) (Gate g) source is in absurd cc, λ _. refl)

pub source_ring : (drives : List Drive) (tables : List Table) (s : ℕ) → IsSource drives s Ring → Decides true (HasSourceTable drives tables s 0)
source_ring drives tables s source =
    (λ _ g is. let same : Ring ≡ Gate g = one_source drives s Ring (Gate g) source is in absurd cc, λ _. refl)

-- What a latch asks for.
pub served_latch : (drives : List Drive) (tables : List Table) (x : Node) (next : ℕ) (init : Bool) (b : Bool) → drive_in drives x.signal ≡ latch next init
    → Decides b (HasSourceTable drives tables x.signal 0) → Decides b (IsServedOf (drive_in drives x.signal) drives tables x)
served_latch drives tables x next init b is has = subst (λ (d : Drive). Decides b (IsServedOf d drives tables x)) (sym is) has

module _ (drives : List Drive) (k : ℕ) (t : Table) (leaves : List Node) (b : Bool) (same : leaves ≡ t.leaves) where
  -- Few nodes that ascend are a table's leaves where each is a leaf.
  pub leaves_are : length leaves ≤ k → AllPairs IsBefore leaves → Decides b ((x : Node) → Contains leaves x → IsLeaf 0 drives t.lag x) → Decides b (HasLeaves 0 drives k t)
  leaves_are few pairs each =
      Decides-like b
      (λ (all : (x : Node) → Contains leaves x → IsLeaf 0 drives t.lag x). record {
        few = subst (λ (l : List Node). length l ≤ k) same few;
        ascending = subst (λ (l : List Node). AllPairs IsBefore l) same pairs;
        leaves = λ x stands. all x (subst (λ (l : List Node). Contains l x) (sym same) stands);
      })
      (λ (has : HasLeaves 0 drives k t) (x : Node) (stands : Contains leaves x). has.leaves x (subst (λ (l : List Node). Contains l x) same stands)) each

  -- Nodes that are too many or do not ascend are no table's leaves.
  pub leaves_none : b ≡ false → (length leaves ≤ k → AllPairs IsBefore leaves → ⊥) → Decides b (HasLeaves 0 drives k t)
  leaves_none not_so never = (
    λ is. absurd (false≢true (sym not_so ∙ is)),
    λ has. absurd (never (subst (λ (l : List Node). length l ≤ k) (sym same) has.few) (subst (λ (l : List Node). AllPairs IsBefore l) (sym same) has.ascending)),
  )
