-- Statements whose lines are not at fault by the rules on texts with one model are not at fault as those of a flat unit.
use Rattle.std.proofs.Common.{◌≡◌, ℕ, ◌-◌, ◌<◌, ◌≤◌, suc, zero, Bool, true, false, not, ◌||◌, ◌&&◌, nat_lt, List, [], ◌∷◌, ◌++◌, Option, None, Some, length, map, take, flat_map, filter_map, option_map, option_to_list, slice_get, bytes_eq, codes, refl, sym, ◌∙◌, ap, subst, arith}
use Rattle.std.specs.Option.{option_or}
use Rattle.std.specs.List.{AllByRecursion, list_any, cons_option}
use Rattle.std.proofs.lemmas.Bool.{ltb-false, ltb-true}
use Rattle.std.proofs.lemmas.List.{append-nil, map-append}
use Rattle.std.proofs.lemmas.List.Elements.{filter_map-append}
use Rattle.std.proofs.lemmas.Slice.Eq.{bytes_eq-Decides}
use Rattle.tm_circuit.specs.declared.parts.Edge.{Edge}
use Rattle.tm_circuit.specs.declared.parts.Edge.TheVariants.{Rise, Fall}
use Rattle.blif_unit.specs.declared.fault.BlifKind.{BlifKind}
use Rattle.blif_unit.specs.declared.unit.Control.{Control}
use Rattle.blif_unit.specs.Fault.{Faulty}
use Rattle.blif_unit.specs.Fit.{names_told}
use Rattle.blif_unit.specs.Unit as unit
use Rattle.blif_unit.specs.Unit.{Told, Telling, over, drivers_told, clocks_told, controls_named, repeats, differ}
use Rattle.blif_circuit.proofs.SignalUses.{all-both}
use Rattle.blif_lex.specs.Words.{Line}
use Rattle.blif_models.specs.declared.keyword.Keyword.{Keyword}
use Rattle.blif_models.specs.declared.keyword.Keyword.TheVariants.{Model, Inputs, Outputs, Clock, Names, Latch, End, Omitted, Unknown, Row}
use Rattle.blif_models.specs.Statement.{Block, Earlier, earlier, heads_of, keyword_in, further, word_at, last_of, but_last, over_lines, drivers_in, clocks_in, controls_in, control_in, control_named, edge_of, init_of, cover_of, same_control, differs_from_first, fault_in_blocks, told_in, telling_in}
use Rattle.blif_models.proofs.RowLemmas.{and_left, and_right}
use Rattle.blif_models.proofs.UnitLemmas.{lawful_head, heads_more}
use Rattle.blif_models.proofs.OrderlyLemmas.{IsLawful, lawful_by, block_lawful, told_names, cons_told, all_at, all_after_first, some_words, not_false, AreWords, or_left_false, or_right_false}
use Rattle.blif_read.specs.Whole.{Before, before, controls_told, same_edge, are_same_controls, is_another_control, brings_other_clock, fault_in_statement, fault_in_statements}
use Rattle.blif_read.proofs.WholeLemmas.{statements_cons}

-- ---- names

abbrev AreShort : ℕ → List (List ℕ) → Type 0
AreShort most ns = AllByRecursion (λ (n : List ℕ). length n ≤ most) ns

none_longer : (most : ℕ) (ns : List (List ℕ)) → AreShort most ns → list_any (λ n. nat_lt most (length n)) ns ≡ false
none_longer most [] short = refl
none_longer most (n ∷ ns) short = by_test (nat_lt most (length n)) refl (none_longer most ns short.1)
  where
    by_test : (t : Bool) → nat_lt most (length n) ≡ t → list_any (λ m. nat_lt most (length m)) ns ≡ false → list_any (λ m. nat_lt most (length m)) (n ∷ ns) ≡ false
    by_test true is rest = let more : most < length n = ltb-true most (length n) is in absurd (omega (arith, more, short.0))
    by_test false is rest = rw is rest

short_front : (most k : ℕ) (ns : List (List ℕ)) → AreShort most ns → AreShort most (take k ns)
short_front most zero ns short = tt
short_front most (suc k) [] short = tt
short_front most (suc k) (n ∷ ns) short = (short.0, short_front most k ns short.1)

short_control : (most : ℕ) (ws : List (List ℕ)) → AreShort most ws → AreShort most (controls_named (control_named (control_in ws)))
short_control most ws short = by_test (nat_lt 3 (length ws) && not (bytes_eq (word_at ws 3) (codes "NIL"))) refl
  where
    by_test : (t : Bool) → (nat_lt 3 (length ws) && not (bytes_eq (word_at ws 3) (codes "NIL"))) ≡ t → AreShort most (controls_named (control_named (control_in ws)))
    by_test true is =
        let four : 3 < length ws = ltb-true 3 (length ws) (and_left _ _ is) in
        rw is (all_at (λ (n : List ℕ). length n ≤ most) ws 3 [] short four, tt)
    by_test false is = rw is tt

-- ---- clocks

-- What the rules ask of the statements before one is what they ask of the lines of those statements.
record AreSame (e : Earlier) (d : Before) : Type 0 where
  pub drivers : d.drivers ≡ e.drivers
  pub clock : d.clock ≡ e.clock
  pub control : d.control ≡ option_map control_named e.control

-- the words of a control
abbrev Words : Type 0
Words = Option (List ℕ × List ℕ)

one_clock : (clock : Option (List ℕ)) → differ (option_to_list clock ++ []) ≡ false
one_clock None = refl
one_clock (Some n) = refl

same_edges : (edge : Edge) → same_edge edge edge ≡ true
same_edges Rise = refl
same_edges Fall = refl

same_words : (a b : Words) → same_control a b ≡ true → are_same_controls (control_named a) (control_named b) ≡ true
same_words None None h = refl
same_words None (Some b) h = cc
same_words (Some a) None h = cc
same_words (Some a) (Some b) h =
    let kind : a.0 ≡ b.0 = (bytes_eq-Decides a.0 b.0).0 (and_left _ _ h) in
    let name : bytes_eq a.1 b.1 ≡ true = and_right _ _ h in
    let edge : same_edge (edge_of a.0) (edge_of b.0) ≡ true = ap (λ (w : List ℕ). same_edge (edge_of a.0) (edge_of w)) (sym kind) ∙ same_edges (edge_of a.0) in
    rw (edge, name) refl

same_as_first : (first : Option Words) (words : Words) → differs_from_first first words ≡ false
    → is_another_control (option_map control_named first) (control_named words) ≡ false
same_as_first None words h = refl
same_as_first (Some a) words h = ap not (same_words a words (not_false _ h))

clock_named : (words : Words) → controls_named (control_named words) ≡ option_to_list (option_map (λ control. control.1) words)
clock_named None = refl
clock_named (Some words) = refl

-- no second clock by a latch
latch_clock : (e : Earlier) (d : Before) (words : Words) → AreSame e d
    → (differ (option_to_list e.clock ++ option_to_list (option_map (λ control. control.1) words)) || differs_from_first e.control words) ≡ false
    → (differ (option_to_list d.clock ++ controls_named (control_named words)) || list_any (is_another_control d.control) (control_named words ∷ [])) ≡ false
latch_clock e d words same h =
    let names : differ (option_to_list d.clock ++ controls_named (control_named words)) ≡ false
    = ap (λ (c : Option (List ℕ)). differ (option_to_list c ++ controls_named (control_named words))) same.clock
    ∙ ap (λ (ns : List (List ℕ)). differ (option_to_list e.clock ++ ns)) (clock_named words) ∙ or_left_false _ _ h in
    let first : is_another_control d.control (control_named words) ≡ false
    = ap (λ (c : Option (Option Control)). is_another_control c (control_named words)) same.control ∙ same_as_first e.control words (or_right_false _ _ h) in
    rw (names, first) refl

-- ---- one statement

lawful_statement : (most : ℕ) (d : Before) (w : Told) → AreShort most (names_told w) → repeats d.drivers (drivers_told w) ≡ false → brings_other_clock d w ≡ false
    → fault_in_statement most d w ≡ None
lawful_statement most d w short new one = let few = none_longer most (names_told w) short in rw (few, new, one) refl

-- What a line says, if it says something, is not at fault.
abbrev IsToldLawful : ℕ → Before → Option Told → Type 0
IsToldLawful most d None = Unit {0}
IsToldLawful most d (Some w) = fault_in_statement most d w ≡ None

lawful_told : (most : ℕ) (k : Keyword) (ws : List (List ℕ)) (rows : List Line) (e : Earlier) (d : Before) → AreSame e d → IsLawful k e ws → AreShort most ws
    → IsToldLawful most d (told_in k ws rows)
lawful_told most Inputs ws rows e d same l short =
    let names : (ws ++ []) ++ [] ≡ ws = append-nil (ws ++ []) ∙ append-nil ws in
    let one : brings_other_clock d (unit.inputs ws) ≡ false = (let clock = one_clock d.clock in rw clock refl) in
    lawful_statement most d (unit.inputs ws) short
    (ap (λ (ns : List (List ℕ)). repeats d.drivers ns) names ∙ ap (λ (ds : List (List ℕ)). repeats ds ws) same.drivers ∙ l.drivers) one
lawful_told most Outputs ws rows e d same l short =
    let one : brings_other_clock d (unit.outputs ws) ≡ false = (let clock = one_clock d.clock in rw clock refl) in
    lawful_statement most d (unit.outputs ws) short refl one
lawful_told most Clock ws rows e d same l short =
    let clock : differ (option_to_list d.clock ++ ws) ≡ false
    = ap (λ (c : Option (List ℕ)). differ (option_to_list c ++ ws)) same.clock ∙ l.clocks in
    lawful_statement most d (unit.clock ws) short refl (rw clock refl)
lawful_told most Names ws rows e d same l short =
    let name : length (last_of ws) ≤ most = all_at (λ (n : List ℕ). length n ≤ most) ws (length ws - 1) [] short (some_words ws l.count) in
    let one : brings_other_clock d (unit.gate (but_last ws) (last_of ws) (cover_of rows)) ≡ false = (let clock = one_clock d.clock in rw clock refl) in
    lawful_statement most d (unit.gate (but_last ws) (last_of ws) (cover_of rows))
    (all-both (λ (n : List ℕ). length n ≤ most) (but_last ws) (last_of ws ∷ []) (short_front most (length ws - 1) ws short) (name, tt))
    (ap (λ (ds : List (List ℕ)). repeats ds (last_of ws ∷ [])) same.drivers ∙ l.drivers) one
lawful_told most Latch ws rows e d same l short =
    let two : 2 ≤ length ws = ltb-false (length ws) 2 (or_left_false _ _ l.count) in
    let P : List ℕ → Type 0 = λ n. length n ≤ most in
    lawful_statement most d (unit.latch (word_at ws 0) (word_at ws 1) (init_of ws) (control_named (control_in ws)))
    (all_at P ws 0 [] short (omega arith), (all_at P ws 1 [] short (omega arith), short_control most ws short))
    (ap (λ (ds : List (List ℕ)). repeats ds (word_at ws 1 ∷ [])) same.drivers ∙ l.drivers)
    (latch_clock e d (control_in ws) same l.clocks)
lawful_told most Model ws rows e d same l short = tt
lawful_told most End ws rows e d same l short = tt
lawful_told most Omitted ws rows e d same l short = tt
lawful_told most Unknown ws rows e d same l short = tt
lawful_told most Row ws rows e d same l short = tt

-- ---- the statements before one

told_drivers : (k : Keyword) (ws : List (List ℕ)) (rows : List Line) → told_names drivers_told (told_in k ws rows) ≡ drivers_in k ws
told_drivers Inputs ws rows = append-nil (ws ++ []) ∙ append-nil ws
told_drivers Outputs ws rows = refl
told_drivers Clock ws rows = refl
told_drivers Names ws rows = refl
told_drivers Latch ws rows = refl
told_drivers Model ws rows = refl
told_drivers End ws rows = refl
told_drivers Omitted ws rows = refl
told_drivers Unknown ws rows = refl
told_drivers Row ws rows = refl

told_clocks : (k : Keyword) (ws : List (List ℕ)) (rows : List Line) → told_names clocks_told (told_in k ws rows) ≡ clocks_in k ws
told_clocks Inputs ws rows = refl
told_clocks Outputs ws rows = refl
told_clocks Clock ws rows = refl
told_clocks Names ws rows = refl
told_clocks Latch ws rows = clock_named (control_in ws)
told_clocks Model ws rows = refl
told_clocks End ws rows = refl
told_clocks Omitted ws rows = refl
told_clocks Unknown ws rows = refl
told_clocks Row ws rows = refl

over_told : (f : Told → List (List ℕ)) (g : Keyword → List (List ℕ) → List (List ℕ))
    → ((k : Keyword) (ws : List (List ℕ)) (rows : List Line) → told_names f (told_in k ws rows) ≡ g k ws)
    → (blocks : List Block) → over f (filter_map telling_in blocks) ≡ over_lines g (heads_of blocks)
over_told f g same [] = refl
over_told f g same (b ∷ blocks) =
    cons_told f b.head.number (told_in (keyword_in b.head) (further b.head) b.rows) (filter_map telling_in blocks)
    ∙ ap (λ ns. ns ++ over f (filter_map telling_in blocks)) (same (keyword_in b.head) (further b.head) b.rows)
    ∙ ap (λ ns. g (keyword_in b.head) (further b.head) ++ ns) (over_told f g same blocks)

abbrev told_controls : Option Told → List (Option Control)
told_controls None = []
told_controls (Some w) = controls_told w

controls_are : (k : Keyword) (ws : List (List ℕ)) (rows : List Line) → told_controls (told_in k ws rows) ≡ map control_named (controls_in k ws)
controls_are Inputs ws rows = refl
controls_are Outputs ws rows = refl
controls_are Clock ws rows = refl
controls_are Names ws rows = refl
controls_are Latch ws rows = refl
controls_are Model ws rows = refl
controls_are End ws rows = refl
controls_are Omitted ws rows = refl
controls_are Unknown ws rows = refl
controls_are Row ws rows = refl

cons_controls : (line : ℕ) (o : Option Told) (rest : List Telling)
    → flat_map (λ (t : Telling). controls_told t.what) (cons_option (option_map (λ told. record { line = line; what = told }) o) rest)
    ≡ told_controls o ++ flat_map (λ (t : Telling). controls_told t.what) rest
cons_controls line None rest = refl
cons_controls line (Some w) rest = refl

over_controls : (blocks : List Block)
    → flat_map (λ (t : Telling). controls_told t.what) (filter_map telling_in blocks) ≡ map control_named (over_lines controls_in (heads_of blocks))
over_controls [] = refl
over_controls (b ∷ blocks) =
    let rest : List (Option Control) = flat_map (λ (t : Telling). controls_told t.what) (filter_map telling_in blocks) in
    let here : List Words = controls_in (keyword_in b.head) (further b.head) in
    cons_controls b.head.number (told_in (keyword_in b.head) (further b.head) b.rows) (filter_map telling_in blocks)
    ∙ ap (λ (cs : List (Option Control)). cs ++ rest) (controls_are (keyword_in b.head) (further b.head) b.rows)
    ∙ ap (λ (cs : List (Option Control)). map control_named here ++ cs) (over_controls blocks)
    ∙ sym (map-append control_named here (over_lines controls_in (heads_of blocks)))

first_mapped : {X Y : Type 0} (f : X → Y) (xs : List X) → slice_get (map f xs) 0 ≡ option_map f (slice_get xs 0)
first_mapped f [] = refl
first_mapped f (x ∷ xs) = refl

same_before : (blocks : List Block) → AreSame (earlier (heads_of blocks)) (before (filter_map telling_in blocks))
same_before blocks = record {
  drivers = over_told drivers_told drivers_in told_drivers blocks;
  clock = ap (λ (ns : List (List ℕ)). slice_get ns 0) (over_told clocks_told clocks_in told_clocks blocks);
  control = ap (λ (cs : List (Option Control)). slice_get cs 0) (over_controls blocks) ∙ first_mapped control_named (over_lines controls_in (heads_of blocks));
}

-- ---- all statements

more_told : (done : List Telling) (line most : ℕ) (o : Option Told) (rest : List Telling) → IsToldLawful most (before done) o
    → fault_in_statements most (done ++ cons_option (option_map (λ told. record { line = line; what = told }) o) []) rest ≡ None
    → fault_in_statements most done (cons_option (option_map (λ told. record { line = line; what = told }) o) rest) ≡ None
more_told done line most None rest lawful h = subst (λ (ts : List Telling). fault_in_statements most ts rest ≡ None) (append-nil done) h
more_told done line most (Some w) rest lawful h =
    let t : Telling = record { line = line; what = w } in
    let at : BlifKind → Faulty = λ kind. (line, kind) in
    statements_cons most done t rest
    ∙ ap (λ (o : Option BlifKind). option_or (option_map at o) (fault_in_statements most (done ++ t ∷ []) rest)) lawful ∙ h

-- `done` are the statements before these.
statements_from : (most : ℕ) (done blocks : List Block) → fault_in_blocks (heads_of done) blocks ≡ None → AreWords (λ (n : List ℕ). length n ≤ most) (heads_of blocks)
    → fault_in_statements most (filter_map telling_in done) (filter_map telling_in blocks) ≡ None
unfolding fault_in_statements
statements_from most done [] lawful short = refl
statements_from most done (b ∷ blocks) lawful short =
    let both = block_lawful (heads_of done) b blocks lawful in
    let o : Option Told = told_in (keyword_in b.head) (further b.head) b.rows in
    let l = lawful_by (keyword_in b.head) (earlier (heads_of done)) (further b.head) (lawful_head (earlier (heads_of done)) b both.0) in
    let here : IsToldLawful most (before (filter_map telling_in done)) o
    = lawful_told most (keyword_in b.head) (further b.head) b.rows (earlier (heads_of done)) (before (filter_map telling_in done)) (same_before done) l
    (all_after_first (λ (n : List ℕ). length n ≤ most) b.head.words short.0) in
    let next : fault_in_blocks (heads_of (done ++ b ∷ [])) blocks ≡ None
    = subst (λ (ls : List Line). fault_in_blocks ls blocks ≡ None) (sym (heads_more done b)) both.1 in
    let rest : fault_in_statements most (filter_map telling_in (done ++ b ∷ [])) (filter_map telling_in blocks) ≡ None
    = statements_from most (done ++ b ∷ []) blocks next short.1 in
    more_told (filter_map telling_in done) b.head.number most o (filter_map telling_in blocks) here
    (subst (λ (ts : List Telling). fault_in_statements most ts (filter_map telling_in blocks) ≡ None) (filter_map-append telling_in done (b ∷ [])) rest)

-- The statements of lawful lines are not at fault.
pub lawful_statements : (most : ℕ) (blocks : List Block) → fault_in_blocks [] blocks ≡ None → AreWords (λ (n : List ℕ). length n ≤ most) (heads_of blocks)
    → fault_in_statements most [] (filter_map telling_in blocks) ≡ None
lawful_statements most blocks lawful short = statements_from most [] blocks lawful short
