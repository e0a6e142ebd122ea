-- What the rules on lines leave of a model.
use Rattle.std.proofs.Common.{◌≡◌, ℕ, ◌-◌, ◌<◌, ◌≤◌, ◌==◌, suc, zero, Bool, true, false, not, ◌||◌, ◌&&◌, nat_lt, List, [], ◌∷◌, ◌++◌, Option, None, Some, length, map, drop, flat_map, filter_map, option_map, option_to_list, slice_get, slice_index_or, refl, sym, ◌∙◌, ap, subst, arith, append_assoc, if◌then◌else◌, codes, bytes_eq, lit≤, lit<}
use Rattle.std.specs.Option.{option_or}
use Rattle.std.specs.List.{list_any, list_all, cons_option, AllByRecursion}
use Rattle.std.proofs.lemmas.Bool.{eqb-true, ltb-false, ltb-true}
use Rattle.std.proofs.lemmas.List.{append-nil}
use Rattle.std.proofs.lemmas.List.Folds.{list_any-append, list_all-append}
use Rattle.std.proofs.lemmas.List.Elements.{All-from_recursion}
use Rattle.std.proofs.lemmas.Slice.Eq.{bytes_eq-Decides}
use Rattle.tm_circuit.specs.Sound.{IsName, IsNameByte}
use Rattle.blif_lex.specs.Words.{Line}
use Rattle.blif_unit.specs.declared.fault.BlifKind.TheVariants.{UnknownWord, LeftOut, Misplaced, BadCount, TooManyPins, RepeatedDriver, RepeatedOutput, BadRow, BadType, BadInit, UnknownInit, ManyClocks}
use Rattle.blif_models.specs.declared.keyword.Keyword.{Keyword}
use Rattle.blif_models.specs.declared.keyword.Keyword.TheVariants.{Model, Inputs, Outputs, Clock, Names, Latch, End, Omitted, Unknown, Row}
use Rattle.blif_unit.specs.Unit as told
use Rattle.blif_unit.specs.Unit.{Told, Telling, IsOrderly, IsShaped, AreDistinct, AreSame, over, drivers_told, outputs_told, clocks_told}
use Rattle.blif_models.specs.Lines.{AreNamed, model_in, name_among}
use Rattle.blif_models.specs.Statement.{Block, Earlier, earlier, is_row, is_model, blocks_of, heads_of, keyword_in, further, word_at, over_lines, drivers_in, outputs_in, clocks_in, control_in, control_named, is_unknown, is_left_out, is_misplaced, has_bad_count, has_too_many_pins, repeats, differ, has_many_clocks, has_bad_type, has_bad_init, has_unknown_init, is_row_of, is_on, places_of, fault_in_row, fault_in_rows, fault_in_head, fault_after_head, fault_in_block, fault_in_blocks, fault_of_lines, at_line, told_in, telling_in, cover_of, init_of}
use Rattle.blif_models.proofs.BlockLemmas.{before_last}
use Rattle.blif_models.proofs.RowLemmas.{and_left, and_right, places-width, rows-cons}
use Rattle.blif_models.proofs.UnitLemmas.{or_none, mapped_none, blocks_cons, lawful_head, over_more}

-- ---- tests

pub no_fault : {X : Type 0} (t : Bool) (x : X) (rest : Option X) → (if t then Some x else rest) ≡ None → (t ≡ false) × (rest ≡ None)
no_fault true x rest h = cc
no_fault false x rest h = (refl, h)

pub or_left_false : (a b : Bool) → (a || b) ≡ false → a ≡ false
or_left_false true b h = h
or_left_false false b h = refl

pub or_right_false : (a b : Bool) → (a || b) ≡ false → b ≡ false
or_right_false true b h = cc
or_right_false false b h = h

pub or_second_none : {X : Type 0} (a b : Option X) → option_or a b ≡ None → b ≡ None
or_second_none None b h = h
or_second_none (Some x) b h = cc

-- A statement's line breaks no rule.
pub record IsLawful (k : Keyword) (before : Earlier) (ws : List (List ℕ)) : Type 0 where
  pub count : has_bad_count k ws ≡ false
  pub pins : has_too_many_pins k ws ≡ false
  pub drivers : repeats before.drivers (drivers_in k ws) ≡ false
  pub outputs : repeats before.outputs (outputs_in k ws) ≡ false
  pub clocks : has_many_clocks k before ws ≡ false

pub lawful_by : (k : Keyword) (before : Earlier) (ws : List (List ℕ)) → fault_in_head k before ws ≡ None → IsLawful k before ws
unfolding fault_in_head
lawful_by k before ws h =
    let a = no_fault (is_unknown k) UnknownWord _ h in
    let b = no_fault (is_left_out k before) LeftOut _ a.1 in
    let c = no_fault (is_misplaced k before) Misplaced _ b.1 in
    let d = no_fault (has_bad_count k ws) BadCount _ c.1 in
    let e = no_fault (has_too_many_pins k ws) TooManyPins _ d.1 in
    let f = no_fault (repeats before.drivers (drivers_in k ws)) RepeatedDriver _ e.1 in
    let g = no_fault (repeats before.outputs (outputs_in k ws)) RepeatedOutput _ f.1 in
    let i = no_fault (has_bad_type k ws) BadType _ g.1 in
    let j = no_fault (has_bad_init k ws) BadInit _ i.1 in
    let l = no_fault (has_unknown_init k ws) UnknownInit _ j.1 in
    let m = no_fault (has_many_clocks k before ws) ManyClocks _ l.1 in
    record { count = d.0; pins = e.0; drivers = f.0; outputs = g.0; clocks = m.0 }

-- ---- names of statements are those of lines

abbrev pub told_names : (Told → List (List ℕ)) → Option Told → List (List ℕ)
told_names f None = []
told_names f (Some told) = f told

pub cons_told : (f : Told → List (List ℕ)) (line : ℕ) (o : Option Told) (rest : List Telling)
    → over f (cons_option (option_map (λ told. record { line = line; what = told }) o) rest) ≡ told_names f o ++ over f rest
cons_told f line None rest = refl
cons_told f line (Some told) rest = refl

over_told : (f : Told → List (List ℕ)) (g : Keyword → List (List ℕ) → List (List ℕ))
    → ((k : Keyword) (ws : List (List ℕ)) (rows : List Line) → told_names f (told_in k ws rows) ≡ g k ws)
    → (blocks : List Block) → over f (filter_map telling_in blocks) ≡ over_lines g (heads_of blocks)
over_told f g same [] = refl
over_told f g same (b ∷ blocks) =
    cons_told f b.head.number (told_in (keyword_in b.head) (further b.head) b.rows) (filter_map telling_in blocks)
    ∙ ap (λ ns. ns ++ over f (filter_map telling_in blocks)) (same (keyword_in b.head) (further b.head) b.rows)
    ∙ ap (λ ns. g (keyword_in b.head) (further b.head) ++ ns) (over_told f g same blocks)

told_drivers : (k : Keyword) (ws : List (List ℕ)) (rows : List Line) → told_names drivers_told (told_in k ws rows) ≡ drivers_in k ws
told_drivers Inputs ws rows = append-nil (ws ++ []) ∙ append-nil ws
told_drivers Outputs ws rows = refl
told_drivers Clock ws rows = refl
told_drivers Names ws rows = refl
told_drivers Latch ws rows = refl
told_drivers Model ws rows = refl
told_drivers End ws rows = refl
told_drivers Omitted ws rows = refl
told_drivers Unknown ws rows = refl
told_drivers Row ws rows = refl

pub told_outputs : (k : Keyword) (ws : List (List ℕ)) (rows : List Line) → told_names outputs_told (told_in k ws rows) ≡ outputs_in k ws
told_outputs Inputs ws rows = refl
told_outputs Outputs ws rows = refl
told_outputs Clock ws rows = refl
told_outputs Names ws rows = refl
told_outputs Latch ws rows = refl
told_outputs Model ws rows = refl
told_outputs End ws rows = refl
told_outputs Omitted ws rows = refl
told_outputs Unknown ws rows = refl
told_outputs Row ws rows = refl

latch_clocks : (next name : List ℕ) (init : Bool) (words : Option (List ℕ × List ℕ))
    → clocks_told (told.latch next name init (control_named words)) ≡ option_to_list (option_map (λ control. control.1) words)
latch_clocks next name init None = refl
latch_clocks next name init (Some words) = refl

told_clocks : (k : Keyword) (ws : List (List ℕ)) (rows : List Line) → told_names clocks_told (told_in k ws rows) ≡ clocks_in k ws
told_clocks Inputs ws rows = refl
told_clocks Outputs ws rows = refl
told_clocks Clock ws rows = refl
told_clocks Names ws rows = refl
told_clocks Latch ws rows = latch_clocks (word_at ws 0) (word_at ws 1) (init_of ws) (control_in ws)
told_clocks Model ws rows = refl
told_clocks End ws rows = refl
told_clocks Omitted ws rows = refl
told_clocks Unknown ws rows = refl
told_clocks Row ws rows = refl

-- ---- no name twice

eq_turned : (a b : List ℕ) → bytes_eq a b ≡ false → bytes_eq b a ≡ false
eq_turned a b h = by_test (bytes_eq b a) refl
  where
    by_test : (t : Bool) → bytes_eq b a ≡ t → bytes_eq b a ≡ false
    by_test true is =
        let same : a ≡ b = sym ((bytes_eq-Decides b a).0 is) in
        let yes : bytes_eq a b ≡ true = (bytes_eq-Decides a b).1 same in cc
    by_test false is = is

pub distinct_more : (xs : List (List ℕ)) (n : List ℕ) → AreDistinct xs → list_any (bytes_eq n) xs ≡ false → AreDistinct (xs ++ n ∷ [])
distinct_more [] n d h = (refl, tt)
distinct_more (x ∷ xs) n d h =
    let other : bytes_eq x n ≡ false = eq_turned n x (or_left_false (bytes_eq n x) _ h) in
    let seen : list_any (bytes_eq x) (xs ++ n ∷ []) ≡ false = list_any-append (bytes_eq x) xs (n ∷ []) ∙ rw (d.0, other) refl in
    (seen, distinct_more xs n d.1 (or_right_false (bytes_eq n x) _ h))

pub distinct_all : (seen ns : List (List ℕ)) → AreDistinct seen → repeats seen ns ≡ false → AreDistinct (seen ++ ns)
distinct_all seen [] d h = subst AreDistinct (sym (append-nil seen)) d
distinct_all seen (n ∷ ns) d h =
    let first : list_any (bytes_eq n) seen ≡ false = or_left_false _ _ h in
    let more : AreDistinct ((seen ++ n ∷ []) ++ ns) = distinct_all (seen ++ n ∷ []) ns (distinct_more seen n d first) (or_right_false _ _ h) in
    subst AreDistinct (append_assoc seen (n ∷ []) ns) more

-- ---- one clock

none_differs : (n : List ℕ) (ns : List (List ℕ)) → list_any (λ m. not (bytes_eq n m)) ns ≡ false → list_all (bytes_eq n) ns ≡ true
none_differs n [] h = refl
none_differs n (m ∷ ns) h = by_test (bytes_eq n m) refl (none_differs n ns (or_right_false _ _ h))
  where
    by_test : (t : Bool) → bytes_eq n m ≡ t → list_all (bytes_eq n) ns ≡ true → list_all (bytes_eq n) (m ∷ ns) ≡ true
    by_test true is rest = rw (is, rest) refl
    by_test false is rest = let no : not (bytes_eq n m) ≡ false = or_left_false _ _ h in let bad : true ≡ false = rw is at no in cc

pub same_all : (xs ys : List (List ℕ)) → AreSame xs → differ (option_to_list (slice_get xs 0) ++ ys) ≡ false → AreSame (xs ++ ys)
same_all [] [] s h = tt
same_all [] (y ∷ ys) s h = none_differs y ys h
same_all (x ∷ xs) ys s h = list_all-append (bytes_eq x) xs ys ∙ rw (s, none_differs x ys h) refl

alone : (clock : Option (List ℕ)) → differ (option_to_list clock ++ []) ≡ false
alone None = refl
alone (Some n) = refl

clocks_differ : (k : Keyword) (before : Earlier) (ws : List (List ℕ)) → has_many_clocks k before ws ≡ false
    → differ (option_to_list before.clock ++ clocks_in k ws) ≡ false
clocks_differ Clock before ws h = h
clocks_differ Latch before ws h = or_left_false _ _ h
clocks_differ Inputs before ws h = alone before.clock
clocks_differ Outputs before ws h = alone before.clock
clocks_differ Names before ws h = alone before.clock
clocks_differ Model before ws h = alone before.clock
clocks_differ End before ws h = alone before.clock
clocks_differ Omitted before ws h = alone before.clock
clocks_differ Unknown before ws h = alone before.clock
clocks_differ Row before ws h = alone before.clock

-- ---- names that a text may have

pub all_both : {Y : Type 0} (P : Y → Type 0) (xs ys : List Y) → AllByRecursion P xs → AllByRecursion P ys → AllByRecursion P (xs ++ ys)
all_both P [] ys p q = q
all_both P (x ∷ xs) ys p q = (p.0, all_both P xs ys p.1 q)

pub all_at : {Y : Type 0} (P : Y → Type 0) (xs : List Y) (i : ℕ) (d : Y) → AllByRecursion P xs → i < length xs → P (slice_index_or xs i d)
all_at P [] i d p lt = absurd (omega arith)
all_at P (x ∷ xs) zero d p lt = p.0
all_at P (x ∷ xs) (suc i) d p lt = all_at P xs i d p.1 (omega arith)

pub all_after_first : {Y : Type 0} (P : Y → Type 0) (xs : List Y) → AllByRecursion P xs → AllByRecursion P (drop 1 xs)
all_after_first P [] p = tt
all_after_first P (x ∷ xs) p = p.1

all_over : {X Y : Type 0} (P : Y → Type 0) (f : X → List Y) (Q : X → Type 0) → ((x : X) → Q x → AllByRecursion P (f x)) → (xs : List X) → AllByRecursion Q xs
    → AllByRecursion P (flat_map f xs)
all_over P f Q each [] q = tt
all_over P f Q each (x ∷ xs) q = all_both P (f x) (flat_map f xs) (each x q.0) (all_over P f Q each xs q.1)

-- ---- statement by statement

-- Names that are driven, outputs and clocks are as they must be.
pub record AreOrdered (heads : List Line) : Type 0 where
  pub drivers : AreDistinct (over_lines drivers_in heads)
  pub outputs : AreDistinct (over_lines outputs_in heads)
  pub clocks : AreSame (over_lines clocks_in heads)

-- What the rules leave of one statement with its rows.
pub record IsSettled (b : Block) : Type 0 where
  pub count : has_bad_count (keyword_in b.head) (further b.head) ≡ false
  pub pins : has_too_many_pins (keyword_in b.head) (further b.head) ≡ false
  pub rows : fault_after_head (keyword_in b.head) (further b.head) b.rows ≡ None

lawful_rows : (before : Earlier) (b : Block) → fault_in_block before b ≡ None → fault_after_head (keyword_in b.head) (further b.head) b.rows ≡ None
unfolding fault_in_block
lawful_rows before b h = or_second_none _ _ h

pub block_lawful : (before : List Line) (b : Block) (blocks : List Block) → fault_in_blocks before (b ∷ blocks) ≡ None
    → (fault_in_block (earlier before) b ≡ None) × (fault_in_blocks (before ++ b.head ∷ []) blocks ≡ None)
block_lawful before b blocks h =
    let both : option_or (fault_in_block (earlier before) b) (fault_in_blocks (before ++ b.head ∷ []) blocks) ≡ None = sym (blocks_cons before b blocks) ∙ h in
    (or_none _ _ both, or_second_none _ _ both)

pub ordered_all : (before : List Line) (blocks : List Block) → fault_in_blocks before blocks ≡ None → AreOrdered before → AreOrdered (before ++ heads_of blocks)
ordered_all before [] h o = subst AreOrdered (sym (append-nil before)) o
ordered_all before (b ∷ blocks) h o =
    let both = block_lawful before b blocks h in
    let l = lawful_by (keyword_in b.head) (earlier before) (further b.head) (lawful_head (earlier before) b both.0) in
    let next : AreOrdered (before ++ b.head ∷ []) = record {
      drivers = subst AreDistinct (sym (over_more drivers_in before b.head)) (distinct_all (over_lines drivers_in before) (drivers_in (keyword_in b.head) (further b.head)) o.drivers l.drivers);
      outputs = subst AreDistinct (sym (over_more outputs_in before b.head)) (distinct_all (over_lines outputs_in before) (outputs_in (keyword_in b.head) (further b.head)) o.outputs l.outputs);
      clocks = subst AreSame (sym (over_more clocks_in before b.head)) (same_all (over_lines clocks_in before) (clocks_in (keyword_in b.head) (further b.head)) o.clocks
          (clocks_differ (keyword_in b.head) (earlier before) (further b.head) l.clocks));
    } in
    subst AreOrdered (append_assoc before (b.head ∷ []) (heads_of blocks)) (ordered_all (before ++ b.head ∷ []) blocks both.1 next)

pub settled_all : (before : List Line) (blocks : List Block) → fault_in_blocks before blocks ≡ None → AllByRecursion IsSettled blocks
settled_all before [] h = tt
settled_all before (b ∷ blocks) h =
    let both = block_lawful before b blocks h in
    let l = lawful_by (keyword_in b.head) (earlier before) (further b.head) (lawful_head (earlier before) b both.0) in
    (record { count = l.count; pins = l.pins; rows = lawful_rows (earlier before) b both.0 }, settled_all (before ++ b.head ∷ []) blocks both.1)

-- ---- shapes

pub not_false : (b : Bool) → not b ≡ false → b ≡ true
not_false true h = refl
not_false false h = cc

pub not_true : (b : Bool) → not b ≡ true → b ≡ false
not_true true h = cc
not_true false h = refl

pub some_words : (ws : List (List ℕ)) → (length ws == 0) ≡ false → length ws - 1 < length ws
some_words [] h = cc
some_words (w ∷ ws) h = omega arith

rows_width : (pins : ℕ) (first : Bool) (rows : List Line) → fault_in_rows pins first rows ≡ None
    → AllByRecursion (λ row. length row ≡ pins) (map (λ row. places_of row.words) rows)
rows_width pins first [] h = tt
rows_width pins first (row ∷ rows) h =
    let both : option_or (at_line row (fault_in_row pins first row.words)) (fault_in_rows pins first rows) ≡ None = sym (rows-cons pins first row rows) ∙ h in
    let here : fault_in_row pins first row.words ≡ None = mapped_none _ _ (or_none _ _ both) in
    let good = no_fault (not (is_row_of pins row.words)) BadRow _ here in
    (places-width pins row.words (not_false _ good.0), rows_width pins first rows (or_second_none _ _ both))

abbrev pub IsShapedBy : Option Told → Type 0
IsShapedBy None = Unit {0}
IsShapedBy (Some t) = IsShaped t

shaped_latch : (next name : List ℕ) (init : Bool) (ws : List (List ℕ)) → IsShaped (told.latch next name init (control_named (control_in ws)))
shaped_latch next name init ws = by_test (nat_lt 3 (length ws) && not (bytes_eq (word_at ws 3) (codes "NIL"))) refl
  where
    by_test : (t : Bool) → (nat_lt 3 (length ws) && not (bytes_eq (word_at ws 3) (codes "NIL"))) ≡ t
        → IsShaped (told.latch next name init (control_named (control_in ws)))
    by_test true is = rw is (let other : not (bytes_eq (word_at ws 3) (codes "NIL")) ≡ true = and_right _ _ is in not_true _ other)
    by_test false is = rw is tt

pub shaped_told : (k : Keyword) (ws : List (List ℕ)) (rows : List Line) → has_too_many_pins k ws ≡ false → fault_after_head k ws rows ≡ None
    → IsShapedBy (told_in k ws rows)
shaped_told Names ws rows p h =
    let few : length ws ≤ 256 = ltb-false 256 (length ws) p in
    let width = All-from_recursion (λ row. length row ≡ length ws - 1) (cover_of rows).rows (rows_width (length ws - 1) (is_on rows) rows h) in
    (rw (before_last ws) width, let n = before_last ws in omega arith)
shaped_told Latch ws rows p h = shaped_latch (word_at ws 0) (word_at ws 1) (init_of ws) ws
shaped_told Inputs ws rows p h = tt
shaped_told Outputs ws rows p h = tt
shaped_told Clock ws rows p h = tt
shaped_told Model ws rows p h = tt
shaped_told End ws rows p h = tt
shaped_told Omitted ws rows p h = tt
shaped_told Unknown ws rows p h = tt
shaped_told Row ws rows p h = tt

pub shaped_more : (line : ℕ) (o : Option Told) (rest : List Telling) → IsShapedBy o → AllByRecursion (λ t. IsShaped t.what) rest
    → AllByRecursion (λ t. IsShaped t.what) (cons_option (option_map (λ told. record { line = line; what = told }) o) rest)
shaped_more line None rest s r = r
shaped_more line (Some t) rest s r = (s, r)

pub shaped_all : (blocks : List Block) → AllByRecursion IsSettled blocks → AllByRecursion (λ t. IsShaped t.what) (filter_map telling_in blocks)
shaped_all [] s = tt
shaped_all (b ∷ blocks) s =
    shaped_more b.head.number (told_in (keyword_in b.head) (further b.head) b.rows) (filter_map telling_in blocks)
    (shaped_told (keyword_in b.head) (further b.head) b.rows s.0.pins s.0.rows) (shaped_all blocks s.1)

-- ---- names

-- each name is what `P` says
abbrev AreAll : (List ℕ → Type 0) → List (List ℕ) → Type 0
AreAll P names = AllByRecursion P names

-- each word of each line is what `P` says
abbrev pub AreWords : (List ℕ → Type 0) → List Line → Type 0
AreWords P lines = AllByRecursion (λ line. AreAll P line.words) lines

pub heads_named : (P : List ℕ → Type 0) (lines : List Line) → AreWords P lines → AreWords P (heads_of (blocks_of lines))
unfolding blocks_of
heads_named P [] n = tt
heads_named P (l ∷ lines) n = by_test (is_row l) refl (heads_named P lines n.1)
  where
    by_test : (t : Bool) → is_row l ≡ t → AreWords P (heads_of (blocks_of lines)) → AreWords P (heads_of (blocks_of (l ∷ lines)))
    by_test true is rest = rw is rest
    by_test false is rest = rw is (n.0, rest)

drivers_named : (P : List ℕ → Type 0) (k : Keyword) (ws : List (List ℕ)) → has_bad_count k ws ≡ false → AreAll P ws → AreAll P (drivers_in k ws)
drivers_named P Inputs ws c n = n
drivers_named P Names ws c n = (all_at P ws (length ws - 1) [] n (some_words ws c), tt)
drivers_named P Latch ws c n =
    let two : 2 ≤ length ws = ltb-false (length ws) 2 (or_left_false _ _ c) in
    (all_at P ws 1 [] n (omega arith), tt)
drivers_named P Outputs ws c n = tt
drivers_named P Clock ws c n = tt
drivers_named P Model ws c n = tt
drivers_named P End ws c n = tt
drivers_named P Omitted ws c n = tt
drivers_named P Unknown ws c n = tt
drivers_named P Row ws c n = tt

clocks_named : (P : List ℕ → Type 0) (k : Keyword) (ws : List (List ℕ)) → has_bad_count k ws ≡ false → AreAll P ws → AreAll P (clocks_in k ws)
clocks_named P Clock ws c n = n
clocks_named P Latch ws c n = by_test (nat_lt 3 (length ws) && not (bytes_eq (word_at ws 3) (codes "NIL"))) refl
  where
    by_test : (t : Bool) → (nat_lt 3 (length ws) && not (bytes_eq (word_at ws 3) (codes "NIL"))) ≡ t → AreAll P (clocks_in Latch ws)
    by_test true is =
        let four : 3 < length ws = ltb-true 3 (length ws) (and_left _ _ is) in
        rw is (all_at P ws 3 [] n four, tt)
    by_test false is = rw is tt
clocks_named P Inputs ws c n = tt
clocks_named P Names ws c n = tt
clocks_named P Outputs ws c n = tt
clocks_named P Model ws c n = tt
clocks_named P End ws c n = tt
clocks_named P Omitted ws c n = tt
clocks_named P Unknown ws c n = tt
clocks_named P Row ws c n = tt

names_all : (P : List ℕ → Type 0) (g : Keyword → List (List ℕ) → List (List ℕ))
    → ((k : Keyword) (ws : List (List ℕ)) → has_bad_count k ws ≡ false → AreAll P ws → AreAll P (g k ws))
    → (blocks : List Block) → AllByRecursion IsSettled blocks → AreWords P (heads_of blocks) → AreAll P (over_lines g (heads_of blocks))
names_all P g each [] s n = tt
names_all P g each (b ∷ blocks) s n =
    all_both P (g (keyword_in b.head) (further b.head)) (over_lines g (heads_of blocks))
    (each (keyword_in b.head) (further b.head) s.0.count (all_after_first P b.head.words n.0)) (names_all P g each blocks s.1 n.1)

pub top_named : IsName (codes "top")
top_named = record {
  some = lit< tt;
  short = lit≤ tt;
  lawful = All-from_recursion IsNameByte (codes "top")
      ((lit≤ tt, lit≤ tt, (omega arith), (omega arith)), ((lit≤ tt, lit≤ tt, (omega arith), (omega arith)), ((lit≤ tt, lit≤ tt, (omega arith), (omega arith)), tt)));
}

model_word : (k : Keyword) (ws : List (List ℕ)) → is_model k ≡ true → has_bad_count k ws ≡ false → AreAll IsName ws → IsName (word_at ws 0)
model_word Model ws m c n =
    let one : length ws ≡ 1 = eqb-true (length ws) 1 (not_false _ c) in
    all_at IsName ws 0 [] n (omega arith)
model_word Inputs ws m c n = cc
model_word Names ws m c n = cc
model_word Latch ws m c n = cc
model_word Outputs ws m c n = cc
model_word Clock ws m c n = cc
model_word End ws m c n = cc
model_word Omitted ws m c n = cc
model_word Unknown ws m c n = cc
model_word Row ws m c n = cc

pub model_named : (blocks : List Block) → AllByRecursion IsSettled blocks → AreWords IsName (heads_of blocks) → IsName (name_among (heads_of blocks))
model_named [] s n = top_named
model_named (b ∷ blocks) s n = by_test (is_model (keyword_in b.head)) refl (model_named blocks s.1 n.1)
  where
    by_test : (t : Bool) → is_model (keyword_in b.head) ≡ t → IsName (name_among (heads_of blocks)) → IsName (name_among (heads_of (b ∷ blocks)))
    by_test true is rest = rw is (model_word (keyword_in b.head) (further b.head) is s.0.count (all_after_first IsName b.head.words n.0))
    by_test false is rest = rw is rest

pub orderly : (lines : List Line) → AreNamed lines → fault_of_lines lines ≡ None → IsOrderly (model_in lines)
orderly lines named lawful =
    let blocks = blocks_of lines in
    let none : fault_in_blocks [] blocks ≡ None = or_second_none _ _ lawful in
    let ordered : AreOrdered (heads_of blocks) = ordered_all [] blocks none (record { drivers = tt; outputs = tt; clocks = tt }) in
    let settled : AllByRecursion IsSettled blocks = settled_all [] blocks none in
    let words : AreWords IsName (heads_of blocks) = heads_named IsName lines named in
    record {
      model = model_named blocks settled words;
      drivers = rw (over_told drivers_told drivers_in told_drivers blocks) (names_all IsName drivers_in (drivers_named IsName) blocks settled words);
      clocks = rw (over_told clocks_told clocks_in told_clocks blocks) (names_all IsName clocks_in (clocks_named IsName) blocks settled words);
      driven_once = rw (over_told drivers_told drivers_in told_drivers blocks) ordered.drivers;
      outputs_once = rw (over_told outputs_told outputs_in told_outputs blocks) ordered.outputs;
      one_clock = rw (over_told clocks_told clocks_in told_clocks blocks) ordered.clocks;
      shaped = shaped_all blocks settled;
    }

-- What each word of lawful lines is, each name of a driver is.
pub drivers_kept : (P : List ℕ → Type 0) (lines : List Line) → AreWords P lines → fault_of_lines lines ≡ None → AreAll P (over drivers_told (model_in lines).body)
drivers_kept P lines named lawful =
    let blocks = blocks_of lines in
    let settled : AllByRecursion IsSettled blocks = settled_all [] blocks (or_second_none _ _ lawful) in
    rw (over_told drivers_told drivers_in told_drivers blocks) (names_all P drivers_in (drivers_named P) blocks settled (heads_named P lines named))

-- What each word of lawful lines is, each name of a clock is.
pub clocks_kept : (P : List ℕ → Type 0) (lines : List Line) → AreWords P lines → fault_of_lines lines ≡ None → AreAll P (over clocks_told (model_in lines).body)
clocks_kept P lines named lawful =
    let blocks = blocks_of lines in
    let settled : AllByRecursion IsSettled blocks = settled_all [] blocks (or_second_none _ _ lawful) in
    rw (over_told clocks_told clocks_in told_clocks blocks) (names_all P clocks_in (clocks_named P) blocks settled (heads_named P lines named))

-- The drivers of lawful lines stand once.
pub driven_once : (lines : List Line) → fault_of_lines lines ≡ None → AreDistinct (over drivers_told (model_in lines).body)
driven_once lines lawful =
    let blocks = blocks_of lines in
    let ordered : AreOrdered (heads_of blocks)
    = ordered_all [] blocks (or_second_none _ _ lawful) (record { drivers = tt; outputs = tt; clocks = tt }) in
    rw (over_told drivers_told drivers_in told_drivers blocks) ordered.drivers
