-- What the rules on lines leave of each model of a text.
use Rattle.std.proofs.Common.{◌≡◌, ℕ, ◌-◌, ◌≤◌, inl, inr, suc, zero, Bool, true, false, not, ◌&&◌, ◌==◌, nat_lt, List, [], ◌∷◌, ◌++◌, Option, None, Some, length, map, take, drop, flat_map, filter_map, refl, sym, ◌∙◌, ap, subst, arith, append_assoc, codes, bytes_eq, All}
use Rattle.std.specs.Prelude.{Result, Ok, Err, IsOkAnd}
use Rattle.std.specs.List.{list_any, list_all, AllByRecursion}
use Rattle.std.proofs.lemmas.Bool.{eqb-true, ltb-true, ltb-false}
use Rattle.std.proofs.lemmas.List.{append-nil}
use Rattle.std.proofs.lemmas.List.Elements.{All-take, All-drop, recursion_from_All}
use Rattle.tm_circuit.specs.Sound.{IsNameByte}
use Rattle.blif_lex.specs.Words.{Line, IsLawful, IsPlainWord, words_of, places_model}
use Rattle.blif_lex.specs.declared.fault.LexFault.{LexFault}
use Rattle.blif_lex.proofs.Lawful.{lawful_lines}
use Rattle.blif_unit.specs.declared.fault.BlifKind.TheVariants.{Misplaced, BadCount, BadBinding, RepeatedModel}
use Rattle.blif_unit.specs.declared.limits.Limits.{Limits}
use Rattle.blif_unit.specs.Fit.{names_bound, names_told, IsPlainName, HasShape, IsFit, HasTopWithin, AreFit}
use Rattle.blif_unit.specs.Unit as told
use Rattle.blif_unit.specs.Unit.{Told, Telling, Model, AreDistinct, IsShaped, over, outputs_told, controls_named, repeats}
use Rattle.blif_models.specs.declared.keyword.Keyword.{Keyword}
use Rattle.blif_models.specs.declared.keyword.Keyword.TheVariants.{Model as ModelWord, Inputs, Outputs, Clock, Names, Latch, End, Omitted, Unknown, Row}
use Rattle.blif_models.specs.Statement.{Block, Earlier, earlier, is_row, blocks_of, heads_of, keyword_in, further, word_at, last_of, but_last, over_lines, outputs_in, control_in, control_named, has_bad_count, has_too_many_pins, fault_in_head, fault_after_head, told_in, at_line, is_model}
use Rattle.blif_models.specs.Several.{Section, formal_in, actual_in, is_binding, binding_of, fault_in_place, fault_in_line, fault_in_part, fault_in_parts, told_in_part, telling_in_part, begins_model, parts_before, named_sections, begins_named, sections_of, name_at, fault_in_model, fault_at, fault_in_section, fault_in_sections, model_of_section, AreModelsOf, AreModelsOfLines}
use Rattle.blif_models.proofs.RowLemmas.{and_left, and_right}
use Rattle.blif_models.proofs.UnitLemmas.{or_none, mapped_none, over_more}
use Rattle.blif_models.proofs.OrderlyLemmas.{no_fault, or_left_false, or_second_none, lawful_by, cons_told, told_names, told_outputs, shaped_told, IsShapedBy, distinct_all, distinct_more, all_both, all_at, all_after_first, some_words, not_false, top_named}
use Rattle.blif_models.proofs.PartLemmas.{place_keyword}
use Rattle.blif_models.proofs.SectionLemmas.{parts-model, parts-plain, parts_cons, sections_cons}

-- ---- a statement

-- What no fault leaves of a statement.
record IsLawfulPart (before : Earlier) (b : Block) : Type 0 where
  pub count : has_bad_count (keyword_in b.head) (further b.head) ≡ false
  pub pins : has_too_many_pins (keyword_in b.head) (further b.head) ≡ false
  pub outputs : repeats before.outputs (outputs_in (keyword_in b.head) (further b.head)) ≡ false
  pub rows : fault_after_head (keyword_in b.head) (further b.head) b.rows ≡ None
  pub some : places_model b.head.words ≡ true → (length (further b.head) == 0) ≡ false
  pub bound : places_model b.head.words ≡ true → list_all is_binding (drop 1 (further b.head)) ≡ true

lawful_part : (before : Earlier) (b : Block) → fault_in_part before b ≡ None → IsLawfulPart before b
unfolding fault_in_part
lawful_part before b h = by_test (places_model b.head.words) refl
  where
    line_none : fault_in_line before b.head ≡ None
    line_none =
        mapped_none (λ kind. (b.head.number, kind)) (fault_in_line before b.head)
        (or_none (at_line b.head (fault_in_line before b.head)) (fault_after_head (keyword_in b.head) (further b.head) b.rows) h)

    rows_none : fault_after_head (keyword_in b.head) (further b.head) b.rows ≡ None
    rows_none = or_second_none (at_line b.head (fault_in_line before b.head)) (fault_after_head (keyword_in b.head) (further b.head) b.rows) h

    by_test : (t : Bool) → places_model b.head.words ≡ t → IsLawfulPart before b
    by_test true is =
        let k : keyword_in b.head ≡ Omitted = place_keyword b.head is in
        let none : fault_in_place before (further b.head) ≡ None = rw is at line_none in
        let x = no_fault before.ended Misplaced _ none in
        let y = no_fault (length (further b.head) == 0) BadCount _ x.1 in
        let z = no_fault (not (list_all is_binding (drop 1 (further b.head)))) BadBinding _ y.1 in
        record {
          count = rw k refl;
          pins = rw k refl;
          outputs = rw k refl;
          rows = rows_none;
          some = λ e. y.0;
          bound = λ e. not_false _ z.0;
        }
    by_test false is =
        let none : fault_in_head (keyword_in b.head) before (further b.head) ≡ None = rw is at line_none in
        let l = lawful_by (keyword_in b.head) before (further b.head) none in
        record {
          count = l.count;
          pins = l.pins;
          outputs = l.outputs;
          rows = rows_none;
          some = λ e. let no : true ≡ false = sym e ∙ is in cc;
          bound = λ e. let no : true ≡ false = sym e ∙ is in cc;
        }

parts_lawful : (before : List Line) (b : Block) (bs : List Block) → fault_in_parts before (b ∷ bs) ≡ None
    → (fault_in_part (earlier before) b ≡ None) × (fault_in_parts (before ++ b.head ∷ []) bs ≡ None)
parts_lawful before b bs h = let both = sym (parts_cons before b bs) ∙ h in (or_none _ _ both, or_second_none _ _ both)

-- ---- outputs

outputs_all : (before : List Line) (bs : List Block) → fault_in_parts before bs ≡ None → AreDistinct (over_lines outputs_in before)
    → AreDistinct (over_lines outputs_in (before ++ heads_of bs))
outputs_all before [] h d = subst (λ ls. AreDistinct (over_lines outputs_in ls)) (sym (append-nil before)) d
outputs_all before (b ∷ bs) h d =
    let both = parts_lawful before b bs h in
    let l = lawful_part (earlier before) b both.0 in
    let next : AreDistinct (over_lines outputs_in (before ++ b.head ∷ []))
    = subst AreDistinct (sym (over_more outputs_in before b.head)) (distinct_all (over_lines outputs_in before) (outputs_in (keyword_in b.head) (further b.head)) d l.outputs) in
    subst (λ ls. AreDistinct (over_lines outputs_in ls)) (append_assoc before (b.head ∷ []) (heads_of bs)) (outputs_all (before ++ b.head ∷ []) bs both.1 next)

outputs_in_part : (b : Block) → told_names outputs_told (told_in_part b) ≡ outputs_in (keyword_in b.head) (further b.head)
outputs_in_part b = by_test (places_model b.head.words) refl
  where
    by_test : (t : Bool) → places_model b.head.words ≡ t → told_names outputs_told (told_in_part b) ≡ outputs_in (keyword_in b.head) (further b.head)
    by_test true is = let k = place_keyword b.head is in rw (is, k) refl
    by_test false is = rw is (told_outputs (keyword_in b.head) (further b.head) b.rows)

outputs_over : (bs : List Block) → over outputs_told (filter_map telling_in_part bs) ≡ over_lines outputs_in (heads_of bs)
outputs_over [] = refl
outputs_over (b ∷ bs) =
    cons_told outputs_told b.head.number (told_in_part b) (filter_map telling_in_part bs)
    ∙ ap (λ ns. ns ++ over outputs_told (filter_map telling_in_part bs)) (outputs_in_part b)
    ∙ ap (λ ns. outputs_in (keyword_in b.head) (further b.head) ++ ns) (outputs_over bs)

-- ---- shapes

has_shape : (t : Told) → IsShaped t → HasShape t
has_shape (told.inputs ns) h = tt
has_shape (told.outputs ns) h = tt
has_shape (told.clock ns) h = tt
has_shape (told.gate pins name cover) h = h
has_shape (told.latch next name init None) h = tt
has_shape (told.latch next name init (Some control)) h = h
has_shape (told.place model bindings) h = tt

abbrev HasShapeBy : Option Told → Type 0
HasShapeBy None = Unit {0}
HasShapeBy (Some t) = HasShape t

shape_by : (o : Option Told) → IsShapedBy o → HasShapeBy o
shape_by None h = tt
shape_by (Some t) h = has_shape t h

shape_in_part : (before : Earlier) (b : Block) → IsLawfulPart before b → HasShapeBy (told_in_part b)
shape_in_part before b l = by_test (places_model b.head.words) refl
  where
    by_test : (t : Bool) → places_model b.head.words ≡ t → HasShapeBy (told_in_part b)
    by_test true is = rw is tt
    by_test false is = rw is (shape_by _ (shaped_told (keyword_in b.head) (further b.head) b.rows l.pins l.rows))

-- ---- names

all_take : {A : Type 0} (P : A → Type 0) (n : ℕ) (xs : List A) → AllByRecursion P xs → AllByRecursion P (take n xs)
all_take P zero xs h = tt
all_take P (suc n) [] h = tt
all_take P (suc n) (x ∷ xs) h = (h.0, all_take P n xs h.1)

plain_word : (w : List ℕ) → IsPlainWord w → IsPlainName w
plain_word w h = record { some = h.some; lawful = h.bytes }

plain_words : (ws : List (List ℕ)) → AllByRecursion IsPlainWord ws → AllByRecursion IsPlainName ws
plain_words [] h = tt
plain_words (w ∷ ws) h = (plain_word w h.0, plain_words ws h.1)

plain_binding : (w : List ℕ) → IsPlainName w → is_binding w ≡ true → AllByRecursion IsPlainName (names_bound (binding_of w))
plain_binding w h is = (
  record { some = ltb-true 0 (length (formal_in w)) (and_left _ _ is); lawful = All-take IsNameByte _ w h.lawful },
  (record { some = ltb-true 0 (length (actual_in w)) (and_right _ _ is); lawful = All-drop IsNameByte _ w h.lawful }, tt),
)

plain_bindings : (ws : List (List ℕ)) → AllByRecursion IsPlainName ws → list_all is_binding ws ≡ true
    → AllByRecursion IsPlainName (flat_map names_bound (map binding_of ws))
plain_bindings [] h is = tt
plain_bindings (w ∷ ws) h is =
    all_both IsPlainName (names_bound (binding_of w)) (flat_map names_bound (map binding_of ws)) (plain_binding w h.0 (and_left _ _ is))
    (plain_bindings ws h.1 (and_right _ _ is))

abbrev NamesBy : Option Told → Type 0
NamesBy None = Unit {0}
NamesBy (Some t) = AllByRecursion IsPlainName (names_told t)

control_plain : (ws : List (List ℕ)) → AllByRecursion IsPlainName ws → AllByRecursion IsPlainName (controls_named (control_named (control_in ws)))
control_plain ws h = by_test (nat_lt 3 (length ws) && not (bytes_eq (word_at ws 3) (codes "NIL"))) refl
  where
    by_test : (t : Bool) → (nat_lt 3 (length ws) && not (bytes_eq (word_at ws 3) (codes "NIL"))) ≡ t
        → AllByRecursion IsPlainName (controls_named (control_named (control_in ws)))
    by_test true is = let four = ltb-true 3 (length ws) (and_left _ _ is) in rw is (all_at IsPlainName ws 3 [] h four, tt)
    by_test false is = rw is tt

names_in_told : (k : Keyword) (ws : List (List ℕ)) (rows : List Line) → has_bad_count k ws ≡ false → AllByRecursion IsPlainName ws → NamesBy (told_in k ws rows)
names_in_told Inputs ws rows c h = h
names_in_told Outputs ws rows c h = h
names_in_told Clock ws rows c h = h
names_in_told Names ws rows c h =
    all_both IsPlainName (but_last ws) (last_of ws ∷ []) (all_take IsPlainName (length ws - 1) ws h) (all_at IsPlainName ws (length ws - 1) [] h (some_words ws c), tt)
names_in_told Latch ws rows c h =
    let two : 2 ≤ length ws = ltb-false (length ws) 2 (or_left_false _ _ c) in
    (all_at IsPlainName ws 0 [] h (omega arith), (all_at IsPlainName ws 1 [] h (omega arith), control_plain ws h))
names_in_told ModelWord ws rows c h = tt
names_in_told End ws rows c h = tt
names_in_told Omitted ws rows c h = tt
names_in_told Unknown ws rows c h = tt
names_in_told Row ws rows c h = tt

names_in_part : (before : Earlier) (b : Block) → IsLawfulPart before b → AllByRecursion IsPlainName (further b.head) → NamesBy (told_in_part b)
names_in_part before b l h = by_test (places_model b.head.words) refl
  where
    by_test : (t : Bool) → places_model b.head.words ≡ t → NamesBy (told_in_part b)
    by_test true is =
        let some = some_words (further b.head) (l.some is) in
        rw is (
          all_at IsPlainName (further b.head) 0 [] h (omega arith),
          plain_bindings (drop 1 (further b.head)) (all_after_first IsPlainName (further b.head) h) (l.bound is),
        )
    by_test false is = rw is (names_in_told (keyword_in b.head) (further b.head) b.rows l.count h)

-- What is left of the statements of a model.
record ArePartsFit (body : List Telling) : Type 0 where
  pub names : AllByRecursion IsPlainName (over names_told body)
  pub shaped : AllByRecursion (λ t. HasShape t.what) body

fit_more : (line : ℕ) (o : Option Told) (b : Block) (bs : List Block) → told_in_part b ≡ o → b.head.number ≡ line → NamesBy o → HasShapeBy o
    → ArePartsFit (filter_map telling_in_part bs) → ArePartsFit (filter_map telling_in_part (b ∷ bs))
fit_more line None b bs e at n s rest = rw e rest
fit_more line (Some t) b bs e at n s rest =
    rw e record {
      names = all_both IsPlainName (names_told t) (over names_told (filter_map telling_in_part bs)) n rest.names;
      shaped = (s, rest.shaped);
    }

parts_fit : (before : List Line) (bs : List Block) → fault_in_parts before bs ≡ None → AllByRecursion (λ b. AllByRecursion IsPlainName b.head.words) bs
    → ArePartsFit (filter_map telling_in_part bs)
parts_fit before [] h words = record { names = tt; shaped = tt }
parts_fit before (b ∷ bs) h words =
    let both = parts_lawful before b bs h in
    let l = lawful_part (earlier before) b both.0 in
    fit_more b.head.number (told_in_part b) b bs refl refl (names_in_part (earlier before) b l (all_after_first IsPlainName b.head.words words.0))
    (shape_in_part (earlier before) b l) (parts_fit (before ++ b.head ∷ []) bs both.1 words.1)

-- ---- models

abbrev AreBlocksPlain : List Block → Type 0
AreBlocksPlain bs = AllByRecursion (λ b. AllByRecursion IsPlainName b.head.words) bs

plain_parts : (bs : List Block) → AreBlocksPlain bs → AreBlocksPlain (parts_before bs)
plain_parts [] h = tt
plain_parts (b ∷ bs) h = by_test (begins_model b) refl (plain_parts bs h.1)
  where
    by_test : (t : Bool) → begins_model b ≡ t → AreBlocksPlain (parts_before bs) → AreBlocksPlain (parts_before (b ∷ bs))
    by_test true is rest = subst AreBlocksPlain (sym (parts-model b bs is)) tt
    by_test false is rest = subst AreBlocksPlain (sym (parts-plain b bs is)) (h.0, rest)

heads_all : (P : Line → Type 0) (lines : List Line) → AllByRecursion P lines → AllByRecursion (λ b. P b.head) (blocks_of lines)
unfolding blocks_of
heads_all P [] h = tt
heads_all P (l ∷ lines) h = by_test (is_row l) refl (heads_all P lines h.1)
  where
    by_test : (t : Bool) → is_row l ≡ t → AllByRecursion (λ b. P b.head) (blocks_of lines) → AllByRecursion (λ b. P b.head) (blocks_of (l ∷ lines))
    by_test true is rest = rw is rest
    by_test false is rest = rw is (h.0, rest)

lawful_plain : (name : ℕ) (bs : List Block) → AllByRecursion (λ b. IsLawful name true b.head) bs → AreBlocksPlain bs
lawful_plain name [] h = tt
lawful_plain name (b ∷ bs) h = (plain_words b.head.words (recursion_from_All IsPlainWord b.head.words h.0.plain), lawful_plain name bs h.1)

top_plain : IsPlainName (codes "top")
top_plain = record { some = top_named.some; lawful = top_named.lawful }

fit_section : (names : List (List ℕ)) (s : Section) → fault_in_section names s ≡ None → IsPlainName (name_at s.head) → AreBlocksPlain s.parts → IsFit (model_of_section s)
fit_section names s h name plain =
    let parts : fault_in_parts [] s.parts ≡ None = or_second_none _ _ h in
    let f = parts_fit [] s.parts parts plain in
    record {
      model = name;
      names = f.names;
      outputs_once = subst AreDistinct (sym (outputs_over s.parts)) (outputs_all [] s.parts parts tt);
      shaped = f.shaped;
    }

-- what no fault leaves of a `.model` line
lawful_model : (names : List (List ℕ)) (b : Block) → fault_at names (Some b) ≡ None
    → (length (further b.head) ≡ 1) × (list_any (bytes_eq (name_at (Some b))) names ≡ false)
lawful_model names b h =
    let none : fault_in_model names (further b.head) ≡ None = mapped_none _ _ (or_none _ _ h) in
    let x = no_fault (not (length (further b.head) == 1)) BadCount _ none in
    let y = no_fault (list_any (bytes_eq (word_at (further b.head) 0)) names) RepeatedModel _ x.1 in
    (eqb-true (length (further b.head)) 1 (not_false _ x.0), y.0)

-- What is left of models that begin with a `.model`, after models with these names.
record AreSectionsFit (names : List (List ℕ)) (sections : List Section) : Type 0 where
  pub fit : AllByRecursion IsFit (map model_of_section sections)
  pub distinct : AreDistinct (names ++ map (λ s. name_at s.head) sections)

sections_fit : (names : List (List ℕ)) (bs : List Block) → fault_in_sections names (named_sections bs) ≡ None → AreBlocksPlain bs → AreDistinct names
    → AreSectionsFit names (named_sections bs)
sections_fit names [] h plain d = record { fit = tt; distinct = subst AreDistinct (sym (append-nil names)) d }
sections_fit names (b ∷ bs) h plain d = by_test (begins_model b) refl (λ ns k e. sections_fit ns bs k plain.1 e)
  where
    s : Section
    s = record { head = Some b; parts = parts_before bs }

    by_test : (t : Bool) → begins_model b ≡ t
        → ((ns : List (List ℕ)) → fault_in_sections ns (named_sections bs) ≡ None → AreDistinct ns → AreSectionsFit ns (named_sections bs))
        → AreSectionsFit names (named_sections (b ∷ bs))
    by_test true is again =
        let whole : fault_in_sections names (s ∷ named_sections bs) ≡ None = rw is at h in
        let both = sym (sections_cons names s (named_sections bs)) ∙ whole in
        let here : fault_in_section names s ≡ None = or_none _ _ both in
        let m = lawful_model names b (or_none _ _ here) in
        let name : IsPlainName (name_at (Some b)) = all_at IsPlainName (further b.head) 0 [] (all_after_first IsPlainName b.head.words plain.0) (omega (arith, m.0)) in
        let rest = again (names ++ name_at (Some b) ∷ []) (or_second_none _ _ both) (distinct_more names (name_at (Some b)) d m.1) in
        rw is record {
          fit = (fit_section names s here name (plain_parts bs plain.1), rest.fit);
          distinct = subst AreDistinct (append_assoc names (name_at (Some b) ∷ []) (map (λ x. name_at x.head) (named_sections bs))) rest.distinct;
        }
    by_test false is again = let none : fault_in_sections names (named_sections bs) ≡ None = rw is at h in rw is (again names none d)

-- ---- texts

names_of_sections : (ss : List Section) → map (λ m. m.name) (map model_of_section ss) ≡ map (λ s. name_at s.head) ss
names_of_sections [] = refl
names_of_sections (s ∷ ss) = ap (λ ns. name_at s.head ∷ ns) (names_of_sections ss)

short_name : (most : ℕ) (b : Block) → IsLawful most true b.head → begins_model b ≡ true → fault_at [] (Some b) ≡ None → length (name_at (Some b)) ≤ most
short_name most b lawful model h = by_test (places_model b.head.words) refl
  where
    one : length (further b.head) ≡ 1
    one = (lawful_model [] b h).0

    by_test : (t : Bool) → places_model b.head.words ≡ t → length (name_at (Some b)) ≤ most
    by_test true is = let no : is_model Omitted ≡ true = ap is_model (sym (place_keyword b.head is)) ∙ model in cc
    by_test false is =
        let words : All (λ n. length n ≤ most) b.head.words = rw is at lawful.short in
        all_at (λ n. length n ≤ most) (further b.head) 0 []
        (all_after_first (λ n. length n ≤ most) b.head.words (recursion_from_All (λ n. length n ≤ most) b.head.words words)) (omega (arith, one))

blocks_fit : (most : ℕ) (bs : List Block) → AllByRecursion (λ b. IsLawful most true b.head) bs → fault_in_sections [] (sections_of bs) ≡ None
    → AreFit most (map model_of_section (sections_of bs))
blocks_fit most bs lawful h = by_test (begins_named bs) refl
  where
    plain : AreBlocksPlain bs
    plain = lawful_plain most bs lawful

    own_named : (cs : List Block) → AllByRecursion (λ b. IsLawful most true b.head) cs → begins_named cs ≡ true → fault_in_sections [] (named_sections cs) ≡ None
        → HasTopWithin most (map model_of_section (named_sections cs))
    own_named [] l is none = cc
    own_named (c ∷ cs) l is none =
        let s : Section = record { head = Some c; parts = parts_before cs } in
        let whole : fault_in_sections [] (s ∷ named_sections cs) ≡ None = rw is at none in
        let both = sym (sections_cons [] s (named_sections cs)) ∙ whole in
        rw is (inr (short_name most c l.0 is (or_none _ _ (or_none _ _ both))))

    by_test : (t : Bool) → begins_named bs ≡ t → AreFit most (map model_of_section (sections_of bs))
    by_test true is =
        let none : fault_in_sections [] (named_sections bs) ≡ None = rw is at h in
        let f = sections_fit [] bs none plain tt in
        rw is record {
          top = own_named bs lawful is none;
          fit = f.fit;
          distinct = subst AreDistinct (sym (names_of_sections (named_sections bs))) f.distinct;
        }
    by_test false is =
        let s : Section = record { head = None; parts = parts_before bs } in
        let none : fault_in_sections [] (s ∷ named_sections bs) ≡ None = rw is at h in
        let both = sym (sections_cons [] s (named_sections bs)) ∙ none in
        let f = sections_fit (codes "top" ∷ []) bs (or_second_none _ _ both) plain (refl, tt) in
        rw is record {
          top = inl refl;
          fit = (fit_section [] s (or_none _ _ both) top_plain (plain_parts bs plain), f.fit);
          distinct = subst AreDistinct (ap (λ ns. codes "top" ∷ ns) (sym (names_of_sections (named_sections bs)))) f.distinct;
        }

pub models_fit : (limits : Limits) (text : List ℕ) (models : List Model) → AreModelsOf limits text models → AreFit limits.name models
models_fit limits text models are = by_words (words_of limits.name true text) refl are
  where
    by_words : (r : Result (List Line) LexFault) → words_of limits.name true text ≡ r → IsOkAnd r (λ lines. AreModelsOfLines lines models) → AreFit limits.name models
    by_words (Ok lines) is of_lines =
        let lawful = recursion_from_All (IsLawful limits.name true) lines (lawful_lines limits.name true text lines is) in
        subst (AreFit limits.name) (sym of_lines.all)
        (blocks_fit limits.name (blocks_of lines) (heads_all (IsLawful limits.name true) lines lawful) (or_second_none _ _ of_lines.lawful))
    by_words (Err e) is of_lines = absurd of_lines
