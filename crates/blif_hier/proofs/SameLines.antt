-- Lines of one model without a `.subckt` have the same first fault and the same model by either rules.
use Rattle.std.proofs.Common.{◌≡◌, ℕ, suc, Bool, true, false, List, [], ◌∷◌, ◌++◌, Option, None, Some, length, map, filter_map, option_map, take_while, refl, sym, ◌∙◌, ap, arith}
use Rattle.std.specs.Prelude.{Ok}
use Rattle.std.specs.Option.{option_or}
use Rattle.std.specs.List.{AllByRecursion, cons_option}
use Rattle.std.proofs.lemmas.List.{length-map}
use Rattle.blif_lex.specs.Words.{Line, lines_of, places_model, fault_in, faults_of, unless_fault, words_of}
use Rattle.blif_lex.specs.declared.fault.LexFault.{LexFault}
use Rattle.blif_lex.specs.declared.fault.LexFault.TheVariants as lex
use Rattle.blif_lex.specs.declared.fault.LexKind.{LexKind}
use Rattle.blif_unit.specs.declared.fault.BlifKind.{BlifKind}
use Rattle.blif_unit.specs.Fault.{Faulty}
use Rattle.blif_unit.specs.Unit as unit
use Rattle.blif_unit.specs.Unit.{Telling}
use Rattle.blif_models.specs.declared.keyword.Keyword.{Keyword}
use Rattle.blif_models.specs.declared.keyword.Keyword.TheVariants.{Model, Inputs, Outputs, Clock, Names, Latch, End, Omitted, Unknown, Row}
use Rattle.blif_models.specs.Lines.{model_line, name_among, number_among, model_in}
use Rattle.blif_models.specs.Statement.{Block, Earlier, earlier, is_row, is_model, misplaced_first, blocks_of, heads_of, keyword_in, further, at_line, fault_in_head, fault_after_head, fault_in_block, fault_in_blocks, fault_of_lines, telling_in}
use Rattle.blif_models.specs.Several.{Section, begins_model, parts_before, named_sections, sections_of, fault_in_model, fault_at, fault_in_parts, fault_in_section, fault_in_sections, fault_of_models, telling_in_part, model_of_section, models_in}
use Rattle.blif_models.proofs.UnitLemmas.{or_right, blocks_cons}
use Rattle.blif_models.proofs.PartLemmas.{part_is_block}
use Rattle.blif_models.proofs.SectionLemmas.{parts-plain, parts_cons, sections_cons}
use Rattle.blif_hier.specs.Single.{HasSingleModel}

-- ---- words

-- none of the lines is a `.subckt`
abbrev pub AreAlone : List Line → Type 0
AreAlone lines = AllByRecursion (λ line. places_model line.words ≡ false) lines

same_fault_in : (name : ℕ) (words : List (List ℕ)) → places_model words ≡ false → fault_in name true words ≡ fault_in name false words
unfolding fault_in
same_fault_in name words alone = rw alone refl

same_faults : (name : ℕ) (lines : List Line) → AreAlone lines → faults_of name true lines ≡ faults_of name false lines
same_faults name [] alone = refl
same_faults name (l ∷ lines) alone =
    let text : LexKind → LexFault = λ kind. lex.Text l.number kind in
    ap (λ (o : Option LexKind). cons_option (option_map text o) (faults_of name true lines)) (same_fault_in name l.words alone.0)
    ∙ ap (λ (fs : List LexFault). cons_option (option_map text (fault_in name false l.words)) fs) (same_faults name lines alone.1)

-- The rule on bindings changes nothing.
pub same_words : (name : ℕ) (text : List ℕ) → AreAlone (lines_of text) → words_of name true text ≡ words_of name false text
unfolding words_of
same_words name text alone = ap (λ (fs : List LexFault). unless_fault fs (lines_of text)) (same_faults name (lines_of text) alone)

-- the lines of a text without fault
pub lines_are : (name : ℕ) (text : List ℕ) (lines : List Line) → words_of name false text ≡ Ok lines → lines ≡ lines_of text
unfolding words_of
lines_are name text lines is = by_faults (faults_of name false (lines_of text)) is
  where
    by_faults : (fs : List LexFault) → unless_fault fs (lines_of text) ≡ Ok lines → lines ≡ lines_of text
    by_faults [] h = cc
    by_faults (f ∷ fs) h = cc

-- ---- statements

-- no statement is a `.subckt`
abbrev pub AreBlocksAlone : List Block → Type 0
AreBlocksAlone blocks = AllByRecursion (λ b. places_model b.head.words ≡ false) blocks

-- no statement is a `.model`
abbrev pub AreUnnamed : List Block → Type 0
AreUnnamed blocks = AllByRecursion (λ b. begins_model b ≡ false) blocks

heads_alone : (lines : List Line) → AreAlone lines → AreBlocksAlone (blocks_of lines)
unfolding blocks_of
heads_alone [] alone = tt
heads_alone (l ∷ lines) alone = by_test (is_row l) refl (heads_alone lines alone.1)
  where
    by_test : (t : Bool) → is_row l ≡ t → AreBlocksAlone (blocks_of lines) → AreBlocksAlone (blocks_of (l ∷ lines))
    by_test true is rest = rw is rest
    by_test false is rest = rw is (alone.0, rest)

model_is : (k : Keyword) → is_model k ≡ true → k ≡ Model
model_is Model h = refl
model_is Inputs h = cc
model_is Outputs h = cc
model_is Clock h = cc
model_is Names h = cc
model_is Latch h = cc
model_is End h = cc
model_is Omitted h = cc
model_is Unknown h = cc
model_is Row h = cc

-- After a `.model`, only another one is judged otherwise.
same_head : (k : Keyword) (e : Earlier) (ws : List (List ℕ)) → is_model k ≡ false → fault_in_head k (record e { some = true; named = true }) ws ≡ fault_in_head k e ws
unfolding fault_in_head
same_head Model e ws h = cc
same_head Inputs e ws h = refl
same_head Outputs e ws h = refl
same_head Clock e ws h = refl
same_head Names e ws h = refl
same_head Latch e ws h = refl
same_head End e ws h = refl
same_head Omitted e ws h = refl
same_head Unknown e ws h = refl
same_head Row e ws h = refl

earlier_model : (m : Line) (before : List Line) → keyword_in m ≡ Model → earlier (m ∷ before) ≡ record (earlier before) { some = true; named = true }
earlier_model m before is = rw is refl

same_block : (m : Line) (before : List Line) (b : Block) → keyword_in m ≡ Model → begins_model b ≡ false
    → fault_in_block (earlier (m ∷ before)) b ≡ fault_in_block (earlier before) b
unfolding fault_in_block
same_block m before b is unnamed =
    ap (λ (e : Earlier). fault_in_block e b) (earlier_model m before is)
    ∙ ap (λ (o : Option BlifKind). option_or (at_line b.head o) (fault_after_head (keyword_in b.head) (further b.head) b.rows))
    (same_head (keyword_in b.head) (earlier before) (further b.head) unnamed)

-- the statements of a model without a `.model`
same_parts : (before : List Line) (bs : List Block) → AreBlocksAlone bs → fault_in_parts before bs ≡ fault_in_blocks before bs
unfolding fault_in_parts fault_in_blocks
same_parts before [] alone = refl
same_parts before (b ∷ bs) alone =
    parts_cons before b bs
    ∙ ap (λ (o : Option Faulty). option_or o (fault_in_parts (before ++ b.head ∷ []) bs)) (part_is_block (earlier before) b alone.0)
    ∙ ap (λ (o : Option Faulty). option_or (fault_in_block (earlier before) b) o) (same_parts (before ++ b.head ∷ []) bs alone.1)
    ∙ sym (blocks_cons before b bs)

-- the statements behind a `.model`
same_behind : (m : Line) (before : List Line) (bs : List Block) → keyword_in m ≡ Model → AreBlocksAlone bs → AreUnnamed bs
    → fault_in_parts before bs ≡ fault_in_blocks (m ∷ before) bs
unfolding fault_in_parts fault_in_blocks
same_behind m before [] is alone unnamed = refl
same_behind m before (b ∷ bs) is alone unnamed =
    parts_cons before b bs
    ∙ ap (λ (o : Option Faulty). option_or o (fault_in_parts (before ++ b.head ∷ []) bs))
    (part_is_block (earlier before) b alone.0 ∙ sym (same_block m before b is unnamed.0))
    ∙ ap (λ (o : Option Faulty). option_or (fault_in_block (earlier (m ∷ before)) b) o) (same_behind m (before ++ b.head ∷ []) bs is alone.1 unnamed.1)
    ∙ sym (blocks_cons (m ∷ before) b bs)

model_head : (ws : List (List ℕ)) → fault_in_model [] ws ≡ fault_in_head Model (earlier []) ws
unfolding fault_in_head
model_head ws = refl

first_block : (b : Block) → keyword_in b.head ≡ Model → fault_at [] (Some b) ≡ fault_in_block (earlier []) b
unfolding fault_in_block
first_block b is =
    ap (λ (o : Option BlifKind). option_or (at_line b.head o) (misplaced_first b.rows)) (model_head (further b.head))
    ∙ ap (λ (k : Keyword). option_or (at_line b.head (fault_in_head k (earlier []) (further b.head))) (fault_after_head k (further b.head) b.rows)) (sym is)

-- ---- what statements say

same_tellings : (bs : List Block) → AreBlocksAlone bs → filter_map telling_in_part bs ≡ filter_map telling_in bs
same_tellings [] alone = refl
same_tellings (b ∷ bs) alone =
    let here : telling_in_part b ≡ telling_in b = (let is = alone.0 in rw is refl) in
    ap (λ (o : Option Telling). cons_option o (filter_map telling_in_part bs)) here
    ∙ ap (λ (ts : List Telling). cons_option (telling_in b) ts) (same_tellings bs alone.1)

no_model_line : (bs : List Block) → AreUnnamed bs → model_line (heads_of bs) ≡ None
no_model_line [] unnamed = refl
no_model_line (b ∷ bs) unnamed = let is = unnamed.0 in rw is (no_model_line bs unnamed.1)

-- the model of these statements, by the rules on texts with one model
abbrev model_of_blocks : List Block → unit.Model
model_of_blocks bs = record {
  name = name_among (heads_of bs);
  line = number_among (heads_of bs);
  body = filter_map telling_in bs;
}

-- ---- the one model

none_named : (bs : List Block) → length (named_sections bs) ≡ 0 → (named_sections bs ≡ []) × (parts_before bs ≡ bs) × AreUnnamed bs
none_named [] none = (refl, refl, tt)
none_named (b ∷ bs) none = by_test (begins_model b) refl (λ h. none_named bs h)
  where
    by_test : (t : Bool) → begins_model b ≡ t
        → (length (named_sections bs) ≡ 0 → (named_sections bs ≡ []) × (parts_before bs ≡ bs) × AreUnnamed bs)
        → (named_sections (b ∷ bs) ≡ []) × (parts_before (b ∷ bs) ≡ b ∷ bs) × AreUnnamed (b ∷ bs)
    by_test true is behind =
        let some : suc (length (named_sections bs)) ≡ 0 = rw is at none in
        absurd (omega (arith, some))
    by_test false is behind =
        let rest = behind (rw is at none) in
        let named : named_sections (b ∷ bs) ≡ [] = rw is rest.0 in
        (named, parts-plain b bs is ∙ ap (λ (cs : List Block). b ∷ cs) rest.1, (is, rest.2))

-- The first fault and the model are the same by either rules.
pub record Agree (bs : List Block) : Type 0 where
  pub fault : fault_in_sections [] (sections_of bs) ≡ fault_in_blocks [] bs
  pub models : map model_of_section (sections_of bs) ≡ model_of_blocks bs ∷ []

agree_unnamed : (bs : List Block) → AreBlocksAlone bs → AreUnnamed bs → sections_of bs ≡ record { head = None; parts = bs } ∷ [] → Agree bs
unfolding fault_in_sections
agree_unnamed bs alone unnamed is =
    let s : Section = record { head = None; parts = bs } in
    let line : model_line (heads_of bs) ≡ None = no_model_line bs unnamed in
    record {
      fault = ap (fault_in_sections []) is ∙ sections_cons [] s [] ∙ or_right (fault_in_section [] s) ∙ same_parts [] bs alone;
      models = ap (map model_of_section) is ∙ rw (line, same_tellings bs alone) refl;
    }

agree_named : (b : Block) (cs : List Block) → begins_model b ≡ true → AreBlocksAlone cs → AreUnnamed cs
    → sections_of (b ∷ cs) ≡ record { head = Some b; parts = cs } ∷ [] → Agree (b ∷ cs)
unfolding fault_in_sections
agree_named b cs model alone unnamed is =
    let s : Section = record { head = Some b; parts = cs } in
    let word : keyword_in b.head ≡ Model = model_is (keyword_in b.head) model in
    record {
      fault = ap (fault_in_sections []) is ∙ sections_cons [] s [] ∙ or_right (fault_in_section [] s)
          ∙ ap (λ (o : Option Faulty). option_or o (fault_in_parts [] cs)) (first_block b word)
          ∙ ap (λ (o : Option Faulty). option_or (fault_in_block (earlier []) b) o) (same_behind b.head [] cs word alone unnamed)
          ∙ sym (blocks_cons [] b cs);
      models = ap (map model_of_section) is ∙ rw (word, same_tellings cs alone) refl;
    }

agree : (bs : List Block) → AreBlocksAlone bs → length (sections_of bs) ≡ 1 → Agree bs
agree [] alone single = agree_unnamed [] tt tt refl
agree (b ∷ cs) alone single = by_test (begins_model b) refl
  where
    by_test : (t : Bool) → begins_model b ≡ t → Agree (b ∷ cs)
    by_test true is =
        let whole : sections_of (b ∷ cs) ≡ record { head = Some b; parts = parts_before cs } ∷ named_sections cs = rw is refl in
        let many : suc (length (named_sections cs)) ≡ 1 = ap length (sym whole) ∙ single in
        let none = none_named cs (omega (arith, many)) in
        agree_named b cs is alone.1 none.2
        (whole ∙ ap (λ (ss : List Section). record { head = Some b; parts = parts_before cs } ∷ ss) none.0
        ∙ ap (λ (ps : List Block). record { head = Some b; parts = ps } ∷ []) none.1)
    by_test false is =
        let whole : sections_of (b ∷ cs) ≡ record { head = None; parts = parts_before (b ∷ cs) } ∷ named_sections (b ∷ cs) = rw is refl in
        let many : suc (length (named_sections (b ∷ cs))) ≡ 1 = ap length (sym whole) ∙ single in
        let none = none_named (b ∷ cs) (omega (arith, many)) in
        agree_unnamed (b ∷ cs) alone none.2
        (whole ∙ ap (λ (ss : List Section). record { head = None; parts = parts_before (b ∷ cs) } ∷ ss) none.0
        ∙ ap (λ (ps : List Block). record { head = None; parts = ps } ∷ []) none.1)

agree_lines : (lines : List Line) → HasSingleModel lines → Agree (blocks_of lines)
agree_lines lines h =
    let bs = blocks_of lines in
    agree bs (heads_alone lines h.alone) (sym (length-map (sections_of bs) model_of_section) ∙ h.single)

-- the first fault of the lines
pub same_fault_of_lines : (lines : List Line) → HasSingleModel lines → fault_of_models lines ≡ fault_of_lines lines
same_fault_of_lines lines h = ap (λ (o : Option Faulty). option_or (misplaced_first (take_while is_row lines)) o) (agree_lines lines h).fault

-- the model of the lines
pub same_model : (lines : List Line) → HasSingleModel lines → models_in lines ≡ model_in lines ∷ []
same_model lines h = (agree_lines lines h).models
