-- The models of a text, read one after another.
use Rattle.std.proofs.Common.{◌≡◌, ℕ, ◌+◌, ◌<◌, ◌≤◌, ◌⊎◌, inl, inr, Bool, true, false, not, List, [], ◌∷◌, ◌++◌, Option, None, Some, length, map, drop, take_while, filter_map, refl, sym, ◌∙◌, ap, subst, arith, append_assoc, codes}
use Rattle.std.specs.Option.{option_or}
use Rattle.std.proofs.lemmas.Bool.{cases_lt}
use Rattle.std.proofs.lemmas.List.{append-nil, map-append}
use Rattle.std.proofs.lemmas.List.Elements.{filter_map-append}
use Rattle.std.proofs.lemmas.List.Sums.{take_while-cons}
use Rattle.blif_lex.specs.Words.{Line}
use Rattle.blif_lex.specs.Spans.{nth_line}
use Rattle.blif_unit.specs.declared.fault.BlifFault.{BlifFault}
use Rattle.blif_unit.specs.declared.fault.BlifFault.TheVariants.{Text, NoMemory}
use Rattle.blif_unit.specs.declared.fault.BlifKind.TheVariants.{Misplaced}
use Rattle.blif_unit.specs.Fault.{OnText}
use Rattle.blif_unit.specs.Unit.{Told, Telling, Model}
use Rattle.blif_models.specs.declared.keyword.Keyword.{Keyword}
use Rattle.blif_models.specs.declared.keyword.Keyword.TheVariants.{Model as ModelWord, Inputs, Outputs, Clock, Names, Latch, End, Omitted, Unknown, Row}
use Rattle.blif_models.specs.Words.{after_block, block_at}
use Rattle.blif_models.specs.Statement.{Block, Earlier, earlier, is_row, begins_row, is_model, blocks_of, heads_of, keyword_in, further, word_at}
use Rattle.blif_models.specs.Several.{Section, begins_model, parts_before, named_sections, begins_named, sections_of, name_at, fault_at, fault_in_part, fault_in_parts, fault_in_section, fault_in_sections, fault_of_models, told_in_part, telling_in_part, model_of_section, AreModelsOfLines}
use Rattle.blif_models.specs.Sections.{head_at, IsNewModel, ArePartsFrom, HasModels}
use Rattle.blif_models.proofs.BlockLemmas.{drop-line, blocks-head}
use Rattle.blif_models.proofs.UnitLemmas.{earlier_more, heads_more, rest_none}

-- ---- models among statements

pub model_no_row : (k : Keyword) → is_model k ≡ true → begins_row k ≡ false
model_no_row ModelWord h = refl
model_no_row Inputs h = cc
model_no_row Outputs h = cc
model_no_row Clock h = cc
model_no_row Names h = cc
model_no_row Latch h = cc
model_no_row End h = cc
model_no_row Omitted h = cc
model_no_row Unknown h = cc
model_no_row Row h = cc

pub parts-model : (b : Block) (bs : List Block) → begins_model b ≡ true → parts_before (b ∷ bs) ≡ []
parts-model b bs h = take_while-cons (λ block. not (begins_model block)) b bs ∙ rw h refl

pub parts-plain : (b : Block) (bs : List Block) → begins_model b ≡ false → parts_before (b ∷ bs) ≡ b ∷ parts_before bs
parts-plain b bs h = take_while-cons (λ block. not (begins_model block)) b bs ∙ rw h refl

sections-model : (b : Block) (bs : List Block) → begins_model b ≡ true → named_sections (b ∷ bs) ≡ record { head = Some b; parts = parts_before bs } ∷ named_sections bs
sections-model b bs h = rw h refl

sections-plain : (b : Block) (bs : List Block) → begins_model b ≡ false → named_sections (b ∷ bs) ≡ named_sections bs
sections-plain b bs h = rw h refl

-- the statements from a `.model` on
pub model_block : (lines : List Line) (line : ℕ) → line < length lines → is_model (keyword_in (nth_line lines line)) ≡ true
    → blocks_of (drop line lines) ≡ head_at lines line ∷ blocks_of (drop (line + 1) lines)
model_block lines line inside model =
    ap blocks_of (drop-line lines line inside) ∙ blocks-head (nth_line lines line) (drop (line + 1) lines) (model_no_row (keyword_in (nth_line lines line)) model)

-- ---- the statements of one model

-- The lines from one up to another are statements of one model, and nothing in them is at fault.
pub record HasParts (lines : List Line) (start line : ℕ) (seen : Earlier) (body : List Telling) : Type 0 where
  pub done : List Block
  pub split : parts_before (blocks_of (drop start lines)) ≡ done ++ parts_before (blocks_of (drop line lines))
  pub fault : fault_in_parts [] (parts_before (blocks_of (drop start lines))) ≡ fault_in_parts (heads_of done) (parts_before (blocks_of (drop line lines)))
  pub rest : named_sections (blocks_of (drop start lines)) ≡ named_sections (blocks_of (drop line lines))
  pub seen_is : seen ≡ earlier (heads_of done)
  pub body_is : body ≡ filter_map telling_in_part done
  pub begun : start < line → is_model (keyword_in (nth_line lines start)) ≡ false
  pub order : start ≤ line
  pub within : line ≤ length lines
  pub stop : line < length lines → is_row (nth_line lines line) ≡ false

pub parts_begun : (lines : List Line) (start : ℕ) → start ≤ length lines → (start < length lines → is_row (nth_line lines start) ≡ false)
    → HasParts lines start start (earlier []) []
parts_begun lines start within stop = record {
  done = [];
  split = refl;
  fault = refl;
  rest = refl;
  seen_is = refl;
  body_is = refl;
  begun = λ less. absurd (omega arith);
  order = omega arith;
  within = within;
  stop = stop;
}

pub parts_cons : (before : List Line) (b : Block) (bs : List Block)
    → fault_in_parts before (b ∷ bs) ≡ option_or (fault_in_part (earlier before) b) (fault_in_parts (before ++ b.head ∷ []) bs)
unfolding fault_in_parts
parts_cons before b bs = refl

-- what a statement adds to the body
abbrev pub body_with : Option Told → ℕ → List Telling → List Telling
body_with None line body = body
body_with (Some told) line body = body ++ record { line = line; what = told } ∷ []

body_more : (o : Option Told) (b : Block) (done : List Block) → o ≡ told_in_part b
    → body_with o b.head.number (filter_map telling_in_part done) ≡ filter_map telling_in_part (done ++ b ∷ [])
body_more None b done e =
    sym (filter_map-append telling_in_part done (b ∷ []) ∙ rw (← e) (append-nil (filter_map telling_in_part done)))
body_more (Some told) b done e = sym (filter_map-append telling_in_part done (b ∷ []) ∙ rw (← e) refl)

pub parts_more : (o : Option Told) (lines : List Line) (start line end : ℕ) (seen next : Earlier) (body : List Telling)
    → HasParts lines start line seen body
    → blocks_of (drop line lines) ≡ block_at lines line end ∷ blocks_of (drop end lines)
    → is_model (keyword_in (nth_line lines line)) ≡ false
    → fault_in_part seen (block_at lines line end) ≡ None
    → next ≡ after_block (block_at lines line end) seen
    → o ≡ told_in_part (block_at lines line end)
    → line < end → end ≤ length lines → (end < length lines → is_row (nth_line lines end) ≡ false)
    → HasParts lines start end next (body_with o (nth_line lines line).number body)
parts_more o lines start line end seen next body r first plain lawful later told onward within stop =
    let b = block_at lines line end in
    let heads = heads_of r.done in
    let lawful' : fault_in_part (earlier heads) b ≡ None = rw (← r.seen_is) lawful in
    let parts : parts_before (blocks_of (drop line lines)) ≡ b ∷ parts_before (blocks_of (drop end lines)) = ap parts_before first ∙ parts-plain b (blocks_of (drop end lines)) plain in
    record {
      done = r.done ++ b ∷ [];
      split = r.split ∙ ap (λ bs. r.done ++ bs) parts ∙ sym (append_assoc r.done (b ∷ []) (parts_before (blocks_of (drop end lines))));
      fault = r.fault ∙ ap (fault_in_parts heads) parts ∙ parts_cons heads b (parts_before (blocks_of (drop end lines))) ∙ rw (lawful', heads_more r.done b) refl;
      rest = r.rest ∙ ap named_sections first ∙ sections-plain b (blocks_of (drop end lines)) plain;
      seen_is = later ∙ ap (after_block b) r.seen_is ∙ sym (earlier_more heads b.head) ∙ ap earlier (sym (heads_more r.done b));
      body_is = ap (body_with o b.head.number) r.body_is ∙ body_more o b r.done told;
      begun = λ less. elim (cases_lt start line) [
        | inl before ↦ r.begun before
        | inr past ↦ let here : start ≡ line = let order = r.order in omega (arith, order) in subst (λ n. is_model (keyword_in (nth_line lines n)) ≡ false) (sym here) plain
      ];
      order = omega (arith, r.order);
      within = within;
      stop = stop;
    }

-- a fault of the next statement is that of the model's statements
pub part_broken : (e : BlifFault) (lines : List Line) (start line end : ℕ) (seen : Earlier) (body : List Telling)
    → HasParts lines start line seen body
    → blocks_of (drop line lines) ≡ block_at lines line end ∷ blocks_of (drop end lines)
    → is_model (keyword_in (nth_line lines line)) ≡ false
    → OnText e (λ f. fault_in_part seen (block_at lines line end) ≡ Some f)
    → OnText e (λ f. fault_in_parts [] (parts_before (blocks_of (drop start lines))) ≡ Some f)
part_broken (Text at kind) lines start line end seen body r first plain h =
    let b = block_at lines line end in
    let parts : parts_before (blocks_of (drop line lines)) ≡ b ∷ parts_before (blocks_of (drop end lines)) = ap parts_before first ∙ parts-plain b (blocks_of (drop end lines)) plain in
    let here : fault_in_part (earlier (heads_of r.done)) b ≡ Some (at, kind) = rw (← r.seen_is) h in
    r.fault ∙ ap (fault_in_parts (heads_of r.done)) parts ∙ parts_cons (heads_of r.done) b (parts_before (blocks_of (drop end lines))) ∙ rw here refl
part_broken NoMemory lines start line end seen body r first plain h = tt

nothing_before : (lines : List Line) (line : ℕ) → (line < length lines → is_model (keyword_in (nth_line lines line)) ≡ true)
    → (line < length lines) ⊎ (length lines ≤ line) → parts_before (blocks_of (drop line lines)) ≡ []
nothing_before lines line model (inl inside) =
    ap parts_before (model_block lines line inside (model inside)) ∙ parts-model (head_at lines line) (blocks_of (drop (line + 1) lines)) (model inside)
nothing_before lines line model (inr past) = ap parts_before (rest_none lines line past)

-- All statements of the model are read.
pub parts_done : (lines : List Line) (start line : ℕ) (seen : Earlier) (body : List Telling) → HasParts lines start line seen body
    → (line < length lines → is_model (keyword_in (nth_line lines line)) ≡ true) → ArePartsFrom lines start line body
unfolding fault_in_parts
parts_done lines start line seen body r model =
    let none : parts_before (blocks_of (drop line lines)) ≡ [] = nothing_before lines line model (cases_lt line (length lines)) in
    let whole : parts_before (blocks_of (drop start lines)) ≡ r.done = r.split ∙ ap (λ bs. r.done ++ bs) none ∙ append-nil r.done in
    record {
      lawful = r.fault ∙ ap (fault_in_parts (heads_of r.done)) none;
      told = r.body_is ∙ ap (filter_map telling_in_part) (sym whole);
      rest = r.rest;
      begun = r.begun;
      order = r.order;
      within = r.within;
      stop = model;
    }

-- ---- models one after another

pub sections_cons : (names : List (List ℕ)) (s : Section) (ss : List Section)
    → fault_in_sections names (s ∷ ss) ≡ option_or (fault_in_section names s) (fault_in_sections (names ++ name_at s.head ∷ []) ss)
unfolding fault_in_sections
sections_cons names s ss = refl

begins_named_at : (lines : List Line) → 0 < length lines → is_model (keyword_in (nth_line lines 0)) ≡ true → begins_named (blocks_of lines) ≡ true
begins_named_at lines some model = rw (model_block lines 0 some model) model

-- the first line is a `.model`
pub models_begun : (lines : List Line) → take_while is_row lines ≡ [] → 0 < length lines → is_model (keyword_in (nth_line lines 0)) ≡ true
    → HasModels lines 0 [] []
models_begun lines none some model =
    let named : begins_named (blocks_of lines) ≡ true = begins_named_at lines some model in
    let split : sections_of (blocks_of lines) ≡ named_sections (blocks_of lines) = rw named refl in
    record {
      done = [];
      split = split;
      fault = rw (none, split) refl;
      models_is = refl;
      within = omega arith;
      stop = λ inside. model;
    }

not_named : (lines : List Line) → take_while is_row lines ≡ [] → (0 < length lines → is_model (keyword_in (nth_line lines 0)) ≡ false)
    → (0 < length lines → is_row (nth_line lines 0) ≡ false) → begins_named (blocks_of lines) ≡ false
unfolding blocks_of
not_named [] none plain row = refl
not_named (l ∷ lines) none plain row = let head : is_row l ≡ false = row (omega arith) in rw head (plain (omega arith))

-- the first model has no `.model`
pub models_unnamed : (lines : List Line) (end : ℕ) (body : List Telling) → take_while is_row lines ≡ []
    → (0 < length lines → is_model (keyword_in (nth_line lines 0)) ≡ false) → (0 < length lines → is_row (nth_line lines 0) ≡ false)
    → ArePartsFrom lines 0 end body
    → HasModels lines end (codes "top" ∷ []) (record { name = codes "top"; line = 0; body = body } ∷ [])
models_unnamed lines end body none plain row p =
    let s : Section = record { head = None; parts = parts_before (blocks_of lines) } in
    let unnamed : begins_named (blocks_of lines) ≡ false = not_named lines none plain row in
    let split : sections_of (blocks_of lines) ≡ s ∷ named_sections (blocks_of (drop end lines)) = rw (unnamed, ← p.rest) refl in
    let lawful : fault_in_section [] s ≡ None = p.lawful in
    record {
      done = s ∷ [];
      split = split;
      fault = rw (none, split) (sections_cons [] s (named_sections (blocks_of (drop end lines))) ∙ rw lawful refl);
      models_is = rw (← p.told) refl;
      within = p.within;
      stop = p.stop;
    }

-- the section that begins at a `.model`
section_at : (lines : List Line) (line end : ℕ) (body : List Telling) → line < length lines → is_model (keyword_in (nth_line lines line)) ≡ true
    → ArePartsFrom lines (line + 1) end body
    → named_sections (blocks_of (drop line lines))
    ≡ record { head = Some (head_at lines line); parts = parts_before (blocks_of (drop (line + 1) lines)) } ∷ named_sections (blocks_of (drop end lines))
section_at lines line end body inside model p =
    ap named_sections (model_block lines line inside model)
    ∙ sections-model (head_at lines line) (blocks_of (drop (line + 1) lines)) model
    ∙ ap (λ ss. record { head = Some (head_at lines line); parts = parts_before (blocks_of (drop (line + 1) lines)) } ∷ ss) p.rest

pub models_more : (lines : List Line) (line end : ℕ) (names : List (List ℕ)) (models : List Model) (name : List ℕ) (body : List Telling)
    → HasModels lines line names models → line < length lines → IsNewModel names lines line name → ArePartsFrom lines (line + 1) end body
    → HasModels lines end (names ++ word_at (further (nth_line lines line)) 0 ∷ [])
    (models ++ record { name = name; line = (nth_line lines line).number; body = body } ∷ [])
models_more lines line end names models name body r inside new p =
    let s : Section = record { head = Some (head_at lines line); parts = parts_before (blocks_of (drop (line + 1) lines)) } in
    let rest = named_sections (blocks_of (drop end lines)) in
    let here : named_sections (blocks_of (drop line lines)) ≡ s ∷ rest = section_at lines line end body inside (r.stop inside) p in
    let lawful : fault_in_section names s ≡ None = rw (new.lawful, p.lawful) refl in
    record {
      done = r.done ++ s ∷ [];
      split = r.split ∙ ap (λ ss. r.done ++ ss) here ∙ sym (append_assoc r.done (s ∷ []) rest);
      fault = r.fault ∙ ap (fault_in_sections names) here ∙ sections_cons names s rest ∙ rw lawful refl;
      models_is = rw (r.models_is, new.is, p.told) (sym (map-append model_of_section r.done (s ∷ [])));
      within = p.within;
      stop = p.stop;
    }

-- a fault at a `.model` is that of the lines
pub head_broken : (e : BlifFault) (lines : List Line) (line : ℕ) (names : List (List ℕ)) (models : List Model)
    → HasModels lines line names models → line < length lines
    → OnText e (λ f. fault_at names (Some (head_at lines line)) ≡ Some f) → OnText e (λ f. fault_of_models lines ≡ Some f)
head_broken (Text at kind) lines line names models r inside h =
    let b = head_at lines line in
    let bs = blocks_of (drop (line + 1) lines) in
    let s : Section = record { head = Some b; parts = parts_before bs } in
    let here : named_sections (blocks_of (drop line lines)) ≡ s ∷ named_sections bs
    = ap named_sections (model_block lines line inside (r.stop inside)) ∙ sections-model b bs (r.stop inside) in
    let faulty : fault_in_section names s ≡ Some (at, kind) = rw h refl in
    r.fault ∙ ap (fault_in_sections names) here ∙ sections_cons names s (named_sections bs) ∙ rw faulty refl
head_broken NoMemory lines line names models r inside h = tt

-- a fault in the statements of a model is that of the lines
pub parts_broken : (e : BlifFault) (lines : List Line) (line : ℕ) (names : List (List ℕ)) (models : List Model) (name : List ℕ)
    → HasModels lines line names models → line < length lines → IsNewModel names lines line name
    → OnText e (λ f. fault_in_parts [] (parts_before (blocks_of (drop (line + 1) lines))) ≡ Some f) → OnText e (λ f. fault_of_models lines ≡ Some f)
parts_broken (Text at kind) lines line names models name r inside new h =
    let b = head_at lines line in
    let bs = blocks_of (drop (line + 1) lines) in
    let s : Section = record { head = Some b; parts = parts_before bs } in
    let here : named_sections (blocks_of (drop line lines)) ≡ s ∷ named_sections bs
    = ap named_sections (model_block lines line inside (r.stop inside)) ∙ sections-model b bs (r.stop inside) in
    let faulty : fault_in_section names s ≡ Some (at, kind) = rw (new.lawful, h) refl in
    r.fault ∙ ap (fault_in_sections names) here ∙ sections_cons names s (named_sections bs) ∙ rw faulty refl
parts_broken NoMemory lines line names models name r inside new h = tt

-- a fault in the statements of a first model without a `.model` is that of the lines
pub top_broken : (e : BlifFault) (lines : List Line) → take_while is_row lines ≡ []
    → (0 < length lines → is_model (keyword_in (nth_line lines 0)) ≡ false) → (0 < length lines → is_row (nth_line lines 0) ≡ false)
    → OnText e (λ f. fault_in_parts [] (parts_before (blocks_of lines)) ≡ Some f) → OnText e (λ f. fault_of_models lines ≡ Some f)
top_broken (Text at kind) lines none plain row h =
    let s : Section = record { head = None; parts = parts_before (blocks_of lines) } in
    let unnamed : begins_named (blocks_of lines) ≡ false = not_named lines none plain row in
    let split : sections_of (blocks_of lines) ≡ s ∷ named_sections (blocks_of lines) = rw unnamed refl in
    let faulty : fault_in_section [] s ≡ Some (at, kind) = h in
    rw (none, split) (sections_cons [] s (named_sections (blocks_of lines)) ∙ rw faulty refl)
top_broken NoMemory lines none plain row h = tt

-- All lines are read as models.
pub models_done : (lines : List Line) (line : ℕ) (names : List (List ℕ)) (models : List Model) → HasModels lines line names models → length lines ≤ line
    → AreModelsOfLines lines models
unfolding fault_in_sections
models_done lines line names models r past =
    let none : named_sections (blocks_of (drop line lines)) ≡ [] = ap named_sections (rest_none lines line past) in
    let whole : sections_of (blocks_of lines) ≡ r.done = r.split ∙ ap (λ ss. r.done ++ ss) none ∙ append-nil r.done in
    record {
      lawful = r.fault ∙ ap (fault_in_sections names) none;
      all = r.models_is ∙ ap (map model_of_section) (sym whole);
    }

-- A fault before the first `.model` is that of the lines.
pub top_faulty : (e : BlifFault) (lines : List Line) → take_while is_row lines ≡ [] → (0 < length lines → is_row (nth_line lines 0) ≡ false)
    → OnText e (λ f. fault_in_parts [] (parts_before (blocks_of lines)) ≡ Some f) → OnText e (λ f. fault_of_models lines ≡ Some f)
unfolding fault_in_parts
top_faulty (Text at kind) lines none row h = by_test (is_model (keyword_in (nth_line lines 0))) refl
  where
    by_test : (t : Bool) → is_model (keyword_in (nth_line lines 0)) ≡ t → fault_of_models lines ≡ Some (at, kind)
    by_test true is = elim (cases_lt 0 (length lines)) [
      | inl some ↦
          let nothing : parts_before (blocks_of lines) ≡ [] = nothing_before lines 0 (λ _. is) (inl some) in
          let no : fault_in_parts [] [] ≡ Some (at, kind) = ap (fault_in_parts []) (sym nothing) ∙ h in
          cc
      | inr past ↦ top_broken (Text at kind) lines none (λ some. absurd (omega (arith, some, past))) row h
    ]
    by_test false is = top_broken (Text at kind) lines none (λ _. is) row h
top_faulty NoMemory lines none row h = tt

-- rows before any statement
pub row_first : (lines : List Line) (row : Line) (rows : List Line) → take_while is_row lines ≡ row ∷ rows → fault_of_models lines ≡ Some (row.number, Misplaced)
row_first lines row rows h = rw h refl
