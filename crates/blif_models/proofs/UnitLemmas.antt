-- The model of the lines, statement by statement.
use Rattle.std.proofs.Common.{◌≡◌, ℕ, ◌<◌, ◌≤◌, Bool, true, false, ◌||◌, List, [], ◌∷◌, ◌++◌, Option, None, Some, length, drop, take_while, find, filter_map, option_map, slice_get, refl, sym, ◌∙◌, ap, arith, append_assoc, if◌then◌else◌, codes}
use Rattle.std.specs.Option.{option_or}
use Rattle.std.specs.List.{list_any}
use Rattle.std.proofs.lemmas.List.{append-nil, map-append}
use Rattle.std.proofs.lemmas.List.Folds.{find-append, list_any-append}
use Rattle.std.proofs.lemmas.List.Elements.{filter_map-append}
use Rattle.std.proofs.lemmas.Grind.{flat_map-append}
use Rattle.blif_lex.specs.Words.{Line}
use Rattle.blif_lex.specs.Spans.{nth_line}
use Rattle.blif_unit.specs.declared.fault.BlifFault.{BlifFault}
use Rattle.blif_unit.specs.declared.fault.BlifFault.TheVariants.{Text, NoMemory}
use Rattle.blif_models.specs.declared.heads.Said.{Said}
use Rattle.blif_models.specs.declared.heads.Said.TheVariants as said
use Rattle.blif_models.specs.declared.keyword.Keyword.{Keyword}
use Rattle.blif_models.specs.declared.keyword.Keyword.TheVariants.{Model, Inputs, Outputs, Clock, Names, Latch, End, Omitted, Unknown, Row}
use Rattle.blif_unit.specs.Unit.{Telling, told_of}
use Rattle.blif_unit.specs.Fault.{OnText}
use Rattle.blif_models.specs.Lines.{model_in, model_line, name_among, number_among}
use Rattle.blif_models.proofs.BlockLemmas.{drop-all}
use Rattle.blif_models.specs.Words.{after, after_block, block_at, told_by, name_by, told_in_block, named_in_block}
use Rattle.blif_models.specs.Statement.{Block, Earlier, earlier, is_row, is_model, is_end, is_some_line, blocks_of, heads_of, keyword_in, further, word_at, over_lines, drivers_in, outputs_in, clocks_in, controls_in, fault_in_block, fault_in_blocks, fault_in_head, fault_of_lines, telling_in}

-- ---- what the rules ask after one more statement

pub or_false : (b : Bool) → (b || false) ≡ b
or_false true = refl
or_false false = refl

pub first_of_both : {X : Type 0} (xs ys : List X) → slice_get (xs ++ ys) 0 ≡ option_or (slice_get xs 0) (slice_get ys 0)
first_of_both [] ys = refl
first_of_both (x ∷ xs) ys = refl

pub over_more : {A : Type 0} (f : Keyword → List (List ℕ) → List A) (lines : List Line) (l : Line)
    → over_lines f (lines ++ l ∷ []) ≡ over_lines f lines ++ f (keyword_in l) (further l)
over_more f lines l =
    flat_map-append (λ line. f (keyword_in line) (further line)) lines (l ∷ [])
    ∙ ap (λ xs. over_lines f lines ++ xs) (append-nil (f (keyword_in l) (further l)))

pub any_more : (p : Line → Bool) (lines : List Line) (l : Line) → list_any p (lines ++ l ∷ []) ≡ (list_any p lines || p l)
any_more p lines l = list_any-append p lines (l ∷ []) ∙ ap (λ b. list_any p lines || b) (or_false (p l))

pub some_more : (lines : List Line) (l : Line) → is_some_line (lines ++ l ∷ []) ≡ true
some_more [] l = refl
some_more (line ∷ lines) l = refl

pub earlier_more : (lines : List Line) (l : Line) → earlier (lines ++ l ∷ []) ≡ after (keyword_in l) (further l) (earlier lines)
earlier_more lines l =
    rw (
      some_more lines l,
      any_more (λ line. is_model (keyword_in line)) lines l,
      any_more (λ line. is_end (keyword_in line)) lines l,
      over_more drivers_in lines l,
      over_more outputs_in lines l,
      over_more clocks_in lines l,
      over_more controls_in lines l,
      first_of_both (over_lines clocks_in lines) (clocks_in (keyword_in l) (further l)),
      first_of_both (over_lines controls_in lines) (controls_in (keyword_in l) (further l)),
    ) refl

-- ---- the name

pub find_none : (p : Line → Bool) (lines : List Line) → list_any p lines ≡ false → find p lines ≡ None
find_none p [] h = refl
find_none p (l ∷ lines) h = by_test (p l) refl (find_none p lines)
  where
    by_test : (t : Bool) → p l ≡ t → (list_any p lines ≡ false → find p lines ≡ None) → find p (l ∷ lines) ≡ None
    by_test true is more = let no : true ≡ false = rw is at h in cc
    by_test false is more = let rest : list_any p lines ≡ false = rw is at h in rw is (more rest)

pub or_none : {X : Type 0} (a b : Option X) → option_or a b ≡ None → a ≡ None
or_none None b h = refl
or_none (Some x) b h = h

pub or_right : {X : Type 0} (a : Option X) → option_or a None ≡ a
or_right None = refl
or_right (Some x) = refl

pub mapped_none : {X Y : Type 0} (f : X → Y) (a : Option X) → option_map f a ≡ None → a ≡ None
mapped_none f None h = refl
mapped_none f (Some x) h = cc

-- a lawful `.model` is the first
pub first_model : (k : Keyword) (before : Earlier) (ws : List (List ℕ)) → fault_in_head k before ws ≡ None → is_model k ≡ true → before.named ≡ false
unfolding fault_in_head
first_model Model before ws h m = by_test before.named refl
  where
    by_test : (t : Bool) → before.named ≡ t → before.named ≡ false
    by_test true is = let no : _ ≡ None = rw is at h in cc
    by_test false is = is
first_model Inputs before ws h m = cc
first_model Outputs before ws h m = cc
first_model Clock before ws h m = cc
first_model Names before ws h m = cc
first_model Latch before ws h m = cc
first_model End before ws h m = cc
first_model Omitted before ws h m = cc
first_model Unknown before ws h m = cc
first_model Row before ws h m = cc

pub lawful_head : (before : Earlier) (b : Block) → fault_in_block before b ≡ None → fault_in_head (keyword_in b.head) before (further b.head) ≡ None
unfolding fault_in_block
lawful_head before b h = mapped_none _ _ (or_none _ _ h)

-- ---- what is kept after a statement

abbrev pub name_after : Said → List ℕ → List ℕ
name_after (said.Model n) name = n
name_after _ name = name

abbrev pub number_after : Said → ℕ → ℕ → ℕ
number_after (said.Model n) line number = line
number_after _ line number = number

abbrev pub body_after : Said → ℕ → List Telling → List Telling
body_after (said.Body what) line body = body ++ record { line = line; what = told_of what } ∷ []
body_after _ line body = body

pub body_more : (s : Said) (b : Block) (body : List Telling) → told_by s ≡ told_in_block b
    → body_after s b.head.number body ≡ body ++ filter_map telling_in (b ∷ [])
body_more (said.Body what) b body e = rw (← e) refl
body_more (said.Model n) b body e = rw (← e) (sym (append-nil body))
body_more said.Nothing b body e = rw (← e) (sym (append-nil body))

-- the `.model` line after one more statement
pub model_more : (heads : List Line) (h : Line) → model_line (heads ++ h ∷ []) ≡ option_or (model_line heads) (if is_model (keyword_in h) then Some h else None)
model_more heads h = find-append (λ line. is_model (keyword_in line)) heads (h ∷ [])

pub named_model : (h : Line) (n : List ℕ) → Some n ≡ (if is_model (keyword_in h) then Some (word_at (further h) 0) else None)
    → (is_model (keyword_in h) ≡ true) × (n ≡ word_at (further h) 0)
named_model h n e = by_test (is_model (keyword_in h)) refl
  where
    by_test : (t : Bool) → is_model (keyword_in h) ≡ t → (is_model (keyword_in h) ≡ true) × (n ≡ word_at (further h) 0)
    by_test true is = (is, let same : Some n ≡ Some (word_at (further h) 0) = rw is at e in cc)
    by_test false is = let no : Some n ≡ None = rw is at e in cc

pub named_none : (h : Line) → None ≡ (if is_model (keyword_in h) then Some (word_at (further h) 0) else None) → is_model (keyword_in h) ≡ false
named_none h e = by_test (is_model (keyword_in h)) refl
  where
    by_test : (t : Bool) → is_model (keyword_in h) ≡ t → is_model (keyword_in h) ≡ false
    by_test true is = let no : None ≡ Some (word_at (further h) 0) = rw is at e in cc
    by_test false is = is

-- The lines up to one are read: these statements are done, and nothing in them is at fault.
pub record HasRead (lines : List Line) (line : ℕ) (seen : Earlier) (name : List ℕ) (number : ℕ) (body : List Telling) : Type 0 where
  pub done : List Block
  pub split : blocks_of lines ≡ done ++ blocks_of (drop line lines)
  pub fault : fault_of_lines lines ≡ fault_in_blocks (heads_of done) (blocks_of (drop line lines))
  pub seen_is : seen ≡ earlier (heads_of done)
  pub body_is : body ≡ filter_map telling_in done
  pub name_is : name ≡ name_among (heads_of done)
  pub number_is : number ≡ number_among (heads_of done)
  pub within : line ≤ length lines
  pub stop : line < length lines → is_row (nth_line lines line) ≡ false

pub begun : (lines : List Line) → take_while is_row lines ≡ [] → (0 < length lines → is_row (nth_line lines 0) ≡ false)
    → HasRead lines 0 (earlier []) (codes "top") 0 []
begun lines none stop = record {
  done = [];
  split = refl;
  fault = rw none refl;
  seen_is = refl;
  body_is = refl;
  name_is = refl;
  number_is = refl;
  within = omega arith;
  stop = stop;
}

pub blocks_cons : (before : List Line) (b : Block) (blocks : List Block)
    → fault_in_blocks before (b ∷ blocks) ≡ option_or (fault_in_block (earlier before) b) (fault_in_blocks (before ++ b.head ∷ []) blocks)
unfolding fault_in_blocks
blocks_cons before b blocks = refl

pub heads_more : (done : List Block) (b : Block) → heads_of (done ++ b ∷ []) ≡ heads_of done ++ b.head ∷ []
heads_more done b = map-append (λ block. block.head) done (b ∷ [])

pub name_more : (s : Said) (heads : List Line) (b : Block) (name : List ℕ) → name ≡ name_among heads → name_by s ≡ named_in_block b
    → (is_model (keyword_in b.head) ≡ true → model_line heads ≡ None) → name_after s name ≡ name_among (heads ++ b.head ∷ [])
name_more (said.Model n) heads b name is e first =
    let m = named_model b.head n e in
    let none : model_line heads ≡ None = first m.0 in
    rw (model_more heads b.head, none, m.0) m.1
name_more (said.Body what) heads b name is e first =
    let no = named_none b.head e in rw (model_more heads b.head, no, or_right (model_line heads)) is
name_more said.Nothing heads b name is e first =
    let no = named_none b.head e in rw (model_more heads b.head, no, or_right (model_line heads)) is

pub number_more : (s : Said) (heads : List Line) (b : Block) (number : ℕ) → number ≡ number_among heads → name_by s ≡ named_in_block b
    → (is_model (keyword_in b.head) ≡ true → model_line heads ≡ None) → number_after s b.head.number number ≡ number_among (heads ++ b.head ∷ [])
number_more (said.Model n) heads b number is e first =
    let m = named_model b.head n e in
    let none : model_line heads ≡ None = first m.0 in
    rw (model_more heads b.head, none, m.0) refl
number_more (said.Body what) heads b number is e first =
    let no = named_none b.head e in rw (model_more heads b.head, no, or_right (model_line heads)) is
number_more said.Nothing heads b number is e first =
    let no = named_none b.head e in rw (model_more heads b.head, no, or_right (model_line heads)) is

pub has_read_more : (s : Said) (lines : List Line) (line end : ℕ) (seen next : Earlier) (name : List ℕ) (number : ℕ) (body : List Telling)
    → HasRead lines line seen name number body
    → blocks_of (drop line lines) ≡ block_at lines line end ∷ blocks_of (drop end lines)
    → fault_in_block seen (block_at lines line end) ≡ None
    → next ≡ after_block (block_at lines line end) seen
    → told_by s ≡ told_in_block (block_at lines line end) → name_by s ≡ named_in_block (block_at lines line end)
    → end ≤ length lines → (end < length lines → is_row (nth_line lines end) ≡ false)
    → HasRead lines end next (name_after s name) (number_after s (nth_line lines line).number number) (body_after s (nth_line lines line).number body)
has_read_more s lines line end seen next name number body r first lawful later told named within stop =
    let b = block_at lines line end in
    let heads = heads_of r.done in
    let lawful' : fault_in_block (earlier heads) b ≡ None = rw (← r.seen_is) lawful in
    let one_model : is_model (keyword_in b.head) ≡ true → model_line heads ≡ None
    = λ m. find_none (λ l. is_model (keyword_in l)) heads (first_model (keyword_in b.head) (earlier heads) (further b.head) (lawful_head (earlier heads) b lawful') m) in
    record {
      done = r.done ++ b ∷ [];
      split = r.split ∙ ap (λ bs. r.done ++ bs) first ∙ sym (append_assoc r.done (b ∷ []) (blocks_of (drop end lines)));
      fault = r.fault ∙ ap (fault_in_blocks heads) first ∙ blocks_cons heads b (blocks_of (drop end lines)) ∙ rw (lawful', heads_more r.done b) refl;
      seen_is = later ∙ ap (after_block b) r.seen_is ∙ sym (earlier_more heads b.head) ∙ ap earlier (sym (heads_more r.done b));
      body_is = body_more s b body told ∙ ap (λ ts. ts ++ filter_map telling_in (b ∷ [])) r.body_is ∙ sym (filter_map-append telling_in r.done (b ∷ []));
      name_is = name_more s heads b name r.name_is named one_model ∙ ap name_among (sym (heads_more r.done b));
      number_is = number_more s heads b number r.number_is named one_model ∙ ap number_among (sym (heads_more r.done b));
      within = within;
      stop = stop;
    }

-- a fault of the next statement is that of the lines
pub broken : (e : BlifFault) (lines : List Line) (line end : ℕ) (seen : Earlier) (name : List ℕ) (number : ℕ) (body : List Telling)
    → HasRead lines line seen name number body
    → blocks_of (drop line lines) ≡ block_at lines line end ∷ blocks_of (drop end lines)
    → OnText e (λ f. fault_in_block seen (block_at lines line end) ≡ Some f) → OnText e (λ f. fault_of_lines lines ≡ Some f)
broken (Text at kind) lines line end seen name number body r first h =
    let b = block_at lines line end in
    let here : fault_in_block (earlier (heads_of r.done)) b ≡ Some (at, kind) = rw (← r.seen_is) h in
    r.fault ∙ ap (fault_in_blocks (heads_of r.done)) first ∙ blocks_cons (heads_of r.done) b (blocks_of (drop end lines)) ∙ rw here refl
broken NoMemory lines line end seen name number body r first h = tt

pub rest_none : (lines : List Line) (line : ℕ) → length lines ≤ line → blocks_of (drop line lines) ≡ []
unfolding blocks_of
rest_none lines line le = ap blocks_of (drop-all lines line le)

-- All lines are read: none is at fault.
pub all_lawful : (lines : List Line) (line : ℕ) (seen : Earlier) (name : List ℕ) (number : ℕ) (body : List Telling)
    → HasRead lines line seen name number body → length lines ≤ line → fault_of_lines lines ≡ None
unfolding fault_in_blocks
all_lawful lines line seen name number body r le = r.fault ∙ ap (fault_in_blocks (heads_of r.done)) (rest_none lines line le)

-- All lines are read: what is kept is their model.
pub all_told : (lines : List Line) (line : ℕ) (seen : Earlier) (name : List ℕ) (number : ℕ) (body : List Telling)
    → HasRead lines line seen name number body → length lines ≤ line
    → record { name = name; line = number; body = body } ≡ model_in lines
all_told lines line seen name number body r le =
    let whole : blocks_of lines ≡ r.done = r.split ∙ ap (λ bs. r.done ++ bs) (rest_none lines line le) ∙ append-nil r.done in
    rw (whole, r.name_is, r.number_is, r.body_is) refl
