-- Statements of a text with several models: those that place a model, and the others as in a text with one.
use Rattle.std.proofs.Common.{◌≡◌, ℕ, true, false, List, [], ◌∷◌, None, Some, length, slice_index_or, refl, ◌∙◌, ap, codes, bytes_eq}
use Rattle.std.specs.List.{list_any}
use Rattle.std.proofs.lemmas.List.{append-nil}
use Rattle.std.proofs.lemmas.Slice.Eq.{bytes_eq-Decides}
use Rattle.blif_lex.specs.Words.{Line, places_model}
use Rattle.blif_unit.specs.declared.fault.BlifFault.{BlifFault}
use Rattle.blif_unit.specs.declared.fault.BlifFault.TheVariants.{Text, NoMemory}
use Rattle.blif_unit.specs.declared.fault.BlifKind.TheVariants.{Misplaced}
use Rattle.blif_unit.specs.Fault.{OnText}
use Rattle.blif_models.specs.declared.keyword.Keyword.TheVariants.{Omitted}
use Rattle.blif_models.specs.Keyword.{keyword_at, left_out}
use Rattle.blif_models.specs.Words.{after_block, IsHeadFault}
use Rattle.blif_models.specs.Statement.{Block, Earlier, keyword_in, further, word_at, fault_in_block}
use Rattle.blif_models.specs.Several.{place_in, fault_in_place, fault_in_part, told_in_part, fault_in_model, fault_at}
use Rattle.blif_models.proofs.UnitLemmas.{or_false, or_right}

-- a line that places a model is told by a word that is left out of a text with one
subckt_keyword : keyword_at (codes ".subckt") ≡ Omitted
unfolding keyword_at left_out
subckt_keyword = refl

pub place_keyword : (line : Line) → places_model line.words ≡ true → keyword_in line ≡ Omitted
place_keyword line h = by_words line.words h
  where
    by_words : (ws : List (List ℕ)) → places_model ws ≡ true → keyword_at (slice_index_or ws 0 []) ≡ Omitted
    by_words [] h = cc
    by_words (w ∷ ws) h = ap keyword_at ((bytes_eq-Decides w (codes ".subckt")).0 h) ∙ subckt_keyword

pub place_faulty : (e : BlifFault) (before : Earlier) (b : Block) → places_model b.head.words ≡ true
    → IsHeadFault e b.head.number (fault_in_place before (further b.head)) → OnText e (λ f. fault_in_part before b ≡ Some f)
unfolding fault_in_part
place_faulty (Text line kind) before b is (l, h) = rw (is, h, l) refl
place_faulty NoMemory before b is h = tt

pub place_misplaced : (before : Earlier) (b : Block) (row : Line) (rows : List Line) → places_model b.head.words ≡ true → fault_in_place before (further b.head) ≡ None
    → b.rows ≡ row ∷ rows → fault_in_part before b ≡ Some (row.number, Misplaced)
unfolding fault_in_part
place_misplaced before b row rows is h r = let k = place_keyword b.head is in rw (is, h, k, r) refl

pub place_lawful : (before : Earlier) (b : Block) → places_model b.head.words ≡ true → fault_in_place before (further b.head) ≡ None → b.rows ≡ [] → fault_in_part before b ≡ None
unfolding fault_in_part
place_lawful before b is h r = let k = place_keyword b.head is in rw (is, h, k, r) refl

pub place_after : (before : Earlier) (b : Block) → places_model b.head.words ≡ true → after_block b before ≡ record before { some = true }
place_after before b is =
    let k = place_keyword b.head is in
    rw (k, or_false before.named, or_false before.ended, append-nil before.drivers, append-nil before.outputs, or_right before.clock, or_right before.control) refl

pub place_told : (b : Block) → places_model b.head.words ≡ true → told_in_part b ≡ Some (place_in (further b.head))
place_told b is = rw is refl

pub part_is_block : (before : Earlier) (b : Block) → places_model b.head.words ≡ false → fault_in_part before b ≡ fault_in_block before b
unfolding fault_in_part fault_in_block
part_is_block before b is = rw is refl

pub part_faulty : (e : BlifFault) (before : Earlier) (b : Block) → places_model b.head.words ≡ false → OnText e (λ f. fault_in_block before b ≡ Some f)
    → OnText e (λ f. fault_in_part before b ≡ Some f)
part_faulty (Text line kind) before b is h = part_is_block before b is ∙ h
part_faulty NoMemory before b is h = tt

-- ---- a `.model`

pub model_lawful : (names ws : List (List ℕ)) → length ws ≡ 1 → list_any (bytes_eq (word_at ws 0)) names ≡ false → fault_in_model names ws ≡ None
model_lawful names ws one fresh = rw (one, fresh) refl

pub model_rows : (names : List (List ℕ)) (b : Block) (row : Line) (rows : List Line) → fault_in_model names (further b.head) ≡ None → b.rows ≡ row ∷ rows
    → fault_at names (Some b) ≡ Some (row.number, Misplaced)
model_rows names b row rows h r = rw (h, r) refl
