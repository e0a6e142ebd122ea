-- A text that may be read by either rules: those on texts with one model, and those on texts with several.
use Rattle.std.specs.Prelude.{◌≡◌, ℕ, false, List, length}
use Rattle.std.specs.List.{AllByRecursion}
use Rattle.blif_lex.specs.Words.{Line, lines_of, places_model}
use Rattle.blif_models.specs.Several.{models_in}

-- The lines have one model, and none of them is a `.subckt`.
pub record HasSingleModel (lines : List Line) : Type 0 where
  pub single : length (models_in lines) ≡ 1
  pub alone : AllByRecursion (λ line. places_model line.words ≡ false) lines

-- The same of a text, whether or not something in it is at fault.
abbrev pub IsSingle : List ℕ → Type 0
IsSingle text = HasSingleModel (lines_of text)
