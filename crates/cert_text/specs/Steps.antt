-- What one step over a text does: lines that are due are taken from its front, or the text stops at its first fault.
use Rattle.std.specs.Prelude.{◌≡◌, ℕ, ◌+◌, ◌<◌, Bool, true, false, List, [], ◌∷◌, ◌++◌, map, length, replicate, None}
use Rattle.std.specs.List.{AllZip}
use Rattle.cert_text.specs.declared.keyword.Keyword.{Keyword}
use Rattle.cert_text.specs.declared.keyword.Keyword.TheVariants as keywords
use Rattle.cert_text.specs.declared.fault.CertFault.{CertFault}
use Rattle.cert_text.specs.declared.fault.CertFault.TheVariants.{Text, NoMemory}
use Rattle.cert_text.specs.declared.fault.CertKind.TheVariants.{Number}
use Rattle.cert_text.specs.Limits.{most_number, most_drops}
use Rattle.cert_text.specs.Words.{words_in, number_on}
use Rattle.cert_text.specs.Faults.{Form, first, later, fault_in, has_words, IsFirstAt}

-- Lines have the forms, one for one.
abbrev pub HaveForms : List Form → List (List ℕ) → Type 0
HaveForms forms lines = AllZip (λ form line. fault_in form line ≡ None) forms lines

-- Pieces begin with lines of these forms, and others follow.
pub record Takes (forms : List Form) (pieces lines rest : List (List ℕ)) : Type 0 where
  pub whole : pieces ≡ lines ++ rest
  pub some : 0 < length rest
  pub each : HaveForms forms lines

-- The fault is the first of pieces where these forms are due, of which the first stands on this line.
abbrev pub StopsAt : List Form → List (List ℕ) → ℕ → CertFault → Type 0
StopsAt forms pieces start (Text line kind) = (place : ℕ) × (line ≡ start + place) × IsFirstAt forms pieces place kind
StopsAt forms pieces start NoMemory = Unit {0}

-- The same, whatever is due after these forms.
abbrev pub Stops : List Form → List (List ℕ) → ℕ → CertFault → Type 0
Stops forms pieces start fault = (others : List Form) → StopsAt (forms ++ others) pieces start fault

-- The forms of the first three lines.
abbrev pub head_forms : List Form
head_forms = first ∷ later keywords.Period ∷ later keywords.Tables ∷ []

-- The greatest number on the line of a keyword that tells one.
abbrev pub IsMost : Keyword → ℕ → Type 0
IsMost keywords.Period most = most ≡ most_number
IsMost keywords.Tables most = most ≡ most_number
IsMost keywords.Table most = ⊥
IsMost keywords.Drops most = most ≡ most_drops
IsMost keywords.Drop most = ⊥
IsMost keywords.End most = ⊥

-- Pieces begin with a line that has these words, which are a keyword's, and others follow.
pub record IsLine (keyword : Keyword) (pieces words rest : List (List ℕ)) : Type 0 where
  pub line : List ℕ
  pub whole : pieces ≡ line ∷ rest
  pub some : 0 < length rest
  pub are_words : words ≡ words_in line
  pub lawful : has_words keyword words ≡ true

-- A test of words on a line failed.
abbrev pub Refuses : ℕ → Bool → CertFault → Type 0
Refuses number test (Text line kind) = (line ≡ number) × (kind ≡ Number) × (test ≡ false)
Refuses number test NoMemory = Unit {0}

-- Pieces begin with a line of this form that tells a number, and others follow.
pub record TakesNumber (form : Form) (pieces : List (List ℕ)) (number : ℕ) (rest : List (List ℕ)) : Type 0 where
  pub line : List ℕ
  pub taken : Takes (form ∷ []) pieces (line ∷ []) rest
  pub told : number ≡ number_on line

-- Pieces begin with three lines, which tell the version, the period and the number of tables, and others follow.
pub record TakesHead (pieces : List (List ℕ)) (version period tables : ℕ) (rest : List (List ℕ)) : Type 0 where
  pub first_line : List ℕ
  pub period_line : List ℕ
  pub tables_line : List ℕ
  pub taken : Takes head_forms pieces (first_line ∷ period_line ∷ tables_line ∷ []) rest
  pub version_told : version ≡ number_on first_line
  pub period_told : period ≡ number_on period_line
  pub tables_told : tables ≡ number_on tables_line

-- Pieces begin with so many lines of a keyword, each of which tells a value, and others follow.
pub record TakesEach {V : Type 0} (keyword : Keyword) (value_on : List ℕ → V) (many : ℕ) (pieces : List (List ℕ)) (values : List V)
    (rest : List (List ℕ)) : Type 0 where
  pub lines : List (List ℕ)
  pub taken : Takes (replicate many (later keyword)) pieces lines rest
  pub told : values ≡ map value_on lines

-- Pieces are the last line, and nothing behind it.
pub record TakesEnd (pieces : List (List ℕ)) : Type 0 where
  pub line : List ℕ
  pub taken : Takes (later keywords.End ∷ []) pieces (line ∷ []) ([] ∷ [])
