-- A certificate as plain numbers and lists, its text, and what a text is a certificate of.
--     LF 10, blank 32, `.` 46, `0` 48
use Rattle.std.specs.Prelude.{◌≡◌, ◌⊎◌, ℕ, ◌+◌, ◌<◌, ◌≤◌, List, [], ◌∷◌, ◌++◌, map, length, codes, All}
use Rattle.std.specs.List.{flat_map, join_with_byte}
use Rattle.std.specs.Fmt.{decimal}
use Rattle.tm_bits.specs.Limits.{most_inputs}
use Rattle.tm_unroll.specs.declared.node.Node.{Node}
use Rattle.tm_unroll.specs.Mappings.{Table, tables_of}
use Rattle.tm_replay.specs.Replays.{Drop, drop_of}
use Rattle.cert_text.specs.declared.cert.Cert.{Cert}
use Rattle.cert_text.specs.Limits.{most_number, most_drops, most_steps}

-- A certificate: the version of its rules, the period that it is for, the tables of a mapping, and the drops of a replay.
pub record Certificate : Type 0 where
  pub version : ℕ
  pub period : ℕ
  pub tables : List Table
  pub drops : List Drop

-- A certificate as plain numbers and lists, whatever room its lists have to spare.
abbrev pub certificate_of : Cert → Certificate
certificate_of cert = record {
  version = cert.version;
  period = cert.period;
  tables = tables_of cert.mapping;
  drops = map drop_of cert.drops.items;
}

-- ---- what can be spelled

-- A leaf that can be spelled.
pub record HasSpellingLeaf (x : Node) : Type 0 where
  pub signal : x.signal ≤ most_number
  pub advance : x.advance ≤ most_steps

-- A table that can be spelled.
pub record HasSpellingTable (t : Table) : Type 0 where
  pub gate : t.gate ≤ most_number
  pub lag : t.lag ≤ most_steps
  pub leaves : All HasSpellingLeaf t.leaves

-- A walk that can be spelled: it leaves a node, and each index is one of a gate's pins.
pub record HasSpellingWalk (walk : List ℕ) : Type 0 where
  pub some : 0 < length walk
  pub indices : All (λ index. index < most_inputs) walk

-- The walks of a drop that can be spelled: there is one, and each can be spelled.
pub record HasSpellingWalks (walks : List (List ℕ)) : Type 0 where
  pub some : 0 < length walks
  pub each : All HasSpellingWalk walks

-- A drop that can be spelled.
pub record HasSpellingDrop (d : Drop) : Type 0 where
  pub gate : d.gate ≤ most_number
  pub lag : d.lag ≤ most_steps
  pub arrival : d.arrival ≤ most_number
  pub walks : HasSpellingWalks d.walks

-- A certificate that can be spelled: there are two versions, and each number is within its bound.
pub record HasSpelling (c : Certificate) : Type 0 where
  pub version : (c.version ≡ 1) ⊎ (c.version ≡ 2)
  pub period : c.period ≤ most_number
  pub few_tables : length c.tables ≤ most_number
  pub tables : All HasSpellingTable c.tables
  pub few_drops : length c.drops ≤ most_drops
  pub drops : All HasSpellingDrop c.drops

-- ---- the text, as lines of words

-- The word of a leaf: its signal, a dot, and its advance.
abbrev pub leaf_word : Node → List ℕ
leaf_word x = decimal x.signal ++ 46 ∷ decimal x.advance

-- The word of a walk: a digit for each index.
abbrev pub walk_word : List ℕ → List ℕ
walk_word walk = map (λ index. 48 + index) walk

-- The line of a word and a number.
abbrev pub counted : List ℕ → ℕ → List (List ℕ)
counted word number = word ∷ decimal number ∷ []

-- The line of a table.
abbrev pub table_words : Table → List (List ℕ)
table_words t = codes "table" ∷ decimal t.gate ∷ decimal t.lag ∷ map leaf_word t.leaves

-- The line of a drop.
abbrev pub drop_words : Drop → List (List ℕ)
drop_words d = codes "drop" ∷ decimal d.gate ∷ decimal d.lag ∷ decimal d.arrival ∷ map walk_word d.walks

-- The lines of a certificate, in order.
abbrev pub certificate_words : Certificate → List (List (List ℕ))
certificate_words c =
    (counted (codes "turbomap") c.version ∷ counted (codes "period") c.period ∷ counted (codes "tables") (length c.tables)
    ∷ map table_words c.tables)
    ++ (counted (codes "drops") (length c.drops) ∷ map drop_words c.drops)
    ++ (codes "end" ∷ []) ∷ []

-- The bytes of a line: its words with a blank between each two, and an LF.
abbrev pub line_text : List (List ℕ) → List ℕ
line_text words = join_with_byte 32 words ++ 10 ∷ []

-- A word behind a blank, as it stands after the first word of a line.
abbrev pub further_word : List ℕ → List ℕ
further_word word = 32 ∷ word

-- The text of a certificate.
unfoldable pub certificate_text : Certificate → List ℕ
certificate_text c = flat_map line_text (certificate_words c)

-- The text is that of a certificate that can be spelled.
pub record IsCertificateOf (text : List ℕ) (c : Certificate) : Type 0 where
  pub spelled : HasSpelling c
  pub written : text ≡ certificate_text c
