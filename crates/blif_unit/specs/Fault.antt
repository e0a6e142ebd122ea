-- The first fault of a text, and what an answer says of it.
use Rattle.std.specs.Prelude.{◌≡◌, ℕ}
use Rattle.blif_lex.specs.declared.fault.LexFault.{LexFault}
use Rattle.blif_lex.specs.declared.fault.LexFault.TheVariants as lex
use Rattle.blif_lex.specs.declared.fault.LexKind.{LexKind}
use Rattle.blif_lex.specs.declared.fault.LexKind.TheVariants as lex_kind
use Rattle.blif_unit.specs.declared.fault.BlifFault.{BlifFault}
use Rattle.blif_unit.specs.declared.fault.BlifFault.TheVariants.{Text, NoMemory}
use Rattle.blif_unit.specs.declared.fault.BlifKind.{BlifKind}
use Rattle.blif_unit.specs.declared.fault.BlifKind.TheVariants.{BadByte, LongName}

-- a fault and its line
abbrev pub Faulty : Type 0
Faulty = ℕ × BlifKind

-- A fact about the fault that a call answers. Want of memory says nothing of the text.
abbrev pub OnText : BlifFault → (Faulty → Type 0) → Type 0
OnText (Text line kind) P = P (line, kind)
OnText NoMemory P = Unit {0}

abbrev pub kind_of : LexKind → BlifKind
kind_of lex_kind.BadByte = BadByte
kind_of lex_kind.LongName = LongName

-- The fault is that of a text's words.
abbrev pub IsLexed : LexFault → Faulty → Type 0
IsLexed (lex.Text line kind) fault = fault ≡ (line, kind_of kind)
IsLexed lex.NoMemory fault = ⊥

-- a fault of the words as one of the text
abbrev pub fault_by : LexFault → BlifFault
fault_by (lex.Text line kind) = Text line (kind_of kind)
fault_by lex.NoMemory = NoMemory
