-- The circuit and the first fault of a text that is given as input. One that begins with the bytes `aag ` is ASCII AIGER, any
-- other is BLIF, of one or several models.
use Rattle.std.specs.Prelude.{ℕ, Bool, if◌then◌else◌, List, codes, nat_eq, MatchBool}
use Rattle.std.specs.List.{starts_with}
use Rattle.tm_circuit.specs.Plain.{Plain}
use Rattle.blif_read.specs.declared.Limits.{Limits}
use Rattle.blif_read.specs.declared.fault.BlifKind.{BlifKind}
use Rattle.blif_read.specs.declared.fault.BlifKind.TheVariants as blif_kind
use Rattle.blif_hier.specs.Text as blif
use Rattle.blif_hier.specs.Nested as nested
use Rattle.aiger_read.specs.declared.fault.AigerKind.{AigerKind}
use Rattle.aiger_read.specs.declared.fault.AigerKind.TheVariants as aiger_kind
use Rattle.aiger_read.specs.Text as aiger
use Rattle.aiger_read.specs.Trace as bits
use Rattle.text_read.specs.declared.fault.TextKind.{TextKind}
use Rattle.text_read.specs.declared.fault.TextKind.TheVariants.{Blif, Aiger}
use Rattle.text_read.specs.declared.fault.TextFault.{TextFault}
use Rattle.text_read.specs.declared.fault.TextFault.TheVariants.{Text, NoMemory}

-- Whether a text is ASCII AIGER: its first four bytes are these, the blank among them.
abbrev pub is_aiger : List ℕ → Bool
is_aiger text = starts_with nat_eq text (codes "aag ")

-- ---- the circuit

-- The circuit of a text, by the rules on AIGER or by those on BLIF.
abbrev pub IsCircuitOf : Limits → List ℕ → Plain → Type 0
IsCircuitOf limits text c = MatchBool (is_aiger text) (aiger.IsCircuitOf limits text c) (blif.IsCircuitOf limits text c)

-- The circuit shows what the text means: in AIGER the bits of the output literals, in BLIF the bits of the top's outputs, as its
-- models are nested.
abbrev pub ShowsMeaning : Limits → List ℕ → Plain → Type 0
ShowsMeaning limits text c = MatchBool (is_aiger text) (bits.MeansText text c) (nested.MeansText limits text c)

-- ---- the first fault

-- a fault and its line, which is 0 where the fault is one of the whole text
abbrev pub Faulty : Type 0
Faulty = ℕ × TextKind

-- A fact about a kind of fault of BLIF, which is false of those of AIGER, and the other way round.
abbrev pub OfBlif : TextKind → (BlifKind → Type 0) → Type 0
OfBlif (Blif kind) P = P kind
OfBlif (Aiger kind) P = ⊥

abbrev pub OfAiger : TextKind → (AigerKind → Type 0) → Type 0
OfAiger (Blif kind) P = ⊥
OfAiger (Aiger kind) P = P kind

-- The first fault of a BLIF text.
abbrev pub IsBlifFault : Limits → List ℕ → Faulty → Type 0
IsBlifFault limits text fault = OfBlif fault.1 (λ kind. blif.IsFaultOf limits text (fault.0, kind))

-- The first fault of an AIGER text.
abbrev pub IsAigerFault : Limits → List ℕ → Faulty → Type 0
IsAigerFault limits text fault = OfAiger fault.1 (λ kind. aiger.IsFaultOf limits text (fault.0, kind))

-- The first fault of a text, by the rules on AIGER or by those on BLIF, with a kind of these rules.
abbrev pub IsFaultOf : Limits → List ℕ → Faulty → Type 0
IsFaultOf limits text fault = MatchBool (is_aiger text) (IsAigerFault limits text fault) (IsBlifFault limits text fault)

-- The kind that says that a circuit made of the text's has too many signals.
abbrev pub too_many : List ℕ → TextKind
too_many text = if is_aiger text then Aiger aiger_kind.TooManySignals else Blif blif_kind.TooManySignals

-- A fact about the fault that a call answers. Want of memory says nothing of the text.
abbrev pub OnText : TextFault → (Faulty → Type 0) → Type 0
OnText (Text line kind) P = P (line, kind)
OnText NoMemory P = Unit {0}
