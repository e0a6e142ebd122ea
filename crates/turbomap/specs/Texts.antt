-- The first fault of a text that is read as BLIF or as AIGER, and the line that says it.
use Rattle.std.specs.Prelude.{◌≡◌, ℕ, List}
use Rattle.blif_read.specs.declared.Limits.{Limits}
use Rattle.text_read.specs.declared.fault.TextKind.{TextKind}
use Rattle.text_read.specs.Texts.{IsFaultOf}
use Rattle.turbomap.specs.declared.status.Status.{Status}
use Rattle.turbomap.specs.declared.status.Status.TheVariants.{BadText}
use Rattle.turbomap.specs.Kind.{text_kind_name}
use Rattle.turbomap.specs.Line.{fault_line}

-- the text of the file has a first fault, which the line says
pub record IsFaultyText (limits : Limits) (name text : List ℕ) (status : Status) (line : List ℕ) : Type 0 where
  pub number : ℕ
  pub kind : TextKind
  pub first : IsFaultOf limits text (number, kind)
  pub status_is : status ≡ BadText
  pub line_is : line ≡ fault_line name number (text_kind_name kind)
