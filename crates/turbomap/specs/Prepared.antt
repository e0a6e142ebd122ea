-- What a command has ready before its first write, what ends it before that, and how it ends from there on: the values of the code as
-- those of the definitions.
use Rattle.std.specs.Prelude.{◌≡◌, ◌⊎◌, ℕ, List, [], ◌∷◌, ◌++◌, Option, map, string_bytes}
use Rattle.std.specs.List.{AllByRecursion}
use Rattle.tm_store.specs.Files.{Files}
use Rattle.turbomap.specs.declared.ready.Output.{Output}
use Rattle.turbomap.specs.declared.ready.Ready.{Ready}
use Rattle.turbomap.specs.declared.refusal.Refusal.{Refusal}
use Rattle.turbomap.specs.declared.refusal.Refusal.TheVariants as refusal
use Rattle.turbomap.specs.declared.status.Status.{Status}
use Rattle.turbomap.specs.declared.status.Status.TheVariants as status
use Rattle.turbomap.specs.Command.{Input, Write, write_of, Command, Stored, Around, IsApart, names_of, AreTexts, IsUnread, IsTooLong, IsCause, IsChangedBy, IsDone, FailsToWrite, FailsToSay}
use Rattle.turbomap.specs.Line.{no_memory_line, unwritten_line}
use Rattle.tm_store.specs.Faults.{Rose}

-- ---- what is ready

abbrev pub seen : Output → Write
seen output = write_of output.name.now output.bytes.items

abbrev pub writes_of : Ready → List Write
writes_of ready = map seen ready.outputs.items

abbrev pub lines_of : Ready → List (List ℕ)
lines_of ready = map (λ line. line.items) ready.lines.items

-- names that differ pairwise
abbrev pub AreApart : List (List ℕ) → Type 0
AreApart [] = Unit {0}
AreApart (name ∷ names) = IsApart name names × AreApart names

-- the line for a failed write names the file
abbrev pub SaysUnwritten : Output → Type 0
SaysUnwritten output = string_bytes output.unwritten ≡ unwritten_line output.name.now

-- files that can be written in turn: their names differ, and each has its line
pub record AreOutputs (outputs : List Output) : Type 0 where
  pub apart : AreApart (names_of (map seen outputs))
  pub lines : AllByRecursion SaysUnwritten outputs

-- these files are to be written, and one line is to be said
pub record AreReady (writes : List Write) (line : List ℕ) (ready : Ready) : Type 0 where
  pub writes_are : writes_of ready ≡ writes
  pub lines_are : lines_of ready ≡ line ∷ []
  pub outputs : AreOutputs ready.outputs.items

-- what the command makes of the texts is ready
pub record IsMade (command : Command) (texts : List (List ℕ)) (ready : Ready) : Type 0 where
  pub made : command.Makes texts (writes_of ready) (lines_of ready)
  pub named : names_of (writes_of ready) ≡ command.outputs
  pub outputs : AreOutputs ready.outputs.items

-- what the command makes of the texts of its files is ready
pub record IsReady (command : Command) (told : Option Files) (ready : Ready) : Type 0 where
  pub texts : List (List ℕ)
  pub read : AreTexts told command.inputs texts
  pub made : IsMade command texts ready

-- ---- what ends a command before its first write

-- the status of a refusal, and the line that it says
abbrev pub status_of : Refusal → Status
status_of refusal.NoMemory = status.NoMemory
status_of (refusal.Unread line) = status.Unread
status_of (refusal.BadText line) = status.BadText
status_of (refusal.TooLong line) = status.TooLong
status_of (refusal.NotAccepted line) = status.NotAccepted

abbrev pub line_of : Refusal → List ℕ
line_of refusal.NoMemory = no_memory_line
line_of (refusal.Unread line) = string_bytes line
line_of (refusal.BadText line) = string_bytes line
line_of (refusal.TooLong line) = string_bytes line
line_of (refusal.NotAccepted line) = string_bytes line

-- there is a cause for the refusal
abbrev pub HasCause : Command → Stored → Refusal → Type 0
HasCause command stored why = IsCause command stored (status_of why) (line_of why)

-- why a file does not give its text; want of memory says nothing
abbrev pub IsFileRefusal : Input → Stored → Refusal → Type 0
IsFileRefusal input stored refusal.NoMemory = Unit {0}
IsFileRefusal input stored (refusal.Unread line) = IsUnread input stored (string_bytes line)
IsFileRefusal input stored (refusal.BadText line) = ⊥
IsFileRefusal input stored (refusal.TooLong line) = IsTooLong input stored (string_bytes line)
IsFileRefusal input stored (refusal.NotAccepted line) = ⊥

-- why texts are refused; want of memory says nothing
abbrev pub IsTextRefusal : Command → List (List ℕ) → Refusal → Type 0
IsTextRefusal command texts refusal.NoMemory = Unit {0}
IsTextRefusal command texts (refusal.Unread line) = ⊥
IsTextRefusal command texts (refusal.BadText line) = command.Refuses texts status.BadText (string_bytes line)
IsTextRefusal command texts (refusal.TooLong line) = command.Refuses texts status.TooLong (string_bytes line)
IsTextRefusal command texts (refusal.NotAccepted line) = command.Refuses texts status.NotAccepted (string_bytes line)

-- ---- from the first write on

-- a write failed: those before it were done and no later one, and the line is for it
pub record IsUnwritten (outputs : List Output) (stored : Stored) (line : List ℕ) : Type 0 where
  pub written : List Output
  pub failed : Output
  pub unwritten : List Output
  pub outputs_are : outputs ≡ written ++ failed ∷ unwritten
  pub counted : Rose (stored.unwritten_before failed.name.now) (stored.unwritten_after failed.name.now)
  pub changed : IsChangedBy (map seen written) (failed.name.now ∷ []) stored.before stored.after
  pub line_is : line ≡ unwritten_line failed.name.now

abbrev pub IsDelivered : Ready → Around → Status → Type 0
IsDelivered ready around status.Done = IsDone (writes_of ready) (lines_of ready) around
IsDelivered ready around status.Unwritten =
    FailsToWrite (writes_of ready) around ⊎ FailsToSay (writes_of ready) (lines_of ready) around
IsDelivered ready around _ = ⊥
