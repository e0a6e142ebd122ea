-- What every command does, said once for all of them: how its run ends, by its status, with the cause of each status, what the files
-- hold afterwards and what was said; and which statuses come where the files are told. What a command is of its own stands in a
-- record: the files that it reads and writes, which texts it refuses, and what it makes of the others.
use Rattle.std.specs.Prelude.{◌≡◌, ◌≢◌, ◌⊎◌, ℕ, ◌<◌, ◌≤◌, List, [], ◌∷◌, ◌++◌, Option, Some, IsSome, IfSome, map, take, length}
use Rattle.std.specs.List.{flat_map, AllByRecursion}
use Rattle.tm_store.specs.Faults.{Rose}
use Rattle.tm_store.specs.Files.{Files}
use Rattle.tm_store.specs.Said.{Appends}
use Rattle.turbomap.specs.declared.status.Status.{Status}
use Rattle.turbomap.specs.declared.status.Status.TheVariants.{Done, NoMemory, BadWords, Unread, Unwritten, BadText, TooLong, NotAccepted}
use Rattle.turbomap.specs.Line.{no_memory_line, unread_line, unwritten_line, too_long_line}

-- ---- a command

-- a file that is read: its name, and the most bytes that its text may have
pub record Input : Type 0 where
  pub name : List ℕ
  pub limit : ℕ

abbrev pub input_of : List ℕ → ℕ → Input
input_of name limit = record { name = name; limit = limit }

-- a file that is written: its name, and the bytes that it then holds
pub record Write : Type 0 where
  pub name : List ℕ
  pub bytes : List ℕ

abbrev pub write_of : List ℕ → List ℕ → Write
write_of name bytes = record { name = name; bytes = bytes }

-- A command. Each relation speaks of the texts of the files read, in their order.
pub record Command : Type 1 where
  -- the files that are read, in order
  pub inputs : List Input
  -- the names of the files that are written, in order
  pub outputs : List (List ℕ)
  -- the texts are refused with this status, and this line says why
  pub Refuses : List (List ℕ) → Status → List ℕ → Type 0
  -- the texts can be worked on
  pub Accepts : List (List ℕ) → Type 0
  -- what is written and which lines are said
  pub Makes : List (List ℕ) → List Write → List (List ℕ) → Type 0

-- ---- a store and a sayer before and after a call, as far as they tell

-- a store: its files where it tells them, and the counts of failed reads and failed writes of each name
pub record Stored : Type 0 where
  pub before : Option Files
  pub after : Option Files
  pub unread_before : List ℕ → ℕ
  pub unread_after : List ℕ → ℕ
  pub unwritten_before : List ℕ → ℕ
  pub unwritten_after : List ℕ → ℕ

-- a sayer: what was said where it tells that, and its count of faults
pub record Spoken : Type 0 where
  pub before : Option (List ℕ)
  pub after : Option (List ℕ)
  pub faults_before : ℕ
  pub faults_after : ℕ

pub record Around : Type 0 where
  pub stored : Stored
  pub spoken : Spoken

-- a store that tells by these functions, before and after
abbrev pub stored : {S : Type 0} → (S → Option Files) → (S → List ℕ → ℕ) → (S → List ℕ → ℕ) → S → S → Stored
stored held unread unwritten old new = record {
  before = held old;
  after = held new;
  unread_before = unread old;
  unread_after = unread new;
  unwritten_before = unwritten old;
  unwritten_after = unwritten new;
}

-- a sayer that tells by these functions, before and after
abbrev pub spoken : {W : Type 0} → (W → Option (List ℕ)) → (W → ℕ) → W → W → Spoken
spoken said faults old new = record {
  before = said old;
  after = said new;
  faults_before = faults old;
  faults_after = faults new;
}

-- both
abbrev pub around : {S W : Type 0} → (S → Option Files) → (S → List ℕ → ℕ) → (S → List ℕ → ℕ) → (W → Option (List ℕ)) → (W → ℕ)
    → S → S → W → W → Around
around held unread unwritten said faults old_store new_store old_say new_say = record {
  stored = stored held unread unwritten old_store new_store;
  spoken = spoken said faults old_say new_say;
}

-- ---- what was said

-- the bytes of lines, each with its LF
abbrev pub lines_text : List (List ℕ) → List ℕ
lines_text lines = flat_map (λ line. line ++ 10 ∷ []) lines

-- the lines were said, each with its LF
abbrev pub SaysAll : Spoken → List (List ℕ) → Type 0
SaysAll spoken lines = Appends spoken.before spoken.after (lines_text lines)

-- the sayer's count rose at one of the lines: those before it were said, and of it and its LF a first part
pub record SaysPart (spoken : Spoken) (lines : List (List ℕ)) : Type 0 where
  pub counted : Rose spoken.faults_before spoken.faults_after
  pub whole : List (List ℕ)
  pub failed : List ℕ
  pub unsaid : List (List ℕ)
  pub lines_are : lines ≡ whole ++ failed ∷ unsaid
  pub part : IfSome spoken.before
      (λ said. ((n : ℕ) × (spoken.after ≡ Some (said ++ lines_text whole ++ take n (failed ++ 10 ∷ [])))))

-- the one line was said, or a part of it where the sayer's count rose
abbrev pub Says : Spoken → List ℕ → Type 0
Says spoken line = SaysAll spoken (line ∷ []) ⊎ SaysPart spoken (line ∷ [])

-- ---- what files hold

-- no file changed
abbrev pub IsUnchanged : Stored → Type 0
IsUnchanged stored = stored.after ≡ stored.before

-- the name is none of these
abbrev pub IsApart : List ℕ → List (List ℕ) → Type 0
IsApart name names = AllByRecursion (λ other. name ≢ other) names

-- each file written holds its bytes
abbrev pub AreHeld : List Write → Files → Type 0
AreHeld writes files = AllByRecursion (λ write. files write.name ≡ Some write.bytes) writes

-- the names of the files written
abbrev pub names_of : List Write → List (List ℕ)
names_of writes = map (λ write. write.name) writes

-- from the files of old to those of new: each file written holds its bytes, nothing is known of the names that are lost, and every
-- other name holds what it held
pub record AreFilesAfter (writes : List Write) (lost : List (List ℕ)) (old new : Files) : Type 0 where
  pub held : AreHeld writes new
  pub others : (name : List ℕ) → IsApart name (names_of writes ++ lost) → new name ≡ old name

-- Where files were told they still are, so changed. Where nothing was written or lost, no file changed.
pub record IsChangedBy (writes : List Write) (lost : List (List ℕ)) (before after : Option Files) : Type 0 where
  pub tells : IsSome before → IsSome after
  pub files : IfSome before (λ old. IfSome after (AreFilesAfter writes lost old))
  pub idle : names_of writes ++ lost ≡ [] → after ≡ before

-- all was written; what was written last is held also where files were not told before
pub record IsWritten (writes : List Write) (before after : Option Files) : Type 0 where
  pub changed : IsChangedBy writes [] before after
  pub last : (earlier : List Write) (write : Write) → writes ≡ earlier ++ write ∷ []
      → IfSome after (λ files. files write.name ≡ Some write.bytes)

-- ---- the texts that are read

-- the text is within the limit of the file and, where files are told, what the file holds
pub record IsText (told : Option Files) (input : Input) (text : List ℕ) : Type 0 where
  pub held : IfSome told (λ files. files input.name ≡ Some text)
  pub short : length text ≤ input.limit

-- the file's text is longer than its limit
pub record IsOver (told : Option Files) (input : Input) : Type 0 where
  pub text : List ℕ
  pub held : IfSome told (λ files. files input.name ≡ Some text)
  pub long : input.limit < length text

-- the texts of the files, one of each, in order
abbrev pub AreTexts : Option Files → List Input → List (List ℕ) → Type 0
AreTexts told [] [] = Unit {0}
AreTexts told (input ∷ inputs) (text ∷ texts) = IsText told input text × AreTexts told inputs texts
AreTexts told inputs texts = ⊥

-- ---- why a command ends before its first write and its first line

-- the read of the file failed: its count of failed reads rose, and the line names it
pub record IsUnread (input : Input) (stored : Stored) (line : List ℕ) : Type 0 where
  pub counted : Rose (stored.unread_before input.name) (stored.unread_after input.name)
  pub line_is : line ≡ unread_line input.name

-- the file is longer than its limit, and the line names it
pub record IsTooLong (input : Input) (stored : Stored) (line : List ℕ) : Type 0 where
  pub over : IsOver stored.before input
  pub line_is : line ≡ too_long_line input.name

-- the file does not give its text
abbrev pub IsFileRefused : Input → Stored → Status → List ℕ → Type 0
IsFileRefused input stored Unread line = IsUnread input stored line
IsFileRefused input stored TooLong line = IsTooLong input stored line
IsFileRefused input stored _ line = ⊥

-- one of the files does not give its text: the first does not, or it does and one of the later ones does not
abbrev pub IsSomeFileRefused : List Input → Stored → Status → List ℕ → Type 0
IsSomeFileRefused [] stored status line = ⊥
IsSomeFileRefused (input ∷ inputs) stored status line =
    IsFileRefused input stored status line
    ⊎ (((text : List ℕ) × IsText stored.before input text) × IsSomeFileRefused inputs stored status line)

-- all files gave their texts, and these are refused
pub record AreTextsRefused (command : Command) (told : Option Files) (status : Status) (line : List ℕ) : Type 0 where
  pub texts : List (List ℕ)
  pub read : AreTexts told command.inputs texts
  pub refused : command.Refuses texts status line

-- The cause of a status and its line. Files are refused before texts; want of memory may come at any time.
abbrev pub IsCause : Command → Stored → Status → List ℕ → Type 0
IsCause command stored NoMemory line = line ≡ no_memory_line
IsCause command stored Unread line = IsSomeFileRefused command.inputs stored Unread line
IsCause command stored TooLong line =
    IsSomeFileRefused command.inputs stored TooLong line ⊎ AreTextsRefused command stored.before TooLong line
IsCause command stored BadText line = AreTextsRefused command stored.before BadText line
IsCause command stored NotAccepted line = AreTextsRefused command stored.before NotAccepted line
IsCause command stored _ line = ⊥

-- no file changed, and the line was said for which there is such a cause
pub record IsRefused (command : Command) (around : Around) (status : Status) : Type 0 where
  pub unchanged : IsUnchanged around.stored
  pub line : List ℕ
  pub cause : IsCause command around.stored status line
  pub says : Says around.spoken line

-- ---- how a command ends that was not refused

-- all was written, and all lines were said
pub record IsDone (writes : List Write) (lines : List (List ℕ)) (around : Around) : Type 0 where
  pub written : IsWritten writes around.stored.before around.stored.after
  pub says : SaysAll around.spoken lines

-- a write failed, and its file's count of failed writes rose: those before it were done and no later one, and the line names it
pub record FailsToWrite (writes : List Write) (around : Around) : Type 0 where
  pub written : List Write
  pub failed : Write
  pub unwritten : List Write
  pub writes_are : writes ≡ written ++ failed ∷ unwritten
  pub counted : Rose (around.stored.unwritten_before failed.name) (around.stored.unwritten_after failed.name)
  pub changed : IsChangedBy written (failed.name ∷ []) around.stored.before around.stored.after
  pub says : Says around.spoken (unwritten_line failed.name)

-- all was written, but not all lines were said
pub record FailsToSay (writes : List Write) (lines : List (List ℕ)) (around : Around) : Type 0 where
  pub written : IsWritten writes around.stored.before around.stored.after
  pub says : SaysPart around.spoken lines

-- the command read its files, and it ended with what it made of their texts
pub record Works (command : Command) (told : Option Files) (Ends : List Write → List (List ℕ) → Type 0) : Type 0 where
  pub texts : List (List ℕ)
  pub read : AreTexts told command.inputs texts
  pub writes : List Write
  pub lines : List (List ℕ)
  pub made : command.Makes texts writes lines
  pub named : names_of writes ≡ command.outputs
  pub ends : Ends writes lines

-- ---- what each status says

abbrev pub Runs : Command → Around → Status → Type 0
Runs command around Done = Works command around.stored.before (λ writes lines. IsDone writes lines around)
Runs command around Unwritten =
    Works command around.stored.before (λ writes lines. FailsToWrite writes around ⊎ FailsToSay writes lines around)
Runs command around BadWords = ⊥
Runs command around status = IsRefused command around status

-- ---- which statuses come where files are told

-- the files are told, where there are any
abbrev pub AreTold : Option Files → List Input → Type 0
AreTold told [] = Unit {0}
AreTold told (input ∷ inputs) = IsSome told

-- the texts of all files are told, and they are refused with this status
pub record AreToldRefused (command : Command) (told : Option Files) (status : Status) : Type 0 where
  pub tells : IsSome told
  pub line : List ℕ
  pub refused : AreTextsRefused command told status line

-- one of the files is over its limit
abbrev pub IsSomeOver : Option Files → List Input → Type 0
IsSomeOver told [] = ⊥
IsSomeOver told (input ∷ inputs) = IsOver told input ⊎ IsSomeOver told inputs

-- one of the files is told to be longer than its limit, or what is to be made of the texts is
pub record IsToldOver (command : Command) (told : Option Files) : Type 0 where
  pub tells : IsSome told
  pub over : IsSomeOver told command.inputs

abbrev pub IsToldLong : Command → Option Files → Type 0
IsToldLong command told = IsToldOver command told ⊎ AreToldRefused command told TooLong

-- the texts of all files are told, and they can be worked on
pub record AreToldAccepted (command : Command) (told : Option Files) : Type 0 where
  pub tells : AreTold told command.inputs
  pub texts : List (List ℕ)
  pub read : AreTexts told command.inputs texts
  pub accepted : command.Accepts texts

-- no count of faults rose: of failed reads for a file read, of failed writes for a file written, or of the sayer
pub record IsFaultless (command : Command) (around : Around) : Type 0 where
  pub reads : AllByRecursion
      (λ input. ¬ (Rose (around.stored.unread_before input.name) (around.stored.unread_after input.name))) command.inputs
  pub writes : AllByRecursion
      (λ name. ¬ (Rose (around.stored.unwritten_before name) (around.stored.unwritten_after name))) command.outputs
  pub lines : ¬ (Rose around.spoken.faults_before around.spoken.faults_after)
