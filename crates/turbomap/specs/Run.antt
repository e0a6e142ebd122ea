-- What the answer of the program says, by what the words ask for.
use Rattle.std.specs.Prelude.{◌≡◌, ℕ, Option, None, Some, IsSomeAnd}
use Rattle.tm_store.specs.Files.{Files}
use Rattle.turbomap.specs.declared.status.Status.{Status}
use Rattle.turbomap.specs.declared.status.Status.TheVariants.{Done, NoMemory, BadWords, Unread, Unwritten, BadText, TooLong, NotAccepted}
use Rattle.turbomap.specs.Command as command
use Rattle.turbomap.specs.Command.{Command, Around, IsUnchanged, Says, Runs}
use Rattle.turbomap.specs.Line.{bad_words_line}
use Rattle.turbomap.specs.Bound.{bound_command}
use Rattle.turbomap.specs.Check.{check_command}
use Rattle.turbomap.specs.Large.{large_command}
use Rattle.turbomap.specs.Map.{rule_of, map_command}
use Rattle.turbomap.specs.Show.{show_command}
use Rattle.turbomap.specs.Simulate.{sim_command}
use Rattle.turbomap.specs.Words.{Asked, map_files, check_files, sim_files, show_file, large_sample, bound_file}

-- the number that stands for a status
abbrev pub number : Status → ℕ
number Done = 0
number NoMemory = 1
number BadWords = 2
number Unread = 3
number Unwritten = 4
number BadText = 5
number TooLong = 6
number NotAccepted = 7

-- the command that is asked for
abbrev pub command_of : Asked → Command
command_of (map_files rows k d input output certificate) = map_command (rule_of rows) k d input output certificate
command_of (check_files k d input output certificate) = check_command k d input output certificate
command_of (sim_files input vectors output) = sim_command input vectors output
command_of (show_file input) = show_command input
command_of (large_sample number k d) = large_command number k d
command_of (bound_file k d b input) = bound_command k d b input

-- words without a reading are refused, and no file changed
pub record IsRefusedWords (around : Around) : Type 0 where
  pub unchanged : IsUnchanged around.stored
  pub says : Says around.spoken bad_words_line

-- What a status says.
abbrev pub IsRun : Option Asked → Around → Status → Type 0
IsRun None around BadWords = IsRefusedWords around
IsRun None around status = ⊥
IsRun (Some asked) around status = Runs (command_of asked) around status

-- The answer is the number of a status that says what was done.
pub record Answers (asked : Option Asked) (around : Around) (answer : ℕ) : Type 0 where
  pub status : Status
  pub number_is : answer ≡ number status
  pub says : IsRun asked around status

-- A file that is read is told to be longer than its limit, or what is to be made is.
abbrev pub IsToldLong : Option Asked → Option Files → Type 0
IsToldLong asked told = IsSomeAnd asked (λ a. command.IsToldLong (command_of a) told)

-- No file that is read is longer than its limit, and their texts are told to be refused with this status.
abbrev pub IsToldRefused : Option Asked → Option Files → Status → Type 0
IsToldRefused asked told status = IsSomeAnd asked (λ a. command.AreToldRefused (command_of a) told status)

-- What is asked for can be done with the files told.
abbrev pub IsToldAccepted : Option Asked → Option Files → Type 0
IsToldAccepted asked told = IsSomeAnd asked (λ a. command.AreToldAccepted (command_of a) told)

-- No count of faults rose for a file read or written, nor the sayer's.
abbrev pub IsFaultless : Option Asked → Around → Type 0
IsFaultless asked around = IsSomeAnd asked (λ a. command.IsFaultless (command_of a) around)
