-- The clauses of the top call, from what its status says.
use Rattle.std.proofs.Common.{◌≡◌, ◌⊎◌, ◌↔◌, Option, None, Some, refl}
use Rattle.std.specs.Prelude.{IfSome}
use Rattle.turbomap.specs.declared.status.Status.{Status}
use Rattle.turbomap.specs.declared.status.Status.TheVariants.{Done, NoMemory, BadWords, Unread, Unwritten, BadText, TooLong, NotAccepted}
use Rattle.turbomap.specs.Command.{Around}
use Rattle.turbomap.specs.Run.{number, command_of, IsRun, IsToldLong, IsToldRefused, IsToldAccepted, IsFaultless}
use Rattle.turbomap.specs.Words.{Asked}
use Rattle.turbomap.proofs.Decided.{HasTables, decided}
use Rattle.turbomap.proofs.Statuses as statuses

pub words : (asked : Option Asked) (a : Around) (status : Status) → IsRun asked a status → (number status ≡ 2) ↔ (asked ≡ None)
words None a BadWords says = (λ _. refl, λ _. refl)
words None a Done says = absurd says
words None a NoMemory says = absurd says
words None a Unread says = absurd says
words None a Unwritten says = absurd says
words None a BadText says = absurd says
words None a TooLong says = absurd says
words None a NotAccepted says = absurd says
words (Some asked) a BadWords says = absurd says
words (Some asked) a Done says = (λ is. cc, λ is. cc)
words (Some asked) a NoMemory says = (λ is. cc, λ is. cc)
words (Some asked) a Unread says = (λ is. cc, λ is. cc)
words (Some asked) a Unwritten says = (λ is. cc, λ is. cc)
words (Some asked) a BadText says = (λ is. cc, λ is. cc)
words (Some asked) a TooLong says = (λ is. cc, λ is. cc)
words (Some asked) a NotAccepted says = (λ is. cc, λ is. cc)

pub long : (asked : Option Asked) (a : Around) (status : Status) → IfSome asked HasTables → IsRun asked a status → IsToldLong asked a.stored.before
    → (number status ≡ 1) ⊎ ((number status ≡ 3) ⊎ (number status ≡ 6))
long None a status tables says told = absurd told
long (Some asked) a status tables says told = statuses.long (command_of asked) (decided asked tables) a status says told

pub refused : (asked : Option Asked) (a : Around) (status other : Status) → IfSome asked HasTables → IsRun asked a status
    → IsToldRefused asked a.stored.before other → (number status ≡ 1) ⊎ ((number status ≡ 3) ⊎ (number status ≡ number other))
refused None a status other tables says told = absurd told
refused (Some asked) a status other tables says told = statuses.refused (command_of asked) (decided asked tables) a status other says told

pub complete : (asked : Option Asked) (a : Around) (status : Status) → IfSome asked HasTables → IsRun asked a status
    → IsToldAccepted asked a.stored.before → IsFaultless asked a → (number status ≡ 0) ⊎ (number status ≡ 1)
complete None a status tables says told calm = absurd told
complete (Some asked) a status tables says told calm = statuses.complete (command_of asked) (decided asked tables) a status says told calm
