-- What the steps of a check come to.
use Rattle.std.specs.Prelude.{◌≡◌, ◌⊎◌, ℕ, List}
use Rattle.tm_circuit.specs.Plain.{Plain}
use Rattle.tm_replay.specs.declared.fault.DropFault.{DropFault}
use Rattle.tm_replay.specs.Replays.{Drop}
use Rattle.cert_check.specs.declared.verdict.Verdict.{Verdict}
use Rattle.cert_check.specs.declared.verdict.Verdict.TheVariants.{Yes, No}
use Rattle.cert_check.specs.declared.verdict.Why.TheVariants.{Unfinished}
use Rattle.cert_check.specs.Accepted.{ShowLeast, IsDropFault, IsUnfinished}
use Rattle.cert_check.specs.Reasons.{why_of_drop}

-- A verdict tells the first fault of drops.
abbrev pub TellsDropFault : Plain → ℕ → ℕ → ℕ → List Drop → Verdict → Type 0
TellsDropFault c k d period drops verdict =
    (fault : DropFault) × IsDropFault period c k d drops fault × (verdict ≡ No fault.entry (why_of_drop fault.why))

-- The verdict on drops, where all before them is right.
abbrev pub IsVerdictOnDrops : Plain → ℕ → ℕ → ℕ → List Drop → Verdict → Type 0
IsVerdictOnDrops c k d period drops verdict =
    (ShowLeast period c k d drops × (verdict ≡ Yes))
    ⊎ (TellsDropFault c k d period drops verdict ⊎ (IsUnfinished period c k d drops × (verdict ≡ No 0 Unfinished)))
