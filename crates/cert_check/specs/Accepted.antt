-- When a circuit, its mapped circuit and a certificate are accepted, and else their first failure, in the order in which they are checked.
use Rattle.std.specs.Prelude.{◌≡◌, ◌≢◌, ◌⊎◌, ℕ, zero, suc, List, []}
use Rattle.tm_circuit.specs.Plain.{Plain}
use Rattle.tm_twins.specs.Joined.{IsJoined}
use Rattle.tm_unroll.specs.declared.node.MapWhy.{MapWhy}
use Rattle.tm_unroll.specs.declared.node.MapWhy.TheVariants as mapping
use Rattle.tm_unroll.specs.Mappings.{IsLawful}
use Rattle.tm_unroll.specs.Faults.{IsFirstFault}
use Rattle.tm_unroll.specs.Chains.{HasChainsWithin}
use Rattle.tm_replay.specs.declared.fault.DropWhy.{DropWhy}
use Rattle.tm_replay.specs.declared.fault.DropWhy.TheVariants as drop
use Rattle.tm_replay.specs.declared.fault.DropFault.{DropFault}
use Rattle.tm_replay.specs.Labels.{first_labels}
use Rattle.tm_replay.specs.Replays.{Drop, Replays, labels_after, HaveLost, Refutes}
use Rattle.tm_replay.specs.Faults as replays
use Rattle.tm_mapped.specs.Mapped.{ByValues, IsMappedBy}
use Rattle.cert_text.specs.Certificates.{Certificate}
use Rattle.cert_check.specs.declared.verdict.Verdict.{Verdict}
use Rattle.cert_check.specs.declared.verdict.Verdict.TheVariants.{Yes, No}
use Rattle.cert_check.specs.declared.verdict.Why.{Why}
use Rattle.cert_check.specs.declared.verdict.Why.TheVariants.{Lag, Leaves, Uncovered, Unserved, Output, Chain, Circuit, Order, TooFew, Path, Shared, Unfinished}

-- ---- accepted, by the circuit over which a certificate is judged

-- The mapping is lawful, its period is at most the certificate's, and the other circuit is its mapped circuit, where each cover
-- has the value of its table on every row of bits.
pub record IsMappedWithin (c mapped : Plain) (cert : Certificate) (k d : ℕ) : Type 0 where
  pub lawful : IsLawful c k d cert.tables
  pub chains : HasChainsWithin cert.tables cert.period
  pub circuit : IsMappedBy ByValues c cert.tables mapped

-- The drops show that no lawful mapping has a period below this one: below 0 there is none, so that there is no drop; otherwise
-- the drops replay and refute the target just below.
abbrev pub ShowLeast : ℕ → Plain → ℕ → ℕ → List Drop → Type 0
ShowLeast zero c k d drops = drops ≡ []
ShowLeast (suc target) c k d drops = Refutes c k d target drops

-- The mapped circuit and the certificate are accepted for a circuit.
pub record IsAcceptedOver (c mapped : Plain) (cert : Certificate) (k d : ℕ) : Type 0 where
  pub mapping : IsMappedWithin c mapped cert k d
  pub least : ShowLeast cert.period c k d cert.drops

-- ---- the first failure

-- The first fault of the mapping has this entry and this reason.
abbrev pub HasMappingFault : Plain → Certificate → ℕ → ℕ → ℕ → MapWhy → Type 0
HasMappingFault c cert k d entry why = IsFirstFault c k d cert.tables (record { entry = entry; why = why })

-- The first drop that fails. For the period 0 no drop is in order, so that the first one fails; otherwise drops are judged each
-- under the labels of its moment in a replay for the target just below.
abbrev pub IsDropFault : ℕ → Plain → ℕ → ℕ → List Drop → DropFault → Type 0
IsDropFault zero c k d drops fault = (drops ≢ []) × (fault ≡ record { entry = 1; why = drop.Order })
IsDropFault (suc target) c k d drops fault = replays.IsFirstFault 0 c k d target drops fault

-- The mapped circuit is right, and the first drop that fails has this entry and this reason.
pub record HasDropFault (c mapped : Plain) (cert : Certificate) (k d entry : ℕ) (why : DropWhy) : Type 0 where
  pub mapping : IsMappedWithin c mapped cert k d
  pub fault : IsDropFault cert.period c k d cert.drops (record { entry = entry; why = why })

-- The drops replay for the target just below a period, but refute nothing: there is no output whose source gate is left without a
-- label. For the period 0 there is nothing to refute.
abbrev pub IsUnfinished : ℕ → Plain → ℕ → ℕ → List Drop → Type 0
IsUnfinished zero c k d drops = ⊥
IsUnfinished (suc target) c k d drops =
    Replays 0 c k target (first_labels c.drives d target) drops
    × ¬ HaveLost (λ _. 0) c (labels_after target (first_labels c.drives d target) drops)

-- Every test before that of a reason holds, and this one fails at an entry, which counts from 1 where it is a table, an output or a
-- drop, and is 0 where it is none of these.
abbrev pub FailsBy : Why → Plain → Plain → Certificate → ℕ → ℕ → ℕ → Type 0
FailsBy Lag c mapped cert k d entry = HasMappingFault c cert k d entry mapping.Lag
FailsBy Leaves c mapped cert k d entry = HasMappingFault c cert k d entry mapping.Leaves
FailsBy Uncovered c mapped cert k d entry = HasMappingFault c cert k d entry mapping.Uncovered
FailsBy Unserved c mapped cert k d entry = HasMappingFault c cert k d entry mapping.Unserved
FailsBy Output c mapped cert k d entry = HasMappingFault c cert k d entry mapping.Output
FailsBy Chain c mapped cert k d entry =
    (entry ≡ 0) × IsLawful c k d cert.tables × ¬ HasChainsWithin cert.tables cert.period
FailsBy Circuit c mapped cert k d entry =
    (entry ≡ 0) × IsLawful c k d cert.tables × HasChainsWithin cert.tables cert.period × ¬ IsMappedBy ByValues c cert.tables mapped
FailsBy Order c mapped cert k d entry = HasDropFault c mapped cert k d entry drop.Order
FailsBy TooFew c mapped cert k d entry = HasDropFault c mapped cert k d entry drop.TooFew
FailsBy Path c mapped cert k d entry = HasDropFault c mapped cert k d entry drop.Path
FailsBy Shared c mapped cert k d entry = HasDropFault c mapped cert k d entry drop.Shared
FailsBy Unfinished c mapped cert k d entry =
    (entry ≡ 0) × IsMappedWithin c mapped cert k d × IsUnfinished cert.period c k d cert.drops

-- The verdict over a circuit.
abbrev pub IsVerdictOver : Plain → Plain → Certificate → ℕ → ℕ → Verdict → Type 0
IsVerdictOver c mapped cert k d Yes = IsAcceptedOver c mapped cert k d
IsVerdictOver c mapped cert k d (No entry why) = FailsBy why c mapped cert k d entry

-- ---- by the version of the certificate

-- The circuit over which a certificate of a version is judged: version 1 takes the source itself, and version 2, where equal latches
-- are one leaf, its joined circuit.
abbrev pub IsJudgedCircuit : ℕ → Plain → Plain → Type 0
IsJudgedCircuit version source c = ((version ≡ 1) × (c ≡ source)) ⊎ ((version ≡ 2) × IsJoined source c)

-- The verdict on a source circuit, a mapped circuit and a certificate, for tables of at most `k` leaves and lags of at most `d`.
pub record IsVerdict (source mapped : Plain) (cert : Certificate) (k d : ℕ) (verdict : Verdict) : Type 0 where
  pub circuit : Plain
  pub judged : IsJudgedCircuit cert.version source circuit
  pub over : IsVerdictOver circuit mapped cert k d verdict

-- The three are accepted.
abbrev pub IsAccepted : Plain → Plain → Certificate → ℕ → ℕ → Type 0
IsAccepted source mapped cert k d = IsVerdict source mapped cert k d Yes

-- The three are not accepted, and their first failure has this entry and this reason.
abbrev pub IsFirstFailure : Plain → Plain → Certificate → ℕ → ℕ → ℕ → Why → Type 0
IsFirstFailure source mapped cert k d entry why = IsVerdict source mapped cert k d (No entry why)
