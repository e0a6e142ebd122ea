-- There is one verdict, and what a verdict tells test by test.
use Rattle.std.proofs.Common.{◌≡◌, ℕ, zero, suc, inl, inr, List, refl, sym, ◌∙◌, ap, subst, arith}
use Rattle.std.specs.Prelude.{◌≤◌}
use Rattle.tm_circuit.specs.Plain.{Plain}
use Rattle.tm_twins.proofs.JoinedLemmas.{one_joined}
use Rattle.tm_unroll.specs.declared.node.MapWhy.{MapWhy}
use Rattle.tm_unroll.specs.declared.node.MapWhy.TheVariants as mapping
use Rattle.tm_unroll.specs.declared.node.MappingFault.{MappingFault}
use Rattle.tm_unroll.specs.Mappings.{IsLawful}
use Rattle.tm_unroll.specs.Faults.{IsFirstFault}
use Rattle.tm_unroll.specs.Chains.{HasChainsWithin}
use Rattle.tm_unroll.proofs.FaultLemmas.{has_one_fault}
use Rattle.tm_replay.specs.declared.fault.DropWhy.{DropWhy}
use Rattle.tm_replay.specs.declared.fault.DropWhy.TheVariants as drop
use Rattle.tm_replay.specs.declared.fault.DropFault.{DropFault}
use Rattle.tm_replay.specs.Replays.{Drop}
use Rattle.tm_replay.proofs.FaultLemmas.{one_fault}
use Rattle.tm_mapped.specs.Mapped.{ByValues, IsMappedBy}
use Rattle.cert_text.specs.Certificates.{Certificate}
use Rattle.cert_check.specs.declared.verdict.Verdict.{Verdict}
use Rattle.cert_check.specs.declared.verdict.Verdict.TheVariants.{Yes, No}
use Rattle.cert_check.specs.declared.verdict.Why.{Why}
use Rattle.cert_check.specs.declared.verdict.Why.TheVariants.{Lag, Leaves, Uncovered, Unserved, Output, Chain, Circuit, Order, TooFew, Path, Shared, Unfinished}
use Rattle.cert_check.specs.Accepted.{IsMappedWithin, IsDropFault, FailsBy, IsVerdictOver, IsJudgedCircuit, IsVerdict}
use Rattle.cert_check.specs.Reasons.{why_of_mapping, why_of_drop}
use Rattle.cert_check.specs.Steps.{IsVerdictOnDrops}

-- ---- drops

pub one_on_drops : (c : Plain) (k d period : ℕ) (drops : List Drop) (v w : Verdict) → 1 ≤ k → IsVerdictOnDrops c k d period drops v
    → IsVerdictOnDrops c k d period drops w → v ≡ w
one_on_drops c k d zero drops v w few (inl (none, is)) (inl (none', is')) = is ∙ sym is'
one_on_drops c k d zero drops v w few (inl (none, is)) (inr (inl (fault, fails, is'))) = absurd (fails.0 none)
one_on_drops c k d zero drops v w few (inl (none, is)) (inr (inr (unfinished, is'))) = absurd unfinished
one_on_drops c k d zero drops v w few (inr (inl (fault, fails, is))) (inl (none, is')) = absurd (fails.0 none)
one_on_drops c k d zero drops v w few (inr (inl (fault, fails, is))) (inr (inl (fault', fails', is'))) =
    is ∙ (ap (λ (f : DropFault). No f.entry (why_of_drop f.why)) (fails.1 ∙ sym fails'.1) ∙ sym is')
one_on_drops c k d zero drops v w few (inr (inl (fault, fails, is))) (inr (inr (unfinished, is'))) = absurd unfinished
one_on_drops c k d zero drops v w few (inr (inr (unfinished, is))) other = absurd unfinished
one_on_drops c k d (suc target) drops v w few (inl (refutes, is)) (inl (refutes', is')) = is ∙ sym is'
one_on_drops c k d (suc target) drops v w few (inl (refutes, is)) (inr (inl (fault, fails, is'))) =
    absurd ((one_fault 0 c k d target drops few).replayed_has_none fault refutes.replays fails)
one_on_drops c k d (suc target) drops v w few (inl (refutes, is)) (inr (inr (unfinished, is'))) = absurd (unfinished.1 refutes.lost)
one_on_drops c k d (suc target) drops v w few (inr (inl (fault, fails, is))) (inl (refutes, is')) =
    absurd ((one_fault 0 c k d target drops few).replayed_has_none fault refutes.replays fails)
one_on_drops c k d (suc target) drops v w few (inr (inl (fault, fails, is))) (inr (inl (fault', fails', is'))) =
    is ∙ (ap (λ (f : DropFault). No f.entry (why_of_drop f.why)) ((one_fault 0 c k d target drops few).one fault fault' fails fails') ∙ sym is')
one_on_drops c k d (suc target) drops v w few (inr (inl (fault, fails, is))) (inr (inr (unfinished, is'))) =
    absurd ((one_fault 0 c k d target drops few).replayed_has_none fault unfinished.0 fails)
one_on_drops c k d (suc target) drops v w few (inr (inr (unfinished, is))) (inl (refutes, is')) = absurd (unfinished.1 refutes.lost)
one_on_drops c k d (suc target) drops v w few (inr (inr (unfinished, is))) (inr (inl (fault, fails, is'))) =
    absurd ((one_fault 0 c k d target drops few).replayed_has_none fault unfinished.0 fails)
one_on_drops c k d (suc target) drops v w few (inr (inr (unfinished, is))) (inr (inr (unfinished', is'))) = is ∙ sym is'

-- ---- over a circuit

-- What a verdict tells, by the layer of tests at which it stops.
data Stops (c mapped : Plain) (cert : Certificate) (k d : ℕ) (v : Verdict) : Type 0 where
  at_mapping : (fault : MappingFault) → IsFirstFault c k d cert.tables fault → v ≡ No fault.entry (why_of_mapping fault.why) → Stops c mapped cert k d v
  at_chains : IsLawful c k d cert.tables → ¬ HasChainsWithin cert.tables cert.period → v ≡ No 0 Chain → Stops c mapped cert k d v
  at_circuit : IsLawful c k d cert.tables → HasChainsWithin cert.tables cert.period → ¬ IsMappedBy ByValues c cert.tables mapped → v ≡ No 0 Circuit
      → Stops c mapped cert k d v
  at_drops : IsMappedWithin c mapped cert k d → IsVerdictOnDrops c k d cert.period cert.drops v → Stops c mapped cert k d v

stops_by : (why : Why) (c mapped : Plain) (cert : Certificate) (k d entry : ℕ) → FailsBy why c mapped cert k d entry → Stops c mapped cert k d (No entry why)
stops_by Lag c mapped cert k d entry fails = at_mapping (record { entry = entry; why = mapping.Lag }) fails refl
stops_by Leaves c mapped cert k d entry fails = at_mapping (record { entry = entry; why = mapping.Leaves }) fails refl
stops_by Uncovered c mapped cert k d entry fails = at_mapping (record { entry = entry; why = mapping.Uncovered }) fails refl
stops_by Unserved c mapped cert k d entry fails = at_mapping (record { entry = entry; why = mapping.Unserved }) fails refl
stops_by Output c mapped cert k d entry fails = at_mapping (record { entry = entry; why = mapping.Output }) fails refl
stops_by Chain c mapped cert k d entry fails = at_chains fails.1 fails.2 (ap (λ e. No e Chain) fails.0)
stops_by Circuit c mapped cert k d entry fails = at_circuit fails.1 fails.2 fails.3 (ap (λ e. No e Circuit) fails.0)
stops_by Order c mapped cert k d entry fails = at_drops fails.mapping (inr (inl (record { entry = entry; why = drop.Order }, fails.fault, refl)))
stops_by TooFew c mapped cert k d entry fails = at_drops fails.mapping (inr (inl (record { entry = entry; why = drop.TooFew }, fails.fault, refl)))
stops_by Path c mapped cert k d entry fails = at_drops fails.mapping (inr (inl (record { entry = entry; why = drop.Path }, fails.fault, refl)))
stops_by Shared c mapped cert k d entry fails = at_drops fails.mapping (inr (inl (record { entry = entry; why = drop.Shared }, fails.fault, refl)))
stops_by Unfinished c mapped cert k d entry fails = at_drops fails.1 (inr (inr (fails.2, ap (λ e. No e Unfinished) fails.0)))

stops : (c mapped : Plain) (cert : Certificate) (k d : ℕ) (v : Verdict) → IsVerdictOver c mapped cert k d v → Stops c mapped cert k d v
stops c mapped cert k d Yes is = at_drops is.mapping (inl (is.least, refl))
stops c mapped cert k d (No entry why) fails = stops_by why c mapped cert k d entry fails

module _ (c mapped : Plain) (cert : Certificate) (k d : ℕ) (few : 1 ≤ k) where
  one_stop : (v w : Verdict) → Stops c mapped cert k d v → Stops c mapped cert k d w → v ≡ w
  one_stop v w (at_mapping fault is told) (at_mapping fault' is' told') =
      told ∙ (ap (λ (f : MappingFault). No f.entry (why_of_mapping f.why)) ((has_one_fault 0 (λ _. 0) c k d cert.tables).one fault fault' is is') ∙ sym told')
  one_stop v w (at_mapping fault is told) (at_chains lawful more told') = absurd ((has_one_fault 0 (λ _. 0) c k d cert.tables).lawful_has_none fault lawful is)
  one_stop v w (at_mapping fault is told) (at_circuit lawful within other told') = absurd ((has_one_fault 0 (λ _. 0) c k d cert.tables).lawful_has_none fault lawful is)
  one_stop v w (at_mapping fault is told) (at_drops right on) = absurd ((has_one_fault 0 (λ _. 0) c k d cert.tables).lawful_has_none fault right.lawful is)
  one_stop v w (at_chains lawful more told) (at_mapping fault is told') = absurd ((has_one_fault 0 (λ _. 0) c k d cert.tables).lawful_has_none fault lawful is)
  one_stop v w (at_chains lawful more told) (at_chains lawful' more' told') = told ∙ sym told'
  one_stop v w (at_chains lawful more told) (at_circuit lawful' within other told') = absurd (more within)
  one_stop v w (at_chains lawful more told) (at_drops right on) = absurd (more right.chains)
  one_stop v w (at_circuit lawful within other told) (at_mapping fault is told') = absurd ((has_one_fault 0 (λ _. 0) c k d cert.tables).lawful_has_none fault lawful is)
  one_stop v w (at_circuit lawful within other told) (at_chains lawful' more told') = absurd (more within)
  one_stop v w (at_circuit lawful within other told) (at_circuit lawful' within' other' told') = told ∙ sym told'
  one_stop v w (at_circuit lawful within other told) (at_drops right on) = absurd (other right.circuit)
  one_stop v w (at_drops right on) (at_mapping fault is told) = absurd ((has_one_fault 0 (λ _. 0) c k d cert.tables).lawful_has_none fault right.lawful is)
  one_stop v w (at_drops right on) (at_chains lawful more told) = absurd (more right.chains)
  one_stop v w (at_drops right on) (at_circuit lawful within other told) = absurd (other right.circuit)
  one_stop v w (at_drops right on) (at_drops right' on') = one_on_drops c k d cert.period cert.drops v w few on on'

  one_over : (v w : Verdict) → IsVerdictOver c mapped cert k d v → IsVerdictOver c mapped cert k d w → v ≡ w
  one_over v w is is' = one_stop v w (stops c mapped cert k d v is) (stops c mapped cert k d w is')

-- ---- by the version

pub one_circuit : (version : ℕ) (source c e : Plain) → IsJudgedCircuit version source c → IsJudgedCircuit version source e → c ≡ e
one_circuit version source c e (inl (one, is)) (inl (one', is')) = is ∙ sym is'
one_circuit version source c e (inl (one, is)) (inr (two, joined)) = absurd (omega arith)
one_circuit version source c e (inr (two, joined)) (inl (one, is)) = absurd (omega arith)
one_circuit version source c e (inr (two, joined)) (inr (two', joined')) = one_joined source c e joined joined'

pub one_verdict_lem : (source mapped : Plain) (cert : Certificate) (k d : ℕ) (v w : Verdict) → 1 ≤ k → IsVerdict source mapped cert k d v
    → IsVerdict source mapped cert k d w → v ≡ w
one_verdict_lem source mapped cert k d v w few is is' =
    let same = one_circuit cert.version source is'.circuit is.circuit is'.judged is.judged in
    one_over is.circuit mapped cert k d few v w is.over (subst (λ (c : Plain). IsVerdictOver c mapped cert k d w) same is'.over)

-- ---- verdicts as they are reached

pub over_mapping : (c mapped : Plain) (cert : Certificate) (k d entry : ℕ) (why : MapWhy) → IsFirstFault c k d cert.tables (record { entry = entry; why = why })
    → IsVerdictOver c mapped cert k d (No entry (why_of_mapping why))
over_mapping c mapped cert k d entry mapping.Lag is = is
over_mapping c mapped cert k d entry mapping.Leaves is = is
over_mapping c mapped cert k d entry mapping.Uncovered is = is
over_mapping c mapped cert k d entry mapping.Unserved is = is
over_mapping c mapped cert k d entry mapping.Output is = is

over_drop : (c mapped : Plain) (cert : Certificate) (k d entry : ℕ) (why : DropWhy) → IsMappedWithin c mapped cert k d
    → IsDropFault cert.period c k d cert.drops (record { entry = entry; why = why }) → IsVerdictOver c mapped cert k d (No entry (why_of_drop why))
over_drop c mapped cert k d entry drop.Order right is = record { mapping = right; fault = is }
over_drop c mapped cert k d entry drop.TooFew right is = record { mapping = right; fault = is }
over_drop c mapped cert k d entry drop.Path right is = record { mapping = right; fault = is }
over_drop c mapped cert k d entry drop.Shared right is = record { mapping = right; fault = is }

pub over_drops : (c mapped : Plain) (cert : Certificate) (k d : ℕ) (v : Verdict) → IsMappedWithin c mapped cert k d
    → IsVerdictOnDrops c k d cert.period cert.drops v → IsVerdictOver c mapped cert k d v
over_drops c mapped cert k d v right (inl (least, told)) =
    subst (λ (w : Verdict). IsVerdictOver c mapped cert k d w) (sym told) (record { mapping = right; least = least })
over_drops c mapped cert k d v right (inr (inl (fault, is, told))) =
    subst (λ (w : Verdict). IsVerdictOver c mapped cert k d w) (sym told) (over_drop c mapped cert k d fault.entry fault.why right is)
over_drops c mapped cert k d v right (inr (inr (unfinished, told))) =
    subst (λ (w : Verdict). IsVerdictOver c mapped cert k d w) (sym told) (refl, right, unfinished)
