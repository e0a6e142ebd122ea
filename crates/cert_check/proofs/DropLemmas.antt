-- The verdict on drops, as it is reached.
use Rattle.std.proofs.Common.{◌≡◌, ℕ, zero, suc, ◌-◌, inl, inr, List, [], ◌∷◌, map, Option, refl, sym, ◌∙◌, subst, arith}
use Rattle.std.specs.Prelude.{◌≢◌}
use Rattle.tm_circuit.specs.Plain.{Plain}
use Rattle.tm_replay.specs.declared.label.Label.{Label}
use Rattle.tm_replay.specs.declared.label.Lowering.{Lowering}
use Rattle.tm_replay.specs.declared.fault.DropWhy.TheVariants as drop
use Rattle.tm_replay.specs.declared.fault.DropFault.{DropFault}
use Rattle.tm_replay.specs.Labels.{first_labels}
use Rattle.tm_replay.specs.Replays.{Drop, drop_of, Replays, labels_after, HaveLost}
use Rattle.tm_replay.specs.Faults.{IsFirstFault}
use Rattle.cert_check.specs.declared.verdict.Verdict.{Verdict}
use Rattle.cert_check.specs.declared.verdict.Verdict.TheVariants.{Yes, No}
use Rattle.cert_check.specs.declared.verdict.Why.TheVariants.{Order, Unfinished}
use Rattle.cert_check.specs.Reasons.{why_of_drop}
use Rattle.cert_check.specs.Steps.{IsVerdictOnDrops}

pub on_none : (c : Plain) (k d period : ℕ) (drops : List Lowering) (v : Verdict) → period ≡ 0 → (drops ≡ [] → v ≡ Yes) → (drops ≢ [] → v ≡ No 1 Order)
    → IsVerdictOnDrops c k d period (map drop_of drops) v
on_none c k d zero [] v is empty some = inl (refl, empty refl)
on_none c k d zero (x ∷ xs) v is empty some = inr (inl (record { entry = 1; why = drop.Order }, ((λ none. (cc)), refl), some (λ none. (cc))))
on_none c k d (suc target) drops v is empty some = absurd (omega arith)

pub on_fault : (c : Plain) (k d period : ℕ) (drops : List Drop) (fault : DropFault) → period ≢ 0 → IsFirstFault 0 c k d (period - 1) drops fault
    → IsVerdictOnDrops c k d period drops (No fault.entry (why_of_drop fault.why))
on_fault c k d zero drops fault some is = absurd (some refl)
on_fault c k d (suc target) drops fault some is =
    let e : suc target - 1 ≡ target = omega arith in
    inr (inl (fault, subst (λ t. IsFirstFault 0 c k d t drops fault) e is, refl))

-- The labels after the drops of a replay for the target just below a period.
abbrev EndsAt : Plain → ℕ → ℕ → ℕ → List Drop → List (Option Label) → Type 0
EndsAt c k d target drops labels =
    Replays 0 c k target (first_labels c.drives d target) drops × (labels ≡ labels_after target (first_labels c.drives d target) drops)

pub on_lost : (c : Plain) (k d period : ℕ) (drops : List Drop) (labels given : List (Option Label)) (v : Verdict) → period ≢ 0
    → Replays 0 c k (period - 1) (first_labels c.drives d (period - 1)) drops × (labels ≡ labels_after (period - 1) (first_labels c.drives d (period - 1)) drops)
    → given ≡ labels → HaveLost (λ _. 0) c given → v ≡ Yes → IsVerdictOnDrops c k d period drops v
on_lost c k d zero drops labels given v some ends same lost told = absurd (some refl)
on_lost c k d (suc target) drops labels given v some ends same lost told =
    let e : suc target - 1 ≡ target = omega arith in
    let (replays, led) = subst (λ t. EndsAt c k d t drops labels) e ends in
    inl (record { replays = replays; lost = subst (λ (ls : List (Option Label)). HaveLost (λ _. 0) c ls) (same ∙ led) lost }, told)

pub on_kept : (c : Plain) (k d period : ℕ) (drops : List Drop) (labels given : List (Option Label)) (v : Verdict) → period ≢ 0
    → Replays 0 c k (period - 1) (first_labels c.drives d (period - 1)) drops × (labels ≡ labels_after (period - 1) (first_labels c.drives d (period - 1)) drops)
    → given ≡ labels → ¬ HaveLost (λ _. 0) c given → v ≡ No 0 Unfinished → IsVerdictOnDrops c k d period drops v
on_kept c k d zero drops labels given v some ends same kept told = absurd (some refl)
on_kept c k d (suc target) drops labels given v some ends same kept told =
    let e : suc target - 1 ≡ target = omega arith in
    let (replays, led) = subst (λ t. EndsAt c k d t drops labels) e ends in
    inr (inr ((replays, λ lost. kept (subst (λ (ls : List (Option Label)). HaveLost (λ _. 0) c ls) (sym (same ∙ led)) lost)), told))
