-- A settling ends: each turn takes something from what is left of the labels, or a gate from the queue.
use Rattle.std.proofs.Common.{◌≡◌, ℕ, suc, ◌+◌, ◌*◌, ◌<◌, ◌≤◌, ◌⊎◌, inl, inr, Bool, true, false, List, length, ◌∙◌, ap, subst, arith}
use Rattle.std.specs.Prelude.{count_by, replicate}
use Rattle.std.proofs.Math.Nat.{mul-le-mul_right, suc-mul}
use Rattle.std.proofs.lemmas.List.{get_or-replicate}
use Rattle.tm_circuit.specs.Plain.{Plain}
use Rattle.std.proofs.lemmas.List.Sums.{count_by-le-length}
use Rattle.tm_replay.specs.Replays.{lowered, HaveLost}
use Rattle.tm_replay.proofs.RefutationLemmas.{has_place}
use Rattle.tm_replay.proofs.CountLemmas.{left_of_all, drop_left}
use Rattle.tm_labels.specs.Marks.{is_marked, IsUnmarked}
use Rattle.tm_labels.specs.Working.{Working, Leaves, Lowers, IsWorking, IsTaskOf, IsSameTask, settling_of}
use Rattle.tm_labels.specs.Settled.{LeadTo, IsSettledOver, IsSettled, IsSettledOrLost}
use Rattle.tm_merge.specs.Leading.{AreMarked}
use Rattle.tm_unroll.specs.Latches.{need_of}
use Rattle.tm_labels.proofs.MarkLemmas.{one_less}

-- How many signals wait.
abbrev pub waiting : List Bool → ℕ
waiting queued = count_by (λ m. m) queued

-- What is left of a settling.
abbrev pub left_of_work : Working → ℕ
left_of_work w = left_of_all w.target w.labels * suc (length w.queued) + waiting w.queued

-- A number that falls outweighs any queue.
outweighs : (a b n p q : ℕ) → a < b → p ≤ n → a * suc n + p < b * suc n + q
outweighs a b n p q less few =
    let more : suc a * suc n ≤ b * suc n = mul-le-mul_right (suc n) less in
    omega (arith, more, suc-mul a (suc n), few)

pub turn_ends : (old new : Working) → Leaves old new ⊎ Lowers old new → left_of_work new < left_of_work old
turn_ends old new (inl (gate, waited, leaving)) =
    let less = one_less old.queued gate waited in
    let labels = ap (left_of_all new.target) leaving.labels in
    let target = ap (λ t. left_of_all t old.labels) leaving.task.target in
    let sized = leaving.task.sized in
    let queued = ap waiting leaving.left in
    let same : left_of_all new.target new.labels * suc (length new.queued) ≡ left_of_all old.target old.labels * suc (length old.queued) =
    ap (λ a. a * suc (length new.queued)) (labels ∙ target) ∙ ap (λ n. left_of_all old.target old.labels * suc n) sized in
    omega (arith, same, queued, less)
turn_ends old new (inr (drop, lawful, waited, lowering)) =
    let less = drop_left old.base old.circuit old.k old.target old.labels drop lawful in
    let is : left_of_all new.target new.labels ≡ left_of_all old.target (lowered old.target old.labels drop) =
    ap (left_of_all new.target) lowering.labels ∙ ap (λ t. left_of_all t (lowered old.target old.labels drop)) lowering.task.target in
    let few : waiting new.queued ≤ length old.queued = let most = count_by-le-length (λ m. m) new.queued in let sized = lowering.task.sized in omega (arith, most, sized) in
    let sum = outweighs (left_of_all old.target (lowered old.target old.labels drop)) (left_of_all old.target old.labels) (length old.queued) (waiting new.queued) (waiting old.queued) less few in
    let same : left_of_all new.target new.labels * suc (length new.queued) ≡ left_of_all old.target (lowered old.target old.labels drop) * suc (length old.queued) =
    ap (λ a. a * suc (length new.queued)) is ∙ ap (λ n. left_of_all old.target (lowered old.target old.labels drop) * suc n) lowering.task.sized in
    omega (arith, same, sum)

-- What is settled stays.
pub task_on : (base : ℕ) (c : Plain) (k d target : ℕ) (counts : List Bool) (old new : Working) → IsTaskOf base c k d target counts old → IsSameTask old new → IsTaskOf base c k d target counts new
task_on base c k d target counts old new is same = record {
  base_is = same.base ∙ is.base_is;
  circuit_is = same.circuit ∙ is.circuit_is;
  k_is = same.k ∙ is.k_is;
  d_is = same.d ∙ is.d_is;
  target_is = same.target ∙ is.target_is;
  counts_are = same.counts ∙ is.counts_are;
}

pub turn_task : (old new : Working) → Leaves old new ⊎ Lowers old new → IsSameTask old new
turn_task old new (inl (gate, waited, leaving)) = leaving.task
turn_task old new (inr (drop, lawful, waited, lowering)) = lowering.task

-- Where nobody waits all gates that count are settled.
pub settled_over : (base : ℕ) (c : Plain) (k d target : ℕ) (counts : List Bool) (w : Working) → IsTaskOf base c k d target counts w → IsWorking w → IsUnmarked w.queued
    → IsSettledOver base c k d (λ g. is_marked counts g) (settling_of w)
settled_over base c k d target counts w is working idle =
    subst (λ b. IsSettledOver b c k d (λ g. is_marked counts g) (settling_of w)) is.base_is
    (subst (λ (p : Plain). IsSettledOver w.base p k d (λ g. is_marked counts g) (settling_of w)) is.circuit_is
    (subst (λ n. IsSettledOver w.base w.circuit n d (λ g. is_marked counts g) (settling_of w)) is.k_is
    (subst (λ n. IsSettledOver w.base w.circuit w.k n (λ g. is_marked counts g) (settling_of w)) is.d_is
    (subst (λ (ms : List Bool). IsSettledOver w.base w.circuit w.k w.d (λ g. is_marked ms g) (settling_of w)) is.counts_are
    (record { led = working.led; cuts = λ g x counted has. working.cuts g x counted (idle g) has; none = working.none })))))

-- Where all signals count all gates are settled.
pub settled_all : (base : ℕ) (c : Plain) (k d target : ℕ) (w : Working) → IsTaskOf base c k d target (replicate (length c.drives) true) w → IsWorking w → IsUnmarked w.queued
    → IsSettled base c k d (settling_of w)
settled_all base c k d target w is working idle =
    let over = settled_over base c k d target (replicate (length c.drives) true) w is working idle in
    record {
      led = over.led;
      cuts = λ g x counted has. over.cuts g x (get_or-replicate (length c.drives) g true false (let low = has_place w.labels g x has in
          omega (arith, low, working.sized, ap (λ (p : Plain). length p.drives) is.circuit_is))) has;
      none = over.none;
    }

led_as : (base : ℕ) (c : Plain) (k d target : ℕ) (counts : List Bool) (w : Working) → IsTaskOf base c k d target counts w → IsWorking w → LeadTo base c k d w.target w.drops w.labels
led_as base c k d target counts w is working =
    subst (λ b. LeadTo b c k d w.target w.drops w.labels) is.base_is
    (subst (λ (p : Plain). LeadTo w.base p k d w.target w.drops w.labels) is.circuit_is
    (subst (λ n. LeadTo w.base w.circuit n d w.target w.drops w.labels) is.k_is
    (subst (λ n. LeadTo w.base w.circuit w.k n w.target w.drops w.labels) is.d_is working.led)))

-- A settling that ends since an output has lost its source.
pub lost_at_end : (base : ℕ) (c : Plain) (k d target : ℕ) (counts : List Bool) (w : Working) → IsTaskOf base c k d target counts w → IsWorking w → HaveLost (need_of base c) c w.labels
    → IsSettledOrLost base c k d target (settling_of w)
lost_at_end base c k d target counts w is working lost = record { reached = is.target_is; led = led_as base c k d target counts w is working; ends = inl lost }

-- A settling that ends since nobody waits.
pub done_at_end : (base : ℕ) (c : Plain) (k d target : ℕ) (counts : List Bool) (w : Working) → AreMarked c counts → IsTaskOf base c k d target counts w → IsWorking w → IsUnmarked w.queued
    → IsSettledOrLost base c k d target (settling_of w)
done_at_end base c k d target counts w marked is working idle = record {
  reached = is.target_is;
  led = led_as base c k d target counts w is working;
  ends = inr (record { counts = λ g. is_marked counts g; outputs = marked.outputs; pins = marked.pins; settled = settled_over base c k d target counts w is working idle });
}
