-- What follows where the three are accepted.
use Rattle.std.proofs.Common.{◌≡◌, ℕ, zero, suc, ◌+◌, ◌-◌, ◌*◌, ◌≤◌, inl, inr, List, [], length, refl, sym, ap, subst, arith}
use Rattle.tm_circuit.specs.Plain.{Plain, gate_count, widest}
use Rattle.tm_circuit.specs.Sound.{IsSound}
use Rattle.tm_circuit.specs.Same.{IsSame}
use Rattle.tm_circuit.proofs.Sameness.{sound_same_itself, sound_same_through, sound_same_by_trace}
use Rattle.tm_twins.specs.Joined.{IsJoined}
use Rattle.tm_twins.proofs.JoinedLemmas.{joined_same, joined_large}
use Rattle.tm_twins.proofs.SoundJoined.{joined_sound}
use Rattle.tm_unroll.specs.Mappings.{Table, IsLawful}
use Rattle.tm_unroll.specs.Chains.{HasChainsWithin, IsPeriodOf}
use Rattle.tm_unroll.proofs.PeriodLemmas.{some_period}
use Rattle.tm_replay.specs.Replays.{Drop}
use Rattle.tm_replay.proofs.CountLemmas.{replay_short, none_for_nothing}
use Rattle.tm_replay.proofs.RefutationLemmas.{refuted_below}
use Rattle.tm_mapped.specs.Mapped.{ByValues, IsMappedBy}
use Rattle.tm_mapped.proofs.SameLemmas.{is_same}
use Rattle.tm_mapped.proofs.PeriodLemmas.{period_there}
use Rattle.tm_mapped.proofs.CountLemmas.{widest_low}
use Rattle.cert_text.specs.Certificates.{Certificate}
use Rattle.cert_check.specs.Accepted.{ShowLeast, IsJudgedCircuit, IsAccepted}
use Rattle.cert_check.specs.Claims.{IsBest, HasFewDrops}
use Rattle.cert_check.proofs.VerdictLemmas.{one_circuit}

-- ---- the circuit over which a certificate is judged

pub judged_sound : (version : ℕ) (source c : Plain) → IsSound source → IsJudgedCircuit version source c → IsSound c
judged_sound version source c sound (inl (one, is)) = subst (λ (x : Plain). IsSound x) (sym is) sound
judged_sound version source c sound (inr (two, joined)) = joined_sound source c sound joined

judged_same : (version : ℕ) (source c : Plain) → IsSound source → IsJudgedCircuit version source c → IsSame source c
judged_same version source c sound (inl (one, is)) = subst (λ (x : Plain). IsSame source x) (sym is) (sound_same_itself source sound)
judged_same version source c sound (inr (two, joined)) = joined_same source c (sound_same_by_trace source c (joined_sound source c sound joined)) joined

pub judged_gates : (version : ℕ) (source c : Plain) → IsJudgedCircuit version source c → gate_count c.drives ≡ gate_count source.drives
judged_gates version source c (inl (one, is)) = ap (λ (x : Plain). gate_count x.drives) is
judged_gates version source c (inr (two, joined)) = (joined_large source c joined).gates

pub judged_long : (version : ℕ) (source c : Plain) → IsJudgedCircuit version source c → length c.drives ≡ length source.drives
judged_long version source c (inl (one, is)) = ap (λ (x : Plain). length x.drives) is
judged_long version source c (inr (two, joined)) = (joined_large source c joined).signals

pub judged_wide : (version : ℕ) (source c : Plain) → IsJudgedCircuit version source c → widest c.drives ≡ widest source.drives
judged_wide version source c (inl (one, is)) = ap (λ (x : Plain). widest x.drives) is
judged_wide version source c (inr (two, joined)) = (joined_large source c joined).widest

-- ---- the least period

least_of : (c : Plain) (k d period : ℕ) (drops : List Drop) → IsSound c → ShowLeast period c k d drops → (tables : List Table) (p : ℕ)
    → IsLawful c k d tables → IsPeriodOf tables p → period ≤ p
least_of c k d zero drops sound show tables p lawful is = omega arith
least_of c k d (suc target) drops sound show tables p lawful is = refuted_below 0 (λ _. 0) c k d target drops tables p sound show lawful is

pub exact : (c : Plain) (k d period : ℕ) (drops : List Drop) (tables : List Table) → IsSound c → IsLawful c k d tables → HasChainsWithin tables period
    → ShowLeast period c k d drops → IsPeriodOf tables period
exact c k d period drops tables sound lawful within show =
    let (p, is) = some_period 0 (λ _. 0) c k d tables sound lawful in
    let (chain, chained, long) = is.reached in
    let high = within chain chained in
    let low = least_of c k d period drops sound show tables p lawful is in
    let same : p ≡ period = omega (arith, high, low, long) in
    subst (λ n. IsPeriodOf tables n) same is

pub best : (source mapped : Plain) (cert : Certificate) (k d : ℕ) → IsSound source → IsSound mapped → IsAccepted source mapped cert k d
    → IsBest source mapped cert k d
best source mapped cert k d sound sound_m is =
    let c = is.circuit in
    let sound_c = judged_sound cert.version source c sound is.judged in
    let right = is.over.mapping in
    let period = exact c k d cert.period cert.drops cert.tables sound_c right.lawful right.chains is.over.least in
    record {
      same = sound_same_through source c mapped sound_c (judged_same cert.version source c sound is.judged) (is_same c k d cert.tables mapped sound_c sound_m right.lawful right.circuit);
      narrow = widest_low ByValues c cert.tables mapped right.circuit k d right.lawful;
      period = period_there ByValues c cert.tables mapped right.circuit cert.period period;
      reached = record { circuit = c; tables = cert.tables; judged = is.judged; lawful = right.lawful; period_is = period };
      least = λ e tables p judged lawful is_period.
          let same = one_circuit cert.version source e c judged is.judged in
          least_of c k d cert.period cert.drops sound_c is.over.least tables p (subst (λ (x : Plain). IsLawful x k d tables) same lawful) is_period;
    }

-- ---- the number of drops

few_drops : (c : Plain) (k d period : ℕ) (drops : List Drop) → ShowLeast period c k d drops → length drops ≤ gate_count c.drives * ((d + 1) * (period - 1))
few_drops c k d zero drops show = let none = ap length show in omega (arith, none)
few_drops c k d (suc target) drops show =
    let e : suc target - 1 ≡ target = omega arith in
    subst (λ t. length drops ≤ gate_count c.drives * ((d + 1) * t)) (sym e) (replay_short 0 c k d target drops show.replays)

no_drops : (c : Plain) (k d period : ℕ) (drops : List Drop) → ShowLeast period c k d drops → period ≤ 1 → drops ≡ []
no_drops c k d zero drops show low = show
no_drops c k d (suc zero) drops show low = none_for_nothing 0 c k d drops show.replays
no_drops c k d (suc (suc more)) drops show low = absurd (omega arith)

pub short : (source mapped : Plain) (cert : Certificate) (k d : ℕ) → IsAccepted source mapped cert k d → HasFewDrops source cert d
short source mapped cert k d is = record {
  bound = subst (λ n. length cert.drops ≤ n * ((d + 1) * (cert.period - 1))) (judged_gates cert.version source is.circuit is.judged) (few_drops is.circuit k d cert.period cert.drops is.over.least);
  none = no_drops is.circuit k d cert.period cert.drops is.over.least;
}

-- ---- what is made

pub made : (source joined mapped : Plain) (k d period : ℕ) (tables : List Table) (drops : List Drop) → IsJoined source joined → IsLawful joined k d tables
    → HasChainsWithin tables period → IsMappedBy ByValues joined tables mapped → ShowLeast period joined k d drops
    → IsAccepted source mapped (record { version = 2; period = period; tables = tables; drops = drops }) k d
made source joined mapped k d period tables drops is lawful within by show = record {
  circuit = joined;
  judged = inr (refl, is);
  over = record { mapping = record { lawful = lawful; chains = within; circuit = by }; least = show };
}
