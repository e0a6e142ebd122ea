-- The sample of a number: how many gates it has, and how few drops are made of it.
use Rattle.std.proofs.Common.{◌≡◌, ℕ, suc, ◌+◌, ◌-◌, ◌*◌, ◌<◌, ◌≤◌, inl, inr, true, false, cond, List, [], ◌∷◌, ◌++◌, map, length, refl, sym, ◌∙◌, ap, subst, arith}
use Rattle.std.proofs.Math.Nat.{mul-le-mul}
use Rattle.std.specs.Prelude.{◌^◌, ◌≢◌, AllPairs, Contains, IsTrue}
use Rattle.std.specs.List.{range_with_len}
use Rattle.std.proofs.lemmas.List.FromFn.{length-range_with_len}
use Rattle.std.proofs.lemmas.List.Sums.{sum_by-cons, sum_by-append}
use Rattle.std.proofs.lemmas.Option.{get_or_from_slice_get}
use Rattle.tm_circuit.specs.Plain.{Plain, Drive, input, latch, gate, drive_in, is_gate, gate_count, input_count, latch_count, widest}
use Rattle.tm_circuit.specs.Sound.{IsSound, IsPlaced}
use Rattle.tm_circuit.specs.Chain.{IsGate}
use Rattle.tm_circuit.proofs.KindLemmas.{kinds-length}
use Rattle.tm_circuit.proofs.ListLemmas.{contains-first, contains-rest, contains-cases, contains-none}
use Rattle.blif_read.specs.Text.{IsCircuitOf}
use Rattle.blif_read.proofs.SomeCircuit.{same_circuit}
use Rattle.blif_read.proofs.ShortNames.{short_names}
use Rattle.tm_make.specs.Sample.{latches_of, sample_text}
use Rattle.tm_make.specs.SampleCircuit.{sample_circuit, latch_drive, gate_drive, HasNarrowCircuit}
use Rattle.tm_split.specs.Limits.{most_subject_signals}
use Rattle.tm_split.specs.Subject.{subject_of}
use Rattle.tm_twins.proofs.JoinedLemmas.{joined_large}
use Rattle.tm_twins.proofs.SoundJoined.{joined_sound}
use Rattle.tm_unroll.specs.Mappings.{Table, IsLawful}
use Rattle.tm_unroll.specs.Chains.{IsPeriodOf, IsChain}
use Rattle.tm_unroll.proofs.ListLemmas.{pairs_first, pairs_rest, fits, apart_from_pairs, some-at}
use Rattle.tm_unroll.proofs.JudgeLemmas.{gate_within}
use Rattle.tm_unroll.proofs.ChainLemmas.{no_repeats}
use Rattle.tm_mapped.specs.Mapped.{CoverRule}
use Rattle.cert_text.specs.Certificates.{Certificate}
use Rattle.tm_texts.specs.Limits.{source_limits}
use Rattle.tm_texts.specs.Large.{IsSample}
use Rattle.tm_texts.specs.Mapped.{IsMappedCircuit}
use Rattle.tm_texts.proofs.NarrowLemmas.{drives_kept}

-- ---- gates

count_cons : (d : Drive) (ds : List Drive) → gate_count (d ∷ ds) ≡ cond (is_gate d) 1 0 + gate_count ds
count_cons d ds = sum_by-cons (λ e. cond {A = ℕ} (is_gate e) 1 0) d ds

count_append : (ds es : List Drive) → gate_count (ds ++ es) ≡ gate_count ds + gate_count es
count_append ds es = sum_by-append (λ e. cond {A = ℕ} (is_gate e) 1 0) ds es

count_none : (f : ℕ → Drive) (xs : List ℕ) → ((x : ℕ) → is_gate (f x) ≡ false) → gate_count (map f xs) ≡ 0
count_none f [] none = refl
count_none f (x ∷ xs) none =
    let here : cond {A = ℕ} (is_gate (f x)) 1 0 ≡ 0 = ap (λ b. cond {A = ℕ} b 1 0) (none x) in
    let rest = count_none f xs none in
    let both = count_cons (f x) (map f xs) in
    omega (arith, here, rest, both)

count_all : (f : ℕ → Drive) (xs : List ℕ) → ((x : ℕ) → is_gate (f x) ≡ true) → gate_count (map f xs) ≡ length xs
count_all f [] all = refl
count_all f (x ∷ xs) all =
    let here : cond {A = ℕ} (is_gate (f x)) 1 0 ≡ 1 = ap (λ b. cond {A = ℕ} b 1 0) (all x) in
    let rest = count_all f xs all in
    let both = count_cons (f x) (map f xs) in
    omega (arith, here, rest, both)

pub sample_gates : (n : ℕ) → gate_count (sample_circuit n).drives ≡ n
unfolding sample_circuit
sample_gates n =
    let inputs = map (λ (i : ℕ). input) (range_with_len 0 8) in
    let latches = map (latch_drive n) (range_with_len 0 (latches_of n)) in
    let gates = map (gate_drive n) (range_with_len 0 n) in
    let first : gate_count inputs ≡ 0 = count_none (λ i. input) (range_with_len 0 8) (λ i. refl) in
    let second : gate_count latches ≡ 0 = count_none (latch_drive n) (range_with_len 0 (latches_of n)) (λ j. refl) in
    let third : gate_count gates ≡ length (range_with_len 0 n) = count_all (gate_drive n) (range_with_len 0 n) (λ j. refl) in
    let long = length-range_with_len 0 n in
    let front = count_append inputs latches in
    let whole = count_append (inputs ++ latches) gates in
    omega (arith, first, second, third, long, front, whole)

-- ---- periods and drops

-- numbers that ascend within bounds are no more than these have room for
room : (tables : List Table) (low high : ℕ) → AllPairs (λ t u. t.gate < u.gate) tables → ((t : Table) → Contains tables t → t.gate < high)
    → ((t : Table) → Contains tables t → low ≤ t.gate) → low ≤ high → low + length tables ≤ high
room [] low high ascend below above order = omega (arith, order)
room (t ∷ rest) low high ascend below above order =
    let here = below t (contains-first t rest) in
    let from = above t (contains-first t rest) in
    let more = room rest (suc t.gate) high (pairs_rest (λ (u v : Table). u.gate < v.gate) t rest ascend) (λ u stands. below u (contains-rest t rest u stands))
    (λ u stands. let after : t.gate < u.gate = pairs_first (λ (v w : Table). v.gate < w.gate) t rest ascend u stands in omega (arith, after)) (omega (arith, here)) in
    omega (arith, from, more)

-- gates come after inputs and latches
gate_placed : (inputs latches s : ℕ) (d : Drive) → IsTrue (is_gate d) → IsPlaced inputs latches s d → inputs + latches ≤ s
gate_placed inputs latches s input is placed = absurd cc
gate_placed inputs latches s (latch next init) is placed = absurd cc
gate_placed inputs latches s (gate pins cover) is placed = placed

gate_high : (c : Plain) (g : ℕ) → IsSound c → IsGate c.drives g → input_count c.drives + latch_count c.drives ≤ g
gate_high c g sound is =
    let at = some-at c.drives g (gate_within c.drives g is) in
    let same : drive_in c.drives g ≡ at.0 = get_or_from_slice_get c.drives g at.0 (latch g false) at.1 in
    gate_placed (input_count c.drives) (latch_count c.drives) g at.0 (subst (λ (d : Drive). IsTrue (is_gate d)) same is) (sound.placed g at.0 at.1)

tables_few : (c : Plain) (k d : ℕ) (tables : List Table) → IsSound c → IsLawful c k d tables → length tables ≤ gate_count c.drives
tables_few c k d tables sound lawful =
    let kinds = kinds-length c.drives in
    let fit = room tables (input_count c.drives + latch_count c.drives) (length c.drives) lawful.ascending
    (λ t stands. gate_within c.drives t.gate (lawful.each t stands).gate) (λ t stands. gate_high c t.gate sound (lawful.each t stands).gate)
    (omega (arith, kinds)) in
    omega (arith, kinds, fit)

among : (tables chain : List Table) → IsChain tables chain → (t : Table) → Contains chain t → Contains tables t
among tables [] chained t stands = absurd (contains-none t stands)
among tables (u ∷ rest) chained t stands =
    elim (contains-cases u rest t stands) [
      | inl is ↦ subst (λ (v : Table). Contains tables v) is chained.0
      | inr later ↦ among tables rest chained.2 t later
    ]

-- the period of a lawful mapping is at most the number of gates
period_few : (c : Plain) (k d : ℕ) (tables : List Table) (p : ℕ) → IsSound c → IsLawful c k d tables → IsPeriodOf tables p → p ≤ gate_count c.drives
period_few c k d tables p sound lawful is =
    let (chain, chained, long) = is.reached in
    let apart = apart_from_pairs (λ (t : Table) (u : Table). t ≢ u) chain (λ t differs. differs refl) (no_repeats 0 (λ _. 0) c k d tables sound lawful chain chained) in
    let some = fits chain tables apart (among tables chain chained) in
    let few = tables_few c k d tables sound lawful in
    omega (arith, some, long, few)

fewer : (gates lags times many : ℕ) → gates ≤ 20000 → lags ≤ 9 → times ≤ 19999 → many ≤ gates * (lags * times) → many < 2 ^ 32
fewer gates lags times many low_gates low_lags low_times bound =
    let inner : lags * times ≤ 9 * 19999 = mul-le-mul low_lags low_times in
    let outer : gates * (lags * times) ≤ 20000 * (9 * 19999) = mul-le-mul low_gates inner in
    omega (arith, bound, outer)

-- the certificate of a circuit of at most 20,000 gates has fewer than 2^32 drops
pub drops_few : (Covers : CoverRule) (k d : ℕ) (subject circuit : Plain) (cert : Certificate) → IsSound subject → gate_count subject.drives ≤ 20000 → d ≤ 8
    → IsMappedCircuit Covers k d subject circuit cert → length cert.drops < 2 ^ 32
drops_few Covers k d subject circuit cert sound small near made =
    let least = made.least in
    let gates = (joined_large subject least.joined least.joined_is).gates in
    let sound_joined = joined_sound subject least.joined sound least.joined_is in
    let few = period_few least.joined k d cert.tables cert.period sound_joined least.least.lawful least.least.period_is in
    fewer (gate_count subject.drives) (d + 1) (cert.period - 1) (length cert.drops) small (omega (arith, near)) (omega (arith, few, gates, small)) made.certified.short.bound

-- ---- the circuit of the sample

pub sample_of : (n : ℕ) (bytes text : List ℕ) (source : Plain) → bytes ≡ text → text ≡ sample_text n → IsCircuitOf source_limits bytes source
    → HasNarrowCircuit text (sample_circuit n) → IsSound source → IsSample n source
sample_of n bytes text source same is of_bytes narrow sound =
    let of_text : IsCircuitOf source_limits text source = subst (λ (t : List ℕ). IsCircuitOf source_limits t source) same of_bytes in
    let one : source ≡ sample_circuit n = same_circuit source_limits text source (sample_circuit n) of_text narrow.circuit in
    record {
      of_sample = subst (λ (t : List ℕ). IsCircuitOf source_limits t source) is of_text;
      sound = sound;
      names = short_names source_limits text source of_text;
      gates = subst (λ (c : Plain). gate_count c.drives ≡ n) (sym one) (sample_gates n);
      narrow = subst (λ (c : Plain). widest c.drives ≤ 2) (sym one) narrow.narrow;
      few = subst (λ (c : Plain). length c.drives ≤ most_subject_signals) (sym one) narrow.signals;
    }

-- the sample's circuit is not too large where it is split, and its subject circuit has as many gates
pub subject_small : (n k : ℕ) (source : Plain) → 2 ≤ k → IsSample n source → most_subject_signals < length (subject_of k source).drives → ⊥
subject_small n k source some is many =
    let same : length (subject_of k source).drives ≡ length source.drives = ap length (drives_kept k source (omega (arith, some, is.narrow))) in
    omega (arith, same, is.few, many)

pub subject_gates : (n k : ℕ) (source subject : Plain) → 2 ≤ k → IsSample n source → subject ≡ subject_of k source → gate_count subject.drives ≡ n
subject_gates n k source subject some is spelled =
    ap (λ (c : Plain). gate_count c.drives) spelled ∙ ap gate_count (drives_kept k source (omega (arith, some, is.narrow))) ∙ is.gates

-- the sample's text is not refused
pub no_fault : (n : ℕ) (bytes text : List ℕ) → bytes ≡ text → HasNarrowCircuit text (sample_circuit n)
    → ((c : Plain) → ¬ IsCircuitOf source_limits bytes c) → ⊥
no_fault n bytes text same narrow none =
    none (sample_circuit n) (subst (λ (t : List ℕ). IsCircuitOf source_limits t (sample_circuit n)) (sym same) narrow.circuit)
