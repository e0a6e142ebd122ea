-- Of each command: its refusals exclude each other, and what it makes and accepts.
use Rattle.std.proofs.Common.{◌≡◌, ◌≤◌, ◌⊎◌, inl, inr, ℕ, Bool, List, [], ◌∷◌, Option, Ok, subst, sym, ap, ◌∙◌, arith}
use Rattle.tm_circuit.specs.Plain.{Plain, input_count}
use Rattle.tm_sim.specs.Vectors.{vectors_of}
use Rattle.tm_mapped.specs.Mapped.{CoverRule}
use Rattle.tm_texts.specs.Limits.{output_bytes, mapped_limits}
use Rattle.tm_texts.specs.Checks.{AreAcceptable}
use Rattle.tm_texts.specs.Simulates.{HasRows, bytes_of}
use Rattle.tm_texts.proofs.InputLemmas.{same_input, faulty_input}
use Rattle.tm_texts.proofs.Excluded.{mappable_blamed, cert_faulty, acceptable_maps, acceptable_fails, accepted_acceptable}
use Rattle.turbomap.specs.declared.status.Status.{Status}
use Rattle.turbomap.specs.declared.status.Status.TheVariants.{BadText}
use Rattle.turbomap.specs.Bound.{BoundMakes, bound_command}
use Rattle.turbomap.specs.Check.{IsFaultyMapped, IsFaultyCert, IsVerdictNo, CheckRefuses, CheckAccepts, CheckMakes, check_command}
use Rattle.turbomap.specs.Command.{Write}
use Rattle.turbomap.specs.Large.{large_command}
use Rattle.turbomap.specs.Map.{IsBlamedBy, MapRefuses, MapAccepts, MapMakes, rule_of, map_command}
use Rattle.turbomap.specs.Run.{command_of}
use Rattle.turbomap.specs.Show.{ShowRefuses, ShowAccepts, ShowMakes, show_command}
use Rattle.turbomap.specs.Simulate.{AreFaultyVectors, SimRefuses, SimAccepts, SimMakes, sim_command}
use Rattle.turbomap.specs.Words.{Asked, map_files, check_files, sim_files, show_file, large_sample, bound_file}
use Rattle.turbomap.proofs.Statuses.{IsDecided}

-- ---- map

map_status : (k : ℕ) (input : List ℕ) (texts : List (List ℕ)) (s t : Status) (l m : List ℕ) → MapRefuses k input texts s l → MapRefuses k input texts t m → s ≡ t
map_status k input [] s t l m one other = absurd one
map_status k input (text ∷ []) s t l m one other = one.status_is ∙ sym other.status_is
map_status k input (text ∷ more ∷ texts) s t l m one other = absurd one

map_made : (Covers : CoverRule) (k d : ℕ) (input output : List ℕ) (cert : Option (List ℕ)) (texts : List (List ℕ)) (s : Status) (l : List ℕ) (writes : List Write)
    (lines : List (List ℕ)) → MapRefuses k input texts s l → MapMakes Covers k d output cert texts writes lines → ⊥
map_made Covers k d input output cert [] s l writes lines refused made = absurd made
map_made Covers k d input output cert (text ∷ []) s l writes lines refused made =
    mappable_blamed k refused.blame text refused.blamed (record { circuit = made.maps.source; of_text = made.maps.of_text; few = made.maps.few })
map_made Covers k d input output cert (text ∷ more ∷ texts) s l writes lines refused made = absurd made

map_accepted : (k : ℕ) (input : List ℕ) (texts : List (List ℕ)) (s : Status) (l : List ℕ) → MapRefuses k input texts s l → MapAccepts k texts → ⊥
map_accepted k input [] s l refused accepted = absurd accepted
map_accepted k input (text ∷ []) s l refused accepted = mappable_blamed k refused.blame text refused.blamed accepted
map_accepted k input (text ∷ more ∷ texts) s l refused accepted = absurd accepted

map_decided : (Covers : CoverRule) (k d : ℕ) (input output : List ℕ) (cert : Option (List ℕ)) → IsDecided (map_command Covers k d input output cert)
map_decided Covers k d input output cert = record {
  one_status = map_status k input;
  not_made = map_made Covers k d input output cert;
  not_accepted = map_accepted k input;
}

-- ---- bound

bound_made : (k d b : ℕ) (input : List ℕ) (texts : List (List ℕ)) (s : Status) (l : List ℕ) (writes : List Write) (lines : List (List ℕ))
    → MapRefuses k input texts s l → BoundMakes k d b texts writes lines → ⊥
bound_made k d b input [] s l writes lines refused made = absurd refused
bound_made k d b input (text ∷ []) s l [] lines refused made =
    mappable_blamed k refused.blame text refused.blamed (record { circuit = made.bound.source; of_text = made.bound.of_text; few = made.bound.few })
bound_made k d b input (text ∷ []) s l (write ∷ writes) lines refused made = absurd made
bound_made k d b input (text ∷ more ∷ texts) s l writes lines refused made = absurd refused

bound_decided : (k d b : ℕ) (input : List ℕ) → IsDecided (bound_command k d b input)
bound_decided k d b input = record {
  one_status = map_status k input;
  not_made = bound_made k d b input;
  not_accepted = map_accepted k input;
}

-- ---- check

-- three texts that can be accepted are not refused
acceptable_refused : (k d : ℕ) (input output certificate source mapped cert : List ℕ) (s : Status) (l : List ℕ) → 1 ≤ k
    → AreAcceptable k d source mapped cert → CheckRefuses k d input output certificate (source ∷ mapped ∷ cert ∷ []) s l → ⊥
acceptable_refused k d input output certificate source mapped cert s l some are (inl refused) =
    mappable_blamed k refused.blame source refused.blamed (acceptable_maps k d source mapped cert are)
acceptable_refused k d input output certificate source mapped cert s l some are (inr (inl refused)) =
    refused.fault.none are.claimed are.are.of_mapped
acceptable_refused k d input output certificate source mapped cert s l some are (inr (inr (inl refused))) =
    cert_faulty cert are.certificate refused.number refused.kind are.are.of_cert refused.fault.first
acceptable_refused k d input output certificate source mapped cert s l some are (inr (inr (inr refused))) =
    acceptable_fails k d source mapped cert refused.entry refused.why some are refused.not_accepted

-- texts with a verdict have no fault
verdict_faulty : (k d : ℕ) (input output certificate source mapped cert : List ℕ) (s t : Status) (l m : List ℕ)
    → IsVerdictNo k d source mapped cert s l
    → IsBlamedBy k input source t m ⊎ (IsFaultyMapped k output source mapped t m ⊎ IsFaultyCert k certificate source mapped cert t m) → ⊥
verdict_faulty k d input output certificate source mapped cert s t l m verdict (inl refused) =
    let are = verdict.not_accepted.are in
    mappable_blamed k refused.blame source refused.blamed (record { circuit = verdict.not_accepted.circuit; of_text = are.of_source; few = are.few })
verdict_faulty k d input output certificate source mapped cert s t l m verdict (inr (inl refused)) =
    refused.fault.none verdict.not_accepted.claimed verdict.not_accepted.are.of_mapped
verdict_faulty k d input output certificate source mapped cert s t l m verdict (inr (inr refused)) =
    cert_faulty cert verdict.not_accepted.certificate refused.number refused.kind verdict.not_accepted.are.of_cert refused.fault.first

-- what a refusal of three texts is: a fault of one of them, or a verdict
fault_or_verdict : (k d : ℕ) (input output certificate source mapped cert : List ℕ) (s : Status) (l : List ℕ)
    → CheckRefuses k d input output certificate (source ∷ mapped ∷ cert ∷ []) s l
    → ((s ≡ BadText) × (IsBlamedBy k input source s l ⊎ (IsFaultyMapped k output source mapped s l ⊎ IsFaultyCert k certificate source mapped cert s l)))
    ⊎ IsVerdictNo k d source mapped cert s l
fault_or_verdict k d input output certificate source mapped cert s l (inl refused) = inl (refused.status_is, inl refused)
fault_or_verdict k d input output certificate source mapped cert s l (inr (inl refused)) = inl (refused.status_is, inr (inl refused))
fault_or_verdict k d input output certificate source mapped cert s l (inr (inr (inl refused))) = inl (refused.status_is, inr (inr refused))
fault_or_verdict k d input output certificate source mapped cert s l (inr (inr (inr refused))) = inr refused

check_one : (k d : ℕ) (input output certificate source mapped cert : List ℕ) (s t : Status) (l m : List ℕ)
    → CheckRefuses k d input output certificate (source ∷ mapped ∷ cert ∷ []) s l
    → CheckRefuses k d input output certificate (source ∷ mapped ∷ cert ∷ []) t m → s ≡ t
check_one k d input output certificate source mapped cert s t l m one other =
    elim (fault_or_verdict k d input output certificate source mapped cert s l one) [
      | inl fault ↦ elim (fault_or_verdict k d input output certificate source mapped cert t m other) [
        | inl more ↦ fault.0 ∙ sym more.0
        | inr verdict ↦ absurd (verdict_faulty k d input output certificate source mapped cert t s m l verdict fault.1)
      ]
      | inr verdict ↦ elim (fault_or_verdict k d input output certificate source mapped cert t m other) [
        | inl more ↦ absurd (verdict_faulty k d input output certificate source mapped cert s t l m verdict more.1)
        | inr again ↦ verdict.status_is ∙ sym again.status_is
      ]
    ]

check_status : (k d : ℕ) (input output certificate : List ℕ) (texts : List (List ℕ)) (s t : Status) (l m : List ℕ)
    → CheckRefuses k d input output certificate texts s l → CheckRefuses k d input output certificate texts t m → s ≡ t
check_status k d input output certificate [] s t l m one other = absurd one
check_status k d input output certificate (x ∷ []) s t l m one other = absurd one
check_status k d input output certificate (x ∷ y ∷ []) s t l m one other = absurd one
check_status k d input output certificate (x ∷ y ∷ z ∷ []) s t l m one other = check_one k d input output certificate x y z s t l m one other
check_status k d input output certificate (x ∷ y ∷ z ∷ w ∷ texts) s t l m one other = absurd one

check_made : (k d : ℕ) (input output certificate : List ℕ) (texts : List (List ℕ)) (s : Status) (l : List ℕ) (writes : List Write)
    (lines : List (List ℕ)) → 1 ≤ k → CheckRefuses k d input output certificate texts s l → CheckMakes k d texts writes lines → ⊥
check_made k d input output certificate [] s l writes lines some refused made = absurd refused
check_made k d input output certificate (x ∷ []) s l writes lines some refused made = absurd refused
check_made k d input output certificate (x ∷ y ∷ []) s l writes lines some refused made = absurd refused
check_made k d input output certificate (x ∷ y ∷ z ∷ []) s l [] lines some refused made =
    acceptable_refused k d input output certificate x y z s l some (accepted_acceptable k d x y z made.period made.drops made.accepted) refused
check_made k d input output certificate (x ∷ y ∷ z ∷ []) s l (write ∷ writes) lines some refused made = absurd made
check_made k d input output certificate (x ∷ y ∷ z ∷ w ∷ texts) s l writes lines some refused made = absurd refused

check_accepted : (k d : ℕ) (input output certificate : List ℕ) (texts : List (List ℕ)) (s : Status) (l : List ℕ) → 1 ≤ k
    → CheckRefuses k d input output certificate texts s l → CheckAccepts k d texts → ⊥
check_accepted k d input output certificate [] s l some refused accepted = absurd refused
check_accepted k d input output certificate (x ∷ []) s l some refused accepted = absurd refused
check_accepted k d input output certificate (x ∷ y ∷ []) s l some refused accepted = absurd refused
check_accepted k d input output certificate (x ∷ y ∷ z ∷ []) s l some refused accepted =
    acceptable_refused k d input output certificate x y z s l some accepted refused
check_accepted k d input output certificate (x ∷ y ∷ z ∷ w ∷ texts) s l some refused accepted = absurd refused

check_decided : (k d : ℕ) (input output certificate : List ℕ) → 1 ≤ k → IsDecided (check_command k d input output certificate)
check_decided k d input output certificate some = record {
  one_status = check_status k d input output certificate;
  not_made = λ texts s l writes lines. check_made k d input output certificate texts s l writes lines some;
  not_accepted = λ texts s l. check_accepted k d input output certificate texts s l some;
}

-- ---- show

show_status : (input : List ℕ) (texts : List (List ℕ)) (s t : Status) (l m : List ℕ) → ShowRefuses input texts s l → ShowRefuses input texts t m → s ≡ t
show_status input [] s t l m one other = absurd one
show_status input (text ∷ []) s t l m one other = one.status_is ∙ sym other.status_is
show_status input (text ∷ more ∷ texts) s t l m one other = absurd one

show_made : (input : List ℕ) (texts : List (List ℕ)) (s : Status) (l : List ℕ) (writes : List Write) (lines : List (List ℕ))
    → ShowRefuses input texts s l → ShowMakes texts writes lines → ⊥
show_made input [] s l writes lines refused made = absurd refused
show_made input (text ∷ []) s l [] lines refused made = faulty_input mapped_limits text made.circuit (refused.number, refused.kind) refused.first made.of_text
show_made input (text ∷ []) s l (write ∷ writes) lines refused made = absurd made
show_made input (text ∷ more ∷ texts) s l writes lines refused made = absurd refused

show_accepted : (input : List ℕ) (texts : List (List ℕ)) (s : Status) (l : List ℕ) → ShowRefuses input texts s l → ShowAccepts texts → ⊥
show_accepted input [] s l refused accepted = absurd accepted
show_accepted input (text ∷ []) s l refused accepted =
    faulty_input mapped_limits text accepted.circuit (refused.number, refused.kind) refused.first accepted.of_text
show_accepted input (text ∷ more ∷ texts) s l refused accepted = absurd accepted

show_decided : (input : List ℕ) → IsDecided (show_command input)
show_decided input = record {
  one_status = show_status input;
  not_made = show_made input;
  not_accepted = show_accepted input;
}

-- ---- sim

-- two texts with rows have one circuit and the same rows
same_bytes : (text vectors : List ℕ) (c d : Plain) (xs ys : List (List Bool)) → HasRows text vectors c xs → HasRows text vectors d ys
    → bytes_of c xs ≡ bytes_of d ys
same_bytes text vectors c d xs ys one other =
    let same : c ≡ d = same_input mapped_limits text c d one.of_text other.of_text in
    let there : vectors_of (input_count c.drives) vectors ≡ Ok ys = subst (λ (e : Plain). vectors_of (input_count e.drives) vectors ≡ Ok ys) (sym same) other.of_vectors in
    let rows : xs ≡ ys = cc (one.of_vectors, there) in
    ap (λ (e : Plain). bytes_of e xs) same ∙ ap (λ (zs : List (List Bool)). bytes_of d zs) rows

-- texts that have rows are at no fault
faulty_rows : (input vectors text rows : List ℕ) (s : Status) (l : List ℕ) (c : Plain) (bits : List (List Bool)) → HasRows text rows c bits
    → AreFaultyVectors vectors text rows s l → ⊥
faulty_rows input vectors text rows s l c bits has faulty =
    let why = faulty.fault in
    let same : c ≡ why.circuit = same_input mapped_limits text c why.circuit has.of_text why.of_text in
    let there : vectors_of (input_count why.circuit.drives) rows ≡ Ok bits = subst (λ (e : Plain). vectors_of (input_count e.drives) rows ≡ Ok bits) same has.of_vectors in
    cc (there, why.first)

sim_status : (input vectors output : List ℕ) (texts : List (List ℕ)) (s t : Status) (l m : List ℕ)
    → SimRefuses input vectors output texts s l → SimRefuses input vectors output texts t m → s ≡ t
sim_status input vectors output [] s t l m one other = absurd one
sim_status input vectors output (text ∷ []) s t l m one other = absurd one
sim_status input vectors output (text ∷ rows ∷ more ∷ texts) s t l m one other = absurd one
sim_status input vectors output (text ∷ rows ∷ []) s t l m (inl one) (inl other) = one.status_is ∙ sym other.status_is
sim_status input vectors output (text ∷ rows ∷ []) s t l m (inl one) (inr (inl other)) = one.status_is ∙ sym other.status_is
sim_status input vectors output (text ∷ rows ∷ []) s t l m (inl one) (inr (inr other)) =
    absurd (faulty_input mapped_limits text other.long.circuit (one.number, one.kind) one.first other.long.has.of_text)
sim_status input vectors output (text ∷ rows ∷ []) s t l m (inr (inl one)) (inl other) = one.status_is ∙ sym other.status_is
sim_status input vectors output (text ∷ rows ∷ []) s t l m (inr (inl one)) (inr (inl other)) = one.status_is ∙ sym other.status_is
sim_status input vectors output (text ∷ rows ∷ []) s t l m (inr (inl one)) (inr (inr other)) =
    absurd (faulty_rows input vectors text rows s l other.long.circuit other.long.rows other.long.has one)
sim_status input vectors output (text ∷ rows ∷ []) s t l m (inr (inr one)) (inl other) =
    absurd (faulty_input mapped_limits text one.long.circuit (other.number, other.kind) other.first one.long.has.of_text)
sim_status input vectors output (text ∷ rows ∷ []) s t l m (inr (inr one)) (inr (inl other)) =
    absurd (faulty_rows input vectors text rows t m one.long.circuit one.long.rows one.long.has other)
sim_status input vectors output (text ∷ rows ∷ []) s t l m (inr (inr one)) (inr (inr other)) = one.status_is ∙ sym other.status_is

few_refused : (input vectors output text rows : List ℕ) (s : Status) (l : List ℕ) (c : Plain) (bits : List (List Bool))
    → HasRows text rows c bits → bytes_of c bits ≤ output_bytes → SimRefuses input vectors output (text ∷ rows ∷ []) s l → ⊥
few_refused input vectors output text rows s l c bits has few (inl refused) = faulty_input mapped_limits text c (refused.number, refused.kind) refused.first has.of_text
few_refused input vectors output text rows s l c bits has few (inr (inl refused)) = faulty_rows input vectors text rows s l c bits has refused
few_refused input vectors output text rows s l c bits has few (inr (inr refused)) =
    let same = same_bytes text rows c refused.long.circuit bits refused.long.rows has refused.long.has in omega (arith, few, refused.long.long, same)

sim_made : (input vectors output : List ℕ) (texts : List (List ℕ)) (s : Status) (l : List ℕ) (writes : List Write) (lines : List (List ℕ))
    → SimRefuses input vectors output texts s l → SimMakes output texts writes lines → ⊥
sim_made input vectors output [] s l writes lines refused made = absurd made
sim_made input vectors output (text ∷ []) s l writes lines refused made = absurd made
sim_made input vectors output (text ∷ rows ∷ []) s l writes lines refused made =
    few_refused input vectors output text rows s l made.simulates.circuit made.simulates.rows made.simulates.has made.simulates.few refused
sim_made input vectors output (text ∷ rows ∷ more ∷ texts) s l writes lines refused made = absurd made

sim_accepted : (input vectors output : List ℕ) (texts : List (List ℕ)) (s : Status) (l : List ℕ)
    → SimRefuses input vectors output texts s l → SimAccepts texts → ⊥
sim_accepted input vectors output [] s l refused accepted = absurd accepted
sim_accepted input vectors output (text ∷ []) s l refused accepted = absurd accepted
sim_accepted input vectors output (text ∷ rows ∷ []) s l refused accepted =
    few_refused input vectors output text rows s l accepted.circuit accepted.rows accepted.has accepted.few refused
sim_accepted input vectors output (text ∷ rows ∷ more ∷ texts) s l refused accepted = absurd accepted

sim_decided : (input vectors output : List ℕ) → IsDecided (sim_command input vectors output)
sim_decided input vectors output = record {
  one_status = sim_status input vectors output;
  not_made = sim_made input vectors output;
  not_accepted = sim_accepted input vectors output;
}

-- ---- large

large_decided : (number k d : ℕ) → IsDecided (large_command number k d)
large_decided number k d = record {
  one_status = λ texts s t l m one other. absurd one;
  not_made = λ texts s l writes lines refused made. refused;
  not_accepted = λ texts s l refused accepted. refused;
}

-- ---- whatever is asked for

-- where something is checked, tables have an input at least
abbrev pub HasTables : Asked → Type 0
HasTables (map_files rows k d input output certificate) = Unit {0}
HasTables (check_files k d input output certificate) = 1 ≤ k
HasTables (sim_files input vectors output) = Unit {0}
HasTables (show_file input) = Unit {0}
HasTables (large_sample number k d) = Unit {0}
HasTables (bound_file k d b input) = Unit {0}

pub decided : (asked : Asked) → HasTables asked → IsDecided (command_of asked)
decided (map_files rows k d input output certificate) tables = map_decided (rule_of rows) k d input output certificate
decided (check_files k d input output certificate) tables = check_decided k d input output certificate tables
decided (sim_files input vectors output) tables = sim_decided input vectors output
decided (show_file input) tables = show_decided input
decided (large_sample number k d) tables = large_decided number k d
decided (bound_file k d b input) tables = bound_decided k d b input
