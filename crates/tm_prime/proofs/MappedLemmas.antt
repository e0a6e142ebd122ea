-- Mapped circuits with prime covers.
use Rattle.std.proofs.Common.{◌≡◌, ℕ, zero, suc, ◌<◌, Bool, List, [], ◌∷◌, map, length, Some, slice_get, sym, ◌∙◌, ap, subst, arith}
use Rattle.std.specs.List.{AllZip}
use Rattle.std.proofs.lemmas.List.{length-map}
use Rattle.tm_bits.specs.Rows.{Rows}
use Rattle.tm_circuit.specs.Plain.{Plain, Drive, input, latch, gate, drive, drive_in}
use Rattle.tm_unroll.specs.declared.node.Node.{Node}
use Rattle.tm_unroll.specs.Mappings.{Table}
use Rattle.tm_mapped.specs.Needed.{nodes_of}
use Rattle.tm_mapped.specs.Mapped.{ByValues, IsRegisterDrive, IsTableDrive, IsMappedBy}
use Rattle.tm_mapped.proofs.ListLemmas.{drive-rest}
use Rattle.tm_mapped.proofs.DriveLemmas.{as_input, as_kept, as_moved, as_table, as_none, driven_as}
use Rattle.tm_mapped.proofs.ValueLemmas.{mapped_by}
use Rattle.prime_cover.specs.Primes.{IsPrimeCover, ByPrimeRows}
use Rattle.cert_text.specs.Certificates.{Certificate}
use Rattle.cert_check.specs.Accepted.{IsAccepted}
use Rattle.cert_check.specs.Agreement.{DrivesAgree, Agree}
use Rattle.tm_prime.specs.Covers.{IsPrimeOf, IsPrimeDrive, HasPrimeCovers}
use Rattle.tm_prime.proofs.Alike.{by_kind, each_prime}
use Rattle.tm_prime.proofs.Soundness.{primed_long}
use Rattle.tm_prime.proofs.Values.{prime_by_values}

-- ---- one drive

-- An input and a latch stay as they are.
input_stays : (d e : Drive) → IsPrimeDrive d e → d ≡ input → e ≡ input
input_stays = by_kind (λ d e. d ≡ input → e ≡ input) (λ is. is) (λ next init is. is) (λ pins cover prime of is. absurd (cc))

latch_stays : (next : ℕ) (init : Bool) (d e : Drive) → IsPrimeDrive d e → d ≡ latch next init → e ≡ latch next init
latch_stays next init =
    by_kind (λ d e. d ≡ latch next init → e ≡ latch next init) (λ is. is) (λ next' init' is. is) (λ pins cover prime of is. absurd (cc))

register_stays : (c : Plain) (nodes : List Node) (from : Drive) (x : Node) (d e : Drive) → IsPrimeDrive d e → IsRegisterDrive c nodes from x d
    → IsRegisterDrive c nodes from x e
register_stays c nodes input x d e prime is = is
register_stays c nodes (latch next init) x d e prime (j, stands, is) = (j, stands, latch_stays j init d e prime is)
register_stays c nodes (gate pins cover) x d e prime (j, (init, stands, first, is)) = (j, (init, stands, first, latch_stays j init d e prime is))

-- The gate of a table gets a prime cover of the table's words.
gate_stays : (pins : List ℕ) (cover : Rows) (d e : Drive) → IsPrimeDrive d e → d ≡ gate pins cover
    → (prime : Rows) × (e ≡ gate pins prime) × IsPrimeOf (length pins) cover prime
gate_stays pins cover =
    by_kind (λ d e. d ≡ gate pins cover → (prime : Rows) × (e ≡ gate pins prime) × IsPrimeOf (length pins) cover prime) (λ is. absurd (cc))
    (λ next init is. absurd (cc)) (λ pins' cover' prime of is.
    let same_pins : pins' ≡ pins = cc in
    let same_cover : cover' ≡ cover = cc in (
      prime,
      ap (λ ps. gate ps prime) same_pins,
      subst (λ (ps : List ℕ). IsPrimeOf (length ps) cover prime) same_pins (subst (λ (other : Rows). IsPrimeOf (length pins') other prime) same_cover of),
    ))

-- A table's gate has as many pins as the table has leaves.
pins_many : (nodes : List Node) (pins : List ℕ) (leaves : List Node) → map (λ p. slice_get nodes p) pins ≡ map (λ x. Some x) leaves
    → length pins ≡ length leaves
pins_many nodes pins leaves same =
    sym (length-map pins (λ p. slice_get nodes p)) ∙ (ap length same ∙ length-map leaves (λ (x : Node). Some x))

table_primed : (c : Plain) (nodes : List Node) (t : Table) (d e : Drive) → IsPrimeDrive d e → IsTableDrive ByValues c nodes t d
    → IsTableDrive ByPrimeRows c nodes t e
table_primed c nodes t d e prime driven =
    let (cover, is, of) = gate_stays driven.pins driven.cover d e prime driven.is in
    let many : length driven.pins ≡ length t.leaves = pins_many nodes driven.pins t.leaves driven.leaves in
    record {
      pins = driven.pins;
      cover = cover;
      words = driven.words;
      is = is;
      leaves = driven.leaves;
      function = driven.function;
      covers = prime_by_values (length t.leaves) driven.words driven.cover cover driven.covers
          (subst (λ (n : ℕ). IsPrimeOf n driven.cover cover) many of);
    }

-- ---- the whole

-- The mapped circuit of a mapping with prime covers is its mapped circuit by the rule of prime rows.
pub primed_is_mapped : (c : Plain) (tables : List Table) (mapped primed : Plain) → IsMappedBy ByValues c tables mapped → HasPrimeCovers mapped primed
    → IsMappedBy ByPrimeRows c tables primed
primed_is_mapped c tables mapped primed by has = record {
  registers = by.registers;
  are = by.are;
  model = has.model ∙ by.model;
  clock = has.clock ∙ by.clock;
  names = has.names ∙ by.names;
  signals = primed_long mapped primed has ∙ by.signals;
  inputs = λ i below. input_stays (drive mapped i) (drive primed i) (at i) (by.inputs i below);
  latches = λ i x inside stands. register_stays c nodes (drive c x.signal) x (drive mapped i) (drive primed i) (at i) (by.latches i x inside stands);
  gates = λ i t inside stands. table_primed c nodes t (drive mapped i) (drive primed i) (at i) (by.gates i t inside stands);
  outputs = ap (λ (outputs : List ℕ). map (λ o. slice_get nodes o) outputs) has.outputs ∙ by.outputs;
}
  where
    nodes : List Node
    nodes = nodes_of c by.registers tables

    at : (i : ℕ) → IsPrimeDrive (drive mapped i) (drive primed i)
    at i = each_prime mapped.drives primed.drives has.drives i

-- A mapped circuit by prime rows is one by values.
pub primed_by_values : (c : Plain) (tables : List Table) (primed : Plain) → IsMappedBy ByPrimeRows c tables primed → IsMappedBy ByValues c tables primed
primed_by_values c tables primed by = mapped_by ByPrimeRows ByValues (λ inputs words cover is. is.values) c tables primed by

-- A certificate is accepted with prime covers.
pub primed_is_accepted : (source mapped primed : Plain) (cert : Certificate) (k d : ℕ) → IsAccepted source mapped cert k d
    → HasPrimeCovers mapped primed → IsAccepted source primed cert k d
primed_is_accepted source mapped primed cert k d accepted has = record {
  circuit = accepted.circuit;
  judged = accepted.judged;
  over = record {
    mapping = record {
      lawful = accepted.over.mapping.lawful;
      chains = accepted.over.mapping.chains;
      circuit = primed_by_values accepted.circuit cert.tables primed
          (primed_is_mapped accepted.circuit cert.tables mapped primed accepted.over.mapping.circuit has);
    };
    least = accepted.over.least;
  };
}

-- ---- back, from the mapped circuit by prime rows

-- A gate has a prime cover of some table.
abbrev HasPrimeRows : Drive → Type 0
HasPrimeRows input = Unit {0}
HasPrimeRows (latch next init) = Unit {0}
HasPrimeRows (gate pins cover) = (words : List ℕ) × IsPrimeCover (length pins) words cover

prime_agreed : (d e : Drive) → DrivesAgree d e → HasPrimeRows e → IsPrimeDrive d e
prime_agreed input input agree rows = tt
prime_agreed input (latch next init) agree rows = absurd agree
prime_agreed input (gate pins cover) agree rows = absurd agree
prime_agreed (latch next init) input agree rows = absurd agree
prime_agreed (latch next init) (latch next' init') agree rows = agree
prime_agreed (latch next init) (gate pins cover) agree rows = absurd agree
prime_agreed (gate pins cover) input agree rows = absurd agree
prime_agreed (gate pins cover) (latch next init) agree rows = absurd agree
prime_agreed (gate pins cover) (gate pins' cover') agree rows =
    let is : IsPrimeCover (length pins) rows.0 cover' =
    subst (λ (ps : List ℕ). IsPrimeCover (length ps) rows.0 cover') (sym agree.0) rows.1 in
    (agree.0, record { words = rows.0; table = λ bits width. agree.1 bits width ∙ is.values bits width; is_prime = is })

all_agreed : (ds es : List Drive) → AllZip DrivesAgree ds es → ((i : ℕ) → i < length es → HasPrimeRows (drive_in es i)) → AllZip IsPrimeDrive ds es
all_agreed [] [] all each = tt
all_agreed [] (e ∷ es) all each = absurd all
all_agreed (d ∷ ds) [] all each = absurd all
all_agreed (d ∷ ds) (e ∷ es) all each = (
  prime_agreed d e all.0 (each zero (omega arith)),
  all_agreed ds es all.1 (λ i within. subst HasPrimeRows (drive-rest e es i within) (each (suc i) (omega arith))),
)

rows_at : (c : Plain) (tables : List Table) (primed : Plain) → IsMappedBy ByPrimeRows c tables primed → (i : ℕ) → HasPrimeRows (drive primed i)
rows_at c tables primed by i =
    elim (driven_as ByPrimeRows c tables primed by i) [
      | as_input low at is ↦ subst HasPrimeRows (sym is) tt
      | as_kept x at kept ↦ subst HasPrimeRows (sym kept.is) tt
      | as_moved x at moved ↦ subst HasPrimeRows (sym moved.is) tt
      | as_table t stands at driven ↦ subst HasPrimeRows (sym driven.is) (
        driven.words,
        subst (λ (n : ℕ). IsPrimeCover n driven.words driven.cover)
            (sym (pins_many (nodes_of c by.registers tables) driven.pins t.leaves driven.leaves)) driven.covers,
      )
      | as_none at is ↦ subst HasPrimeRows (sym is) tt
    ]

-- What agrees with a mapped circuit and has prime rows is that circuit with prime covers.
pub agreed_is_primed : (c : Plain) (tables : List Table) (mapped primed : Plain) → Agree mapped primed → IsMappedBy ByPrimeRows c tables primed
    → HasPrimeCovers mapped primed
agreed_is_primed c tables mapped primed agree by = record {
  model = sym agree.frame.model;
  clock = sym agree.frame.clock;
  names = sym agree.names;
  outputs = sym agree.frame.outputs;
  drives = all_agreed mapped.drives primed.drives agree.drives (λ i within. rows_at c tables primed by i);
}
