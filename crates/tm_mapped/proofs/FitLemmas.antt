-- The names of a mapped circuit are lawful and short, and its clock fits it.
use Rattle.std.proofs.Common.{◌≡◌, ℕ, zero, suc, ◌+◌, ◌^◌, ◌<◌, ◌≤◌, ◌||◌, Bool, true, false, cond, List, [], ◌++◌, map, length, get_or, Option, Some, None, refl, ap, subst, length-append, arith}
use Rattle.std.specs.Prelude.{All, IfSome, is_some}
use Rattle.std.specs.Fmt.{decimal}
use Rattle.std.proofs.lemmas.Fmt.{length-decimal-le}
use Rattle.std.proofs.lemmas.List.{length-replicate, get_or_append_left}
use Rattle.std.proofs.lemmas.List.Elements.{All-nil, All-cons, All-append, All-replicate, All-weaker, All-get_or, All-contains}
use Rattle.tm_circuit.specs.declared.parts.Clock.{Clock}
use Rattle.tm_circuit.specs.Plain.{Plain, greatest}
use Rattle.tm_circuit.specs.Sound.{IsSound, IsName, IsNameByte, IsClockName, IsClockOf, clock_name}
use Rattle.tm_circuit.proofs.ListLemmas.{contains-unmap, greatest-below}
use Rattle.tm_parts.specs.Names.{all_names}
use Rattle.tm_parts.specs.Fits.{plus, FitsMapping}
use Rattle.tm_parts.specs.Runs.{longest_run, joiner_of}
use Rattle.tm_parts.proofs.Measures.{runs_measured}
use Rattle.tm_unroll.specs.declared.node.Node.{Node}
use Rattle.tm_mapped.specs.Mapped.{node_name, node_name_at, clock_for}
use Rattle.tm_mapped.proofs.NameLemmas.{digits_of_decimal}

-- A lawful name that is short.
pub record IsShortName (name : List ℕ) : Type 0 where
  pub lawful : IsName name
  pub short : length name ≤ 774

plus_byte : IsNameByte plus
plus_byte = (omega arith, omega arith, λ e. omega arith, λ e. omega arith)

digit_byte : (b : ℕ) → (48 ≤ b) × (b ≤ 57) → IsNameByte b
digit_byte b is = (omega arith, omega arith, λ e. omega arith, λ e. omega arith)

-- A name, a joiner and one digit.
name_ahead : (name joiner : List ℕ) (n : ℕ) → IsName name → length name ≤ 517 → All IsNameByte joiner → length joiner ≤ 256 → n ≤ 8
    → IsShortName ((name ++ joiner) ++ decimal n)
name_ahead name joiner n is short joins few low =
    let fits : n < 2 ^ 64 = omega arith in
    let digits : length (decimal n) ≤ 1 = length-decimal-le 1 n (omega arith) (omega arith) fits in
    let first : length (name ++ joiner) ≡ length name + length joiner = length-append name joiner in
    let all : length ((name ++ joiner) ++ decimal n) ≡ length (name ++ joiner) + length (decimal n) = length-append (name ++ joiner) (decimal n) in
    let some : 0 < length name = is.some in
    record {
      lawful = record {
        some = omega arith;
        short = omega arith;
        lawful = All-append IsNameByte (name ++ joiner) (decimal n) (All-append IsNameByte name joiner is.lawful joins) (All-weaker (λ b. (48 ≤ b) × (b ≤ 57)) IsNameByte digit_byte (decimal n) (digits_of_decimal n fits));
      };
      short = omega arith;
    }

module _ (c : Plain) (sound : IsSound c) (fits : FitsMapping c) where
  joiner_few : length (joiner_of plus c) ≤ 256
  joiner_few =
      let most : greatest (map (longest_run plus) (all_names c)) ≤ 255 = greatest-below (map (longest_run plus) (all_names c)) 255 (λ n stands.
      let (name, among, is) = contains-unmap (longest_run plus) (all_names c) n stands in
      let run = (runs_measured plus 255 name).0 (All-contains (λ text. (before run after : List ℕ) → text ≡ before ++ (run ++ after) → All (λ b. b ≡ plus) run → length run ≤ 255) (all_names c) name fits.runs among) in
      omega (arith, run, is)) in
      let size = length-replicate (suc (greatest (map (longest_run plus) (all_names c)))) plus in
      omega (arith, most, size)

  old_short : (s : ℕ) → s < length c.names → length (get_or c.names s []) ≤ 517
  old_short s within =
      let longer : s < length (all_names c) = omega (arith, length-append c.names (clock_name c.clock)) in
      subst (λ (n : List ℕ). length n ≤ 517) (get_or_append_left c.names (clock_name c.clock) [] s within) (All-get_or (λ n. length n ≤ 517) (all_names c) s [] longer fits.names)

  fine_at : (s a : ℕ) → s < length c.names → a ≤ 8 → IsShortName (node_name_at c s a)
  fine_at s zero within low =
      let short = old_short s within in
      record { lawful = All-get_or IsName c.names s [] within sound.names.signals; short = omega (arith, short) }
  fine_at s (suc a) within low =
      name_ahead (get_or c.names s []) (joiner_of plus c) (suc a) (All-get_or IsName c.names s [] within sound.names.signals) (old_short s within)
      (All-replicate IsNameByte (suc (greatest (map (longest_run plus) (all_names c)))) plus plus_byte) joiner_few low

  pub fine_name : (x : Node) → x.signal < length c.drives → x.advance ≤ 8 → IsShortName (node_name c x)
  fine_name x within low = let named = sound.named in fine_at x.signal x.advance (omega (arith, named, within)) low

-- ---- the clock

kept_named : (test : Bool) (own : Clock) → IsClockName own → IfSome (cond test (Some (record { name = own.name; declared = true; place = own.place; edge = None })) None) IsClockName
kept_named true own is = record { lawful = is.lawful; not_nil = λ some. cc }
kept_named false own is = tt

pub clock_named : (n : ℕ) (clock : Option Clock) → IfSome clock IsClockName → IfSome (clock_for n clock) IsClockName
clock_named zero None is = tt
clock_named zero (Some own) is = kept_named (own.declared || is_some own.place) own is
clock_named (suc n) clock is = is

kept_ranged : (test : Bool) (inputs latches : ℕ) (own : Clock) → IsClockOf inputs latches own
    → IfSome (cond test (Some (record { name = own.name; declared = true; place = own.place; edge = None })) None) (IsClockOf inputs 0)
kept_ranged true inputs latches own is = record { place = is.place; edge = λ some. cc; declared = λ none. refl }
kept_ranged false inputs latches own is = tt

more_ranged : (inputs latches n : ℕ) (clock : Option Clock) → IfSome clock (IsClockOf inputs latches) → IfSome clock (IsClockOf inputs (suc n))
more_ranged inputs latches n None is = tt
more_ranged inputs latches n (Some own) is = record { place = is.place; edge = λ some. omega arith; declared = is.declared }

pub clock_ranged : (n inputs latches : ℕ) (clock : Option Clock) → IfSome clock (IsClockOf inputs latches) → IfSome (clock_for n clock) (IsClockOf inputs n)
clock_ranged zero inputs latches None is = tt
clock_ranged zero inputs latches (Some own) is = kept_ranged (own.declared || is_some own.place) inputs latches own is
clock_ranged (suc n) inputs latches clock is = more_ranged inputs latches n clock is

-- The clock's name stays short.
pub clock_short : (clock kept : Option Clock) → IfSome clock (λ own. length own.name ≤ 255)
    → ((made : Clock) → kept ≡ Some made → (own : Clock) × (clock ≡ Some own) × (made.name ≡ own.name)) → All (λ name. length name ≤ 774) (clock_name kept)
clock_short clock None short from = All-nil (λ name. length name ≤ 774)
clock_short clock (Some made) short from =
    let (own, is, named) = from made refl in
    let low : length own.name ≤ 255 = subst (λ (k : Option Clock). IfSome k (λ c. length c.name ≤ 255)) is short in
    let same = ap (λ (n : List ℕ). length n) named in
    All-cons (λ name. length name ≤ 774) made.name [] (omega (arith, low, same)) (All-nil (λ name. length name ≤ 774))
