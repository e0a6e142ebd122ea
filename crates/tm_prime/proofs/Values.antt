-- Prime covers by the values of the covers in whose place they stand.
use Rattle.std.proofs.Common.{◌≡◌, ℕ, Bool, List, [], ◌∷◌, map, length, get_or, refl, sym, ◌∙◌}
use Rattle.std.specs.List.{AllZip}
use Rattle.std.proofs.lemmas.List.{length-map}
use Rattle.tm_bits.specs.declared.cover.Place.{Place}
use Rattle.tm_bits.specs.Rows.{Rows, holds}
use Rattle.tm_bits.specs.Tables.{bit_of, row_number, AreValuesAt}
use Rattle.tm_circuit.specs.Plain.{Plain, Drive}
use Rattle.tm_circuit.specs.Same.{IsAlike, IsRewritten}
use Rattle.prime_cover.specs.Primes.{MeetsZero, IsPrime, IsPrimeCover}
use Rattle.tm_prime.specs.Covers.{IsPrimeOf, IsPrimeDrive, HasPrimeCovers}
use Rattle.tm_prime.proofs.Alike.{by_kind}

-- ---- a prime cover goes by the values of the table alone

-- Words with the same value on each row of so many bits.
abbrev HaveSameBits : ℕ → List ℕ → List ℕ → Type 0
HaveSameBits inputs words others = (bits : List Bool) → length bits ≡ inputs → bit_of words (row_number bits) ≡ bit_of others (row_number bits)

meets_zero : (inputs : ℕ) (words others : List ℕ) → HaveSameBits inputs words others → (row : List Place) → MeetsZero inputs words row
    → MeetsZero inputs others row
meets_zero inputs words others same row (bits, width, agrees, off) = (bits, width, agrees, sym (same bits width) ∙ off)

prime_same : (inputs : ℕ) (words others : List ℕ) → HaveSameBits inputs words others → (row : List Place) → IsPrime inputs words row
    → IsPrime inputs others row
prime_same inputs words others same row prime place asks = meets_zero inputs words others same _ (prime place asks)

prime_cover_same : (inputs : ℕ) (words others : List ℕ) (cover : Rows) → HaveSameBits inputs words others → IsPrimeCover inputs words cover
    → IsPrimeCover inputs others cover
prime_cover_same inputs words others cover same is = record {
  on = is.on;
  width = is.width;
  values = λ bits width. is.values bits width ∙ same bits width;
  primes = λ k row inside. prime_same inputs words others same (get_or cover.rows k row) (is.primes k row inside);
  needed = is.needed;
  ascending = is.ascending;
}

-- A prime cover of a cover's table is one of each table with the cover's values.
pub prime_by_values : (inputs : ℕ) (words : List ℕ) (cover prime : Rows) → AreValuesAt (holds cover) inputs words → IsPrimeOf inputs cover prime
    → IsPrimeCover inputs words prime
prime_by_values inputs words cover prime values of =
    prime_cover_same inputs of.words words prime (λ bits width. sym (of.table bits width) ∙ values bits width) of.is_prime

-- ---- gates have the same values

alike : (d e : Drive) → IsPrimeDrive d e → IsAlike d e
alike = by_kind IsAlike tt (λ next init. (refl, refl)) (λ pins cover prime of value.
    let width : length (map value pins) ≡ length pins = length-map pins value in
    of.table (map value pins) width ∙ sym (of.is_prime.values (map value pins) width))

all_alike : (ds es : List Drive) → AllZip IsPrimeDrive ds es → AllZip IsAlike ds es
all_alike [] [] all = tt
all_alike [] (e ∷ es) all = absurd all
all_alike (d ∷ ds) [] all = absurd all
all_alike (d ∷ ds) (e ∷ es) all = (alike d e all.0, all_alike ds es all.1)

pub rewritten : (c p : Plain) → HasPrimeCovers c p → IsRewritten c p
rewritten c p has = record { names = sym has.names; outputs = sym has.outputs; drives = all_alike c.drives p.drives has.drives }
