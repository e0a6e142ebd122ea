-- Circuits with prime covers: what such a circuit is to the one whose covers are replaced.
use Rattle.std.specs.Prelude.{◌≡◌, ◌↔◌, ℕ, List, length}
use Rattle.std.specs.List.{AllZip}
use Rattle.tm_bits.specs.Rows.{Rows, holds}
use Rattle.tm_bits.specs.Tables.{AreValuesAt}
use Rattle.tm_circuit.specs.Plain.{Plain, Drive, input, latch, gate}
use Rattle.tm_circuit.specs.Chain.{IsPeriod}
use Rattle.prime_cover.specs.Primes.{IsPrimeCover}

-- A cover is a prime cover of the table of another one of so many pins: of words that have the other's value on each row of bits.
pub record IsPrimeOf (pins : ℕ) (cover prime : Rows) : Type 0 where
  pub words : List ℕ
  pub table : AreValuesAt (holds cover) pins words
  pub is_prime : IsPrimeCover pins words prime

-- A drive with a prime cover in the place of its cover: an input stays, a latch keeps its next and its initial value, and a gate keeps
-- its pins in order and has a prime cover of the table of its cover.
abbrev pub IsPrimeDrive : Drive → Drive → Type 0
IsPrimeDrive input input = Unit {0}
IsPrimeDrive (latch next init) (latch next' init') = (next ≡ next') × (init ≡ init')
IsPrimeDrive (gate pins cover) (gate pins' cover') = (pins ≡ pins') × IsPrimeOf (length pins) cover cover'
IsPrimeDrive _ _ = ⊥

-- The second circuit is the first one with a prime cover in the place of each cover; all else is the same.
pub record HasPrimeCovers (c primed : Plain) : Type 0 where
  pub model : primed.model ≡ c.model
  pub clock : primed.clock ≡ c.clock
  pub names : primed.names ≡ c.names
  pub outputs : primed.outputs ≡ c.outputs
  pub drives : AllZip IsPrimeDrive c.drives primed.drives

-- Two circuits have the same period.
abbrev pub HasSamePeriod : Plain → Plain → Type 0
HasSamePeriod c d = (p : ℕ) → IsPeriod c p ↔ IsPeriod d p
