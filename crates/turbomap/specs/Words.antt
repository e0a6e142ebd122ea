-- The reading of the words of a command line.
use Rattle.std.specs.Prelude.{ℕ, ◌+◌, ◌-◌, not, ◌&&◌, ◌==◌, nat_le, if◌then◌else◌, List, [], ◌∷◌, Option, None, Some, option_map, option_and_then, slice_index, bytes_eq, codes}
use Rattle.std.specs.Str.{all_ascii_digits}
use Rattle.std.specs.Str.Parse.{digits_value}
use Rattle.tm_bits.specs.Limits.{most_inputs}
use Rattle.turbomap.specs.declared.reading.Rows.{Rows}
use Rattle.turbomap.specs.declared.reading.Rows.TheVariants.{Single, Prime}
use Rattle.turbomap.specs.declared.reading.Reading.{Reading}
use Rattle.turbomap.specs.declared.reading.Reading.TheVariants.{Map, Check, Sim, Show, Large, Bound}
use Rattle.tm_texts.specs.Limits.{most_lag, most_back, least_sample, most_sample}
use Rattle.turbomap.specs.Names.{are_names, files_of}

-- what the words ask for: to map, with single or prime rows, with the numbers K and D and the names of IN, OUT and, where it is asked
-- for, CERT; to check the three with K and D; to simulate IN with VECTORS into OUT; to report on IN; to map and check the sample of N
-- with K and D; or to say the bound of IN with K, D and B
pub data Asked : Type 0 where
  map_files : Rows → ℕ → ℕ → List ℕ → List ℕ → Option (List ℕ) → Asked
  check_files : ℕ → ℕ → List ℕ → List ℕ → List ℕ → Asked
  sim_files : List ℕ → List ℕ → List ℕ → Asked
  show_file : List ℕ → Asked
  large_sample : ℕ → ℕ → ℕ → Asked
  bound_file : ℕ → ℕ → ℕ → List ℕ → Asked

-- a reading of words as what is asked for
abbrev pub seen : Reading → Asked
seen (Map words) = map_files words.rows words.k words.d words.input.now words.output.now (option_map (λ name. name.now) words.certificate)
seen (Check words) = check_files words.k words.d words.input.now words.output.now words.certificate.now
seen (Sim words) = sim_files words.input.now words.vectors.now words.output.now
seen (Show input) = show_file input.now
seen (Large words) = large_sample words.number words.k words.d
seen (Bound words) = bound_file words.k words.d words.b words.input.now

-- one decimal digit in the range: no sign, no leading zero
abbrev pub digit_between : ℕ → ℕ → List ℕ → Option ℕ
digit_between least most (byte ∷ []) =
    if nat_le (48 + least) byte && nat_le byte (48 + most) then Some (byte - 48) else None
digit_between least most word = None

-- a decimal number in the range: digits alone, no sign, no leading zero
abbrev pub number_between : ℕ → ℕ → List ℕ → Option ℕ
number_between least most word =
    if all_ascii_digits word && not (slice_index word 0 == 48) && nat_le least (digits_value 10 word) && nat_le (digits_value 10 word) most
    then Some (digits_value 10 word) else None

-- the words K and D, as numbers that something is asked for with
abbrev pub with_numbers : List ℕ → List ℕ → (ℕ → ℕ → Option Asked) → Option Asked
with_numbers k d ask = option_and_then (λ k. option_and_then (ask k) (digit_between 0 most_lag d)) (digit_between 2 most_inputs k)

-- the words after `map` and `prime`: K D IN OUT, or K D IN OUT CERT
abbrev pub map_form : Rows → List ℕ → List ℕ → List ℕ → List ℕ → Option (List ℕ) → Option Asked
map_form rows k d input output certificate =
    with_numbers k d
    (λ k d. if are_names (files_of input output certificate) then Some (map_files rows k d input output certificate) else None)

-- the words after `check`: K D IN OUT CERT
abbrev pub check_of : List ℕ → List ℕ → List ℕ → List ℕ → List ℕ → Option Asked
check_of k d input output certificate =
    with_numbers k d
    (λ k d. if are_names (input ∷ output ∷ certificate ∷ []) then Some (check_files k d input output certificate) else None)

-- the words after `sim`: IN VECTORS OUT
abbrev pub sim_of : List ℕ → List ℕ → List ℕ → Option Asked
sim_of input vectors output =
    if are_names (input ∷ vectors ∷ output ∷ []) then Some (sim_files input vectors output) else None

-- the word after `show`: IN
abbrev pub show_of : List ℕ → Option Asked
show_of input = if are_names (input ∷ []) then Some (show_file input) else None

-- the words after `large`: N K D
abbrev pub large_of : List ℕ → List ℕ → List ℕ → Option Asked
large_of number k d =
    option_and_then (λ number. with_numbers k d (λ k d. Some (large_sample number k d))) (number_between least_sample most_sample number)

-- the words after `bound`: K D B IN
abbrev pub bound_of : List ℕ → List ℕ → List ℕ → List ℕ → Option Asked
bound_of k d b input =
    with_numbers k d (λ k d. option_and_then
    (λ b. if are_names (input ∷ []) then Some (bound_file k d b input) else None) (digit_between 0 most_back b))

-- ---- the table of forms: each has its verb and its number of words

abbrev pub two_words : List ℕ → List ℕ → Option Asked
two_words verb input = if bytes_eq verb (codes "show") then show_of input else None

abbrev pub four_words : List ℕ → List ℕ → List ℕ → List ℕ → Option Asked
four_words verb first second third =
    if bytes_eq verb (codes "sim") then sim_of first second third
    else if bytes_eq verb (codes "large") then large_of first second third
    else None

unfoldable pub five_words : List ℕ → List ℕ → List ℕ → List ℕ → List ℕ → Option Asked
five_words verb k d third fourth =
    if bytes_eq verb (codes "map") then map_form Single k d third fourth None
    else if bytes_eq verb (codes "prime") then map_form Prime k d third fourth None
    else if bytes_eq verb (codes "bound") then bound_of k d third fourth
    else None

unfoldable pub six_words : List ℕ → List ℕ → List ℕ → List ℕ → List ℕ → List ℕ → Option Asked
six_words verb k d input output certificate =
    if bytes_eq verb (codes "map") then map_form Single k d input output (Some certificate)
    else if bytes_eq verb (codes "prime") then map_form Prime k d input output (Some certificate)
    else if bytes_eq verb (codes "check") then check_of k d input output certificate
    else None

-- a verb, K, D and two or three words more
abbrev pub with_files : List ℕ → List ℕ → List ℕ → List (List ℕ) → Option Asked
with_files verb k d (third ∷ fourth ∷ []) = five_words verb k d third fourth
with_files verb k d (input ∷ output ∷ certificate ∷ []) = six_words verb k d input output certificate
with_files verb k d words = None

-- What a list of words asks for, or nothing.
abbrev pub asked_of : List (List ℕ) → Option Asked
asked_of (verb ∷ input ∷ []) = two_words verb input
asked_of (verb ∷ first ∷ second ∷ third ∷ []) = four_words verb first second third
asked_of (verb ∷ k ∷ d ∷ files) = with_files verb k d files
asked_of words = None
