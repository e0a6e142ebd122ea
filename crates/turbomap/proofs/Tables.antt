-- What words ask for has tables of some inputs.
use Rattle.std.proofs.Common.{◌≡◌, ◌≤◌, ◌+◌, ◌-◌, ◌&&◌, ℕ, Bool, true, false, List, [], ◌∷◌, Option, None, Some, refl, arith, nat_le, codes, bytes_eq, if◌then◌else◌}
use Rattle.std.specs.Prelude.{IfSome, option_and_then}
use Rattle.std.proofs.lemmas.Bool.{leb-true}
use Rattle.tm_bits.specs.Limits.{most_inputs}
use Rattle.tm_texts.specs.Limits.{most_lag, most_back, least_sample, most_sample}
use Rattle.turbomap.specs.declared.reading.Rows.{Rows}
use Rattle.turbomap.specs.declared.reading.Rows.TheVariants.{Single, Prime}
use Rattle.turbomap.specs.Names.{are_names, files_of}
use Rattle.turbomap.specs.Words.{Asked, map_files, check_files, sim_files, show_file, large_sample, bound_file, digit_between, number_between, with_numbers, map_form, check_of, sim_of, show_of, large_of, bound_of, five_words, six_words, asked_of}
use Rattle.turbomap.proofs.Decided.{HasTables}

-- what holds of both holds of the choice
either : (b : Bool) (one other : Option Asked) → IfSome one HasTables → IfSome other HasTables → IfSome (if b then one else other) HasTables
either true one other first second = first
either false one other first second = second

-- a digit of at least 2 is at least 1
digit_some : (most : ℕ) (word : List ℕ) → IfSome (digit_between 2 most word) (λ k. 1 ≤ k)
digit_some most [] = tt
digit_some most (byte ∷ next ∷ rest) = tt
digit_some most (byte ∷ []) = by (nat_le 50 byte) (nat_le byte (48 + most)) refl
  where
    by : (low high : Bool) → nat_le 50 byte ≡ low → IfSome (if low && high then Some (byte - 48) else None) (λ k. 1 ≤ k)
    by true true least = let enough = leb-true 50 byte least in omega (arith, enough)
    by true false least = tt
    by false high least = tt

asked_with : (k d : Option ℕ) (ask : ℕ → ℕ → Option Asked) → IfSome k (λ n. 1 ≤ n) → ((n m : ℕ) → 1 ≤ n → IfSome (ask n m) HasTables)
    → IfSome (option_and_then (λ n. option_and_then (ask n) d) k) HasTables
asked_with None d ask some each = tt
asked_with (Some k) None ask some each = tt
asked_with (Some k) (Some d) ask some each = each k d some

numbers_have : (k d : List ℕ) (ask : ℕ → ℕ → Option Asked) → ((n m : ℕ) → 1 ≤ n → IfSome (ask n m) HasTables) → IfSome (with_numbers k d ask) HasTables
numbers_have k d ask each = asked_with (digit_between 2 most_inputs k) (digit_between 0 most_lag d) ask (digit_some most_inputs k) each

map_has : (rows : Rows) (k d input output : List ℕ) (certificate : Option (List ℕ)) → IfSome (map_form rows k d input output certificate) HasTables
map_has rows k d input output certificate =
    numbers_have k d (λ n m. if are_names (files_of input output certificate) then Some (map_files rows n m input output certificate) else None)
    (λ n m some. either (are_names (files_of input output certificate)) (Some (map_files rows n m input output certificate)) None tt tt)

check_has : (k d input output certificate : List ℕ) → IfSome (check_of k d input output certificate) HasTables
check_has k d input output certificate =
    numbers_have k d
    (λ n m. if are_names (input ∷ output ∷ certificate ∷ []) then Some (check_files n m input output certificate) else None)
    (λ n m some. either (are_names (input ∷ output ∷ certificate ∷ [])) (Some (check_files n m input output certificate)) None some tt)

number_has : (number : Option ℕ) (ask : ℕ → Option Asked) → ((n : ℕ) → IfSome (ask n) HasTables) → IfSome (option_and_then ask number) HasTables
number_has None ask each = tt
number_has (Some number) ask each = each number

large_has : (number k d : List ℕ) → IfSome (large_of number k d) HasTables
large_has number k d =
    number_has (number_between least_sample most_sample number) (λ number. with_numbers k d (λ n m. Some (large_sample number n m)))
    (λ number. numbers_have k d (λ n m. Some (large_sample number n m)) (λ n m some. tt))

bound_has : (k d b input : List ℕ) → IfSome (bound_of k d b input) HasTables
bound_has k d b input =
    numbers_have k d
    (λ n m. option_and_then (λ b. if are_names (input ∷ []) then Some (bound_file n m b input) else None) (digit_between 0 most_back b))
    (λ n m some. number_has (digit_between 0 most_back b) (λ b. if are_names (input ∷ []) then Some (bound_file n m b input) else None)
    (λ b. either (are_names (input ∷ [])) (Some (bound_file n m b input)) None tt tt))

five_have : (verb k d third fourth : List ℕ) → IfSome (five_words verb k d third fourth) HasTables
unfolding five_words
five_have verb k d third fourth =
    let bounds = if bytes_eq verb (codes "bound") then bound_of k d third fourth else None in
    let primes = if bytes_eq verb (codes "prime") then map_form Prime k d third fourth None else bounds in
    either (bytes_eq verb (codes "map")) (map_form Single k d third fourth None) primes (map_has Single k d third fourth None)
    (either (bytes_eq verb (codes "prime")) (map_form Prime k d third fourth None) bounds (map_has Prime k d third fourth None)
    (either (bytes_eq verb (codes "bound")) (bound_of k d third fourth) None (bound_has k d third fourth) tt))

six_have : (verb k d input output certificate : List ℕ) → IfSome (six_words verb k d input output certificate) HasTables
unfolding six_words
six_have verb k d input output certificate =
    let checks = if bytes_eq verb (codes "check") then check_of k d input output certificate else None in
    let primes = if bytes_eq verb (codes "prime") then map_form Prime k d input output (Some certificate) else checks in
    either (bytes_eq verb (codes "map")) (map_form Single k d input output (Some certificate)) primes
    (map_has Single k d input output (Some certificate))
    (either (bytes_eq verb (codes "prime")) (map_form Prime k d input output (Some certificate)) checks
    (map_has Prime k d input output (Some certificate))
    (either (bytes_eq verb (codes "check")) (check_of k d input output certificate) None (check_has k d input output certificate) tt))

pub words_have_tables : (words : List (List ℕ)) → IfSome (asked_of words) HasTables
words_have_tables [] = tt
words_have_tables (verb ∷ []) = tt
words_have_tables (verb ∷ input ∷ []) =
    either (bytes_eq verb (codes "show")) (show_of input) None (either (are_names (input ∷ [])) (Some (show_file input)) None tt tt) tt
words_have_tables (verb ∷ a ∷ b ∷ []) = tt
words_have_tables (verb ∷ first ∷ second ∷ third ∷ []) =
    either (bytes_eq verb (codes "sim")) (sim_of first second third)
    (if bytes_eq verb (codes "large") then large_of first second third else None)
    (either (are_names (first ∷ second ∷ third ∷ [])) (Some (sim_files first second third)) None tt tt)
    (either (bytes_eq verb (codes "large")) (large_of first second third) None (large_has first second third) tt)
words_have_tables (verb ∷ k ∷ d ∷ third ∷ fourth ∷ []) = five_have verb k d third fourth
words_have_tables (verb ∷ k ∷ d ∷ input ∷ output ∷ certificate ∷ []) = six_have verb k d input output certificate
words_have_tables (verb ∷ a ∷ b ∷ c ∷ d ∷ e ∷ f ∷ words) = tt
