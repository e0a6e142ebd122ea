-- The names of signals: those of symbols where they can be used, and made names elsewhere.
--     `#` 35, `%` 37, `\` 92, `i` 105, `l` 108, `o` 111
use Rattle.std.specs.Prelude.{ℕ, suc, ◌+◌, Bool, not, ◌&&◌, ◌==◌, nat_lt, nat_le, if◌then◌else◌, List, [], ◌∷◌, ◌++◌, map, length, take, drop, replicate, bytes_eq, Option, None, Some, unwrap_or, option_to_list}
use Rattle.std.specs.List.{list_any, list_all}
use Rattle.std.specs.Fmt.{decimal}
use Rattle.tm_circuit.specs.Plain.{greatest}
use Rattle.tm_parts.specs.Runs.{longest_run}
use Rattle.aiger_read.specs.declared.header.Header.{Header}
use Rattle.aiger_read.specs.Limits.{longest_run_used}

abbrev pub percent : ℕ
percent = 37

-- A byte that may stand in the name of a signal: a visible ASCII character that is no `#` and no `\`.
abbrev pub is_name_byte : ℕ → Bool
is_name_byte b = nat_le 33 b && nat_le b 126 && not (b == 35) && not (b == 92)

-- Whether a name can be used where names have at most so many bytes.
unfoldable pub is_usable : ℕ → List ℕ → Bool
is_usable most name =
    nat_lt 0 (length name) && nat_le (length name) most && list_all is_name_byte name && nat_le (longest_run percent name) longest_run_used

-- The name where it can be used and is none of those used before.
abbrev pub used_one : ℕ → List (List ℕ) → Option (List ℕ) → Option (List ℕ)
used_one most before None = None
used_one most before (Some name) = if is_usable most name && not (list_any (bytes_eq name) before) then Some name else None

-- The names that are used, in order, behind those used before.
abbrev pub used_after : ℕ → List (List ℕ) → List (Option (List ℕ)) → List (Option (List ℕ))
used_after most before [] = []
used_after most before (name ∷ names) =
    used_one most before name ∷ used_after most (before ++ option_to_list (used_one most before name)) names

unfoldable pub used : ℕ → List (Option (List ℕ)) → List (Option (List ℕ))
used most names = used_after most [] names

-- The length of the longest run of `%` in a name, 0 where there is none.
abbrev pub run_in : Option (List ℕ) → ℕ
run_in None = 0
run_in (Some name) = longest_run percent name

-- The joiner: a run of `%` that is one longer than the longest in a name that is used.
abbrev pub joiner_for : List (Option (List ℕ)) → List ℕ
joiner_for names = replicate (suc (greatest (map run_in names))) percent

-- A made name.
abbrev pub made_name : List ℕ → ℕ → ℕ → List ℕ
made_name joiner letter number = (letter ∷ joiner) ++ decimal number

-- Names from a place on, made of a letter and the place where none is used.
abbrev pub names_from : List ℕ → ℕ → ℕ → List (Option (List ℕ)) → List (List ℕ)
names_from joiner letter place [] = []
names_from joiner letter place (name ∷ names) =
    unwrap_or name (made_name joiner letter place) ∷ names_from joiner letter (suc place) names

-- The names of the inputs, the outputs and the latches, by the names used.
abbrev pub input_names : Header → List ℕ → List (Option (List ℕ)) → List (List ℕ)
input_names h joiner names = names_from joiner 105 0 (take h.inputs names)

abbrev pub output_names : Header → List ℕ → List (Option (List ℕ)) → List (List ℕ)
output_names h joiner names = names_from joiner 111 0 (take h.outputs (drop h.inputs names))

abbrev pub latch_names : Header → List ℕ → List (Option (List ℕ)) → List (List ℕ)
latch_names h joiner names = names_from joiner 108 0 (drop (h.inputs + h.outputs) names)
