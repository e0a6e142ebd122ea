-- What a logical line is, by its first word.
use Rattle.std.specs.Prelude.{ℕ, List, [], ◌∷◌, ◌==◌, if◌then◌else◌, bytes_eq, codes, slice_index}
use Rattle.std.specs.List.{list_any}
use Rattle.blif_models.specs.declared.keyword.Keyword.{Keyword}
use Rattle.blif_models.specs.declared.keyword.Keyword.TheVariants.{Model, Inputs, Outputs, Clock, Names, Latch, End, Omitted, Unknown, Row}

-- the statements of BLIF that are left out
unfoldable pub left_out : List (List ℕ)
left_out = codes ".subckt" ∷ codes ".gate" ∷ codes ".mlatch" ∷ codes ".exdc" ∷ codes ".search" ∷ codes ".conn" ∷ codes ".blackbox"
    ∷ codes ".start_kiss" ∷ codes ".end_kiss" ∷ codes ".latch_order" ∷ codes ".code" ∷ codes ".cycle" ∷ codes ".clock_event" ∷ codes ".area"
    ∷ codes ".delay" ∷ codes ".wire_load_slope" ∷ codes ".wire" ∷ codes ".input_arrival" ∷ codes ".default_input_arrival"
    ∷ codes ".output_required" ∷ codes ".default_output_required" ∷ codes ".input_drive" ∷ codes ".default_input_drive"
    ∷ codes ".output_load" ∷ codes ".default_output_load" ∷ codes ".max_input_load" ∷ codes ".default_max_input_load" ∷ []

-- A first word that begins with a dot is a statement, known, left out or unknown; any other begins a row.
unfoldable pub keyword_at : List ℕ → Keyword
keyword_at word =
    if bytes_eq word (codes ".names") then Names else
    if bytes_eq word (codes ".latch") then Latch else
    if bytes_eq word (codes ".inputs") then Inputs else
    if bytes_eq word (codes ".outputs") then Outputs else
    if bytes_eq word (codes ".clock") then Clock else
    if bytes_eq word (codes ".model") then Model else
    if bytes_eq word (codes ".end") then End else
    if list_any (λ statement. bytes_eq word statement) left_out then Omitted else
    if slice_index word 0 == 46 then Unknown else Row
