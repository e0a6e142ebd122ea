-- The names of the circuit of a text stand in its flat unit, whose names keep the limit.
use Rattle.std.proofs.Common.{◌≡◌, ℕ, ◌≤◌, true, false, nat_lt, List, [], ◌∷◌, ◌++◌, Option, None, Some, Result, Ok, Err, IsOkAnd, length, option_map, position, slice_get, bytes_eq, refl, sym, ◌∙◌, subst}
use Rattle.std.specs.List.{AllByRecursion, list_any}
use Rattle.std.proofs.lemmas.Bool.{ltb-false}
use Rattle.std.proofs.lemmas.List.Elements.{All-from_recursion}
use Rattle.tm_circuit.specs.Plain.{Plain}
use Rattle.tm_circuit.specs.Sound as sound
use Rattle.blif_lex.specs.Words.{Line, words_of}
use Rattle.blif_lex.specs.declared.fault.LexFault.{LexFault}
use Rattle.blif_unit.specs.declared.fault.BlifKind.TheVariants.{LongName}
use Rattle.blif_unit.specs.declared.limits.Limits.{Limits}
use Rattle.blif_unit.specs.Fit.{names_told}
use Rattle.blif_unit.specs.Unit as told
use Rattle.blif_unit.specs.Unit.{Told, Telling, Model, over, inputs_told, clocks_told, drivers_told}
use Rattle.blif_circuit.specs.Circuit.{clock_in, declared_told, edges_of}
use Rattle.blif_circuit.proofs.SignalLaid.{names_lawful, first_of}
use Rattle.blif_circuit.proofs.SignalUses.{all-right, all-both}
use Rattle.blif_models.specs.Several.{models_in}
use Rattle.blif_models.proofs.OrderlyLemmas.{no_fault, or_left_false, or_right_false, or_second_none}
use Rattle.blif_models.proofs.UnitLemmas.{or_none, mapped_none}
use Rattle.blif_flat.specs.Flat.{flat_of}
use Rattle.blif_read.specs.Whole.{before, fault_in_statement, fault_in_statements, IsCircuitOfUnit}
use Rattle.blif_read.proofs.WholeLemmas.{statements_cons, over_named}
use Rattle.blif_hier.specs.Text.{IsCircuitOf, IsCircuitOfLines, HasNamesWithin}

-- ---- statements

none_long : (most : ℕ) (ns : List (List ℕ)) → list_any (λ n. nat_lt most (length n)) ns ≡ false → AllByRecursion (λ n. length n ≤ most) ns
none_long most [] h = tt
none_long most (n ∷ ns) h = (
  ltb-false most (length n) (or_left_false (nat_lt most (length n)) (list_any (λ m. nat_lt most (length m)) ns) h),
  none_long most ns (or_right_false (nat_lt most (length n)) (list_any (λ m. nat_lt most (length m)) ns) h),
)

-- Where no statement is at fault after those before it, their names are short.
short_statements : (most : ℕ) (done body : List Telling) → fault_in_statements most done body ≡ None → AllByRecursion (λ n. length n ≤ most) (over names_told body)
short_statements most done [] h = tt
short_statements most done (t ∷ body) h =
    let both = sym (statements_cons most done t body) ∙ h in
    let here : fault_in_statement most (before done) t.what ≡ None = mapped_none _ _ (or_none _ _ both) in
    let long = no_fault (list_any (λ n. nat_lt most (length n)) (names_told t.what)) LongName _ here in
    all-both (λ (n : List ℕ). length n ≤ most) (names_told t.what) (over names_told body) (none_long most (names_told t.what) long.0)
    (short_statements most (done ++ t ∷ []) body (or_second_none _ _ both))

drivers_named : (P : List ℕ → Type 0) (w : Told) → AllByRecursion P (names_told w) → AllByRecursion P (drivers_told w)
drivers_named P (told.inputs names) all = all-both P (names ++ []) [] (all-both P names [] all tt) tt
drivers_named P (told.outputs names) all = tt
drivers_named P (told.clock names) all = tt
drivers_named P (told.gate pins name cover) all = all-right P pins (name ∷ []) all
drivers_named P (told.latch next name init control) all = (all.1.0, tt)
drivers_named P (told.place model bindings) all = tt

clocks_named : (P : List ℕ → Type 0) (w : Told) → AllByRecursion P (names_told w) → AllByRecursion P (clocks_told w)
clocks_named P (told.inputs names) all = tt
clocks_named P (told.outputs names) all = tt
clocks_named P (told.clock names) all = all
clocks_named P (told.gate pins name cover) all = tt
clocks_named P (told.latch next name init control) all = all.1.1
clocks_named P (told.place model bindings) all = tt

clock_named : (P : List ℕ → Type 0) (body : List Telling) → AllByRecursion P (over clocks_told body) → AllByRecursion P (sound.clock_name (clock_in body))
clock_named P body all = by_name (slice_get (over clocks_told body) 0) refl
  where
    by_name : (o : Option (List ℕ)) → slice_get (over clocks_told body) 0 ≡ o
        → AllByRecursion P (sound.clock_name (option_map (λ n. record {
          name = n;
          edge = slice_get (edges_of body) 0;
          declared = list_any (bytes_eq n) (over declared_told body);
          place = position (bytes_eq n) (over inputs_told body);
        }) o))
    by_name None is = tt
    by_name (Some n) is = (first_of P (over clocks_told body) n all is, tt)

-- ---- circuits

short_unit : (limits : Limits) (m : Model) (c : Plain) → IsCircuitOfUnit limits m c → HasNamesWithin limits.name c
short_unit limits m c ic =
    let P : List ℕ → Type 0 = λ n. length n ≤ limits.name in
    let s = ic.circuit.spelled in
    let all : AllByRecursion P (over names_told m.body) = short_statements limits.name [] m.body ic.lawful in
    let names : AllByRecursion P c.names =
    subst (AllByRecursion P) (sym s.names) (names_lawful P m.body (over_named P drivers_told (drivers_named P) m.body all)) in
    let clock : AllByRecursion P (sound.clock_name c.clock) =
    subst (λ k. AllByRecursion P (sound.clock_name k)) (sym s.clock) (clock_named P m.body (over_named P clocks_told (clocks_named P) m.body all)) in
    All-from_recursion P (c.names ++ sound.clock_name c.clock) (all-both P c.names (sound.clock_name c.clock) names clock)

short_by : (limits : Limits) (r : Result (List Line) LexFault) (c : Plain) → IsOkAnd r (λ lines. IsCircuitOfLines limits lines c) → HasNamesWithin limits.name c
short_by limits (Ok lines) c ic = short_unit limits (flat_of (models_in lines)) c ic.circuit.circuit
short_by limits (Err e) c ic = absurd ic

-- The names of a text's circuit are within the limit.
pub short_names : (limits : Limits) (text : List ℕ) (c : Plain) → IsCircuitOf limits text c → HasNamesWithin limits.name c
short_names limits text c ic = short_by limits (words_of limits.name true text) c ic
