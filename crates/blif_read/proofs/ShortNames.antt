-- The names of the circuit of a text are words of the text, so they keep its limit on names.
use Rattle.std.proofs.Common.{◌≡◌, ℕ, ◌≤◌, false, List, [], ◌∷◌, ◌++◌, Option, None, Some, length, refl, sym, subst}
use Rattle.std.specs.Prelude.{Result, Ok, Err, IsOkAnd, option_map, position, slice_get, bytes_eq}
use Rattle.std.specs.List.{AllByRecursion, list_any}
use Rattle.std.proofs.lemmas.List.Elements.{All-from_recursion, recursion_from_All}
use Rattle.tm_circuit.specs.Plain.{Plain}
use Rattle.tm_circuit.specs.Sound as sound
use Rattle.blif_lex.specs.Words.{Line, IsLawful, words_of}
use Rattle.blif_lex.specs.declared.fault.LexFault.{LexFault}
use Rattle.blif_lex.proofs.Lawful.{lawful_lines}
use Rattle.blif_unit.specs.declared.limits.Limits.{Limits}
use Rattle.blif_unit.specs.Unit.{Telling, over, inputs_told, clocks_told}
use Rattle.blif_circuit.specs.Circuit.{clock_in, declared_told, edges_of}
use Rattle.blif_read.specs.Text.{IsCircuitOf, IsCircuitOfLines, HasNamesWithin}
use Rattle.blif_models.specs.Lines.{model_in}
use Rattle.blif_models.proofs.OrderlyLemmas.{AreWords, drivers_kept, clocks_kept}
use Rattle.blif_circuit.proofs.SignalLaid.{names_lawful, first_of}
use Rattle.blif_circuit.proofs.SignalUses.{all-both}

clock_kept : (P : List ℕ → Type 0) (body : List Telling) → AllByRecursion P (over clocks_told body) → AllByRecursion P (sound.clock_name (clock_in body))
clock_kept P body all = by_name (slice_get (over clocks_told body) 0) refl
  where
    by_name : (o : Option (List ℕ)) → slice_get (over clocks_told body) 0 ≡ o
        → AllByRecursion P (sound.clock_name (option_map (λ n. record {
          name = n;
          edge = slice_get (edges_of body) 0;
          declared = list_any (bytes_eq n) (over declared_told body);
          place = position (bytes_eq n) (over inputs_told body);
        }) o))
    by_name None is = tt
    by_name (Some n) is = (first_of P (over clocks_told body) n all is, tt)

short_lines : (limits : Limits) (lines : List Line) (c : Plain) → AreWords (λ w. length w ≤ limits.name) lines → IsCircuitOfLines limits lines c
    → HasNamesWithin limits.name c
short_lines limits lines c words ic =
    let P : List ℕ → Type 0 = λ w. length w ≤ limits.name in
    let body = (model_in lines).body in
    let s = ic.circuit.spelled in
    let names : AllByRecursion P c.names
    = subst (AllByRecursion P) (sym s.names) (names_lawful P body (drivers_kept P lines words ic.lawful)) in
    let clock : AllByRecursion P (sound.clock_name c.clock)
    = subst (λ k. AllByRecursion P (sound.clock_name k)) (sym s.clock) (clock_kept P body (clocks_kept P lines words ic.lawful)) in
    All-from_recursion P (c.names ++ sound.clock_name c.clock) (all-both P c.names (sound.clock_name c.clock) names clock)

lines_short : (most : ℕ) (lines : List Line) → AllByRecursion (IsLawful most false) lines → AreWords (λ w. length w ≤ most) lines
lines_short most [] lawful = tt
lines_short most (line ∷ lines) lawful =
    (recursion_from_All (λ w. length w ≤ most) line.words lawful.0.short, lines_short most lines lawful.1)

-- The names of a text's circuit are within the limit.
pub short_names : (limits : Limits) (text : List ℕ) (c : Plain) → IsCircuitOf limits text c → HasNamesWithin limits.name c
short_names limits text c ic = by_words (words_of limits.name false text) refl ic
  where
    by_words : (r : Result (List Line) LexFault) → words_of limits.name false text ≡ r → IsOkAnd r (λ lines. IsCircuitOfLines limits lines c)
        → HasNamesWithin limits.name c
    by_words (Ok lines) is of_lines =
        short_lines limits lines c
        (lines_short limits.name lines (recursion_from_All (IsLawful limits.name false) lines (lawful_lines limits.name false text lines is))) of_lines
    by_words (Err e) is of_lines = absurd of_lines
