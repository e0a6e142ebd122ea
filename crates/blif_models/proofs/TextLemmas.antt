-- From the words of a text to its statements.
use Rattle.std.proofs.Common.{ℕ, ◌≤◌, false, List, [], ◌∷◌, length, All, arith}
use Rattle.std.specs.List.{AllByRecursion}
use Rattle.std.proofs.lemmas.List.Elements.{recursion_from_All}
use Rattle.blif_lex.specs.Words.{Line, IsLawful, IsPlainWord}
use Rattle.tm_circuit.specs.Sound.{IsName}
use Rattle.blif_models.specs.Lines.{AreNamed}

names_by : (most : ℕ) → most ≤ 1023 → (words : List (List ℕ)) → AllByRecursion IsPlainWord words → AllByRecursion (λ w. length w ≤ most) words
    → AllByRecursion IsName words
names_by most le [] plain short = tt
names_by most le (w ∷ words) plain short = (
  record {
    some = plain.0.some;
    short = let here : length w ≤ most = short.0 in omega arith;
    lawful = plain.0.bytes;
  },
  names_by most le words plain.1 short.1,
)

lines_by : (most : ℕ) → most ≤ 1023 → (lines : List Line) → AllByRecursion (IsLawful most false) lines → AreNamed lines
lines_by most le [] lawful = tt
lines_by most le (line ∷ lines) lawful = (
  names_by most le line.words (recursion_from_All IsPlainWord line.words lawful.0.plain) (recursion_from_All (λ w. length w ≤ most) line.words lawful.0.short),
  lines_by most le lines lawful.1,
)

-- Words of lawful lines are names.
pub named : (most : ℕ) → most ≤ 1023 → (lines : List Line) → All (IsLawful most false) lines → AreNamed lines
named most le lines lawful = lines_by most le lines (recursion_from_All (IsLawful most false) lines lawful)
