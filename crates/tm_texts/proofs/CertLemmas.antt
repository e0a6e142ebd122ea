-- The text of a certificate is longer than its list of drops.
use Rattle.std.proofs.Common.{◌≤◌, ℕ, List, [], ◌∷◌, ◌++◌, map, length, codes, subst, sym, arith, length-append, flat_map}
use Rattle.std.proofs.lemmas.List.{length-map}
use Rattle.std.specs.List.{join_with_byte}
use Rattle.cert_text.specs.Certificates.{Certificate, IsCertificateOf, certificate_text, certificate_words, line_text, counted, table_words, drop_words}

lines_long : (lines : List (List (List ℕ))) → length lines ≤ length (flat_map line_text lines)
lines_long [] = omega arith
lines_long (line ∷ lines) =
    let rest = lines_long lines in
    let here = length-append (line_text line) (flat_map line_text lines) in
    let last = length-append (join_with_byte 32 line) (10 ∷ []) in omega (arith, rest, here, last)

middle_long : {A : Type 0} (first middle last : List A) (n : ℕ) → n ≤ length middle → n ≤ length (first ++ middle ++ last)
middle_long first middle last n enough =
    let inner = length-append first middle in let outer = length-append (first ++ middle) last in omega (arith, enough, inner, outer)

words_long : (c : Certificate) → length c.drops ≤ length (certificate_words c)
words_long c =
    let drops = length-map c.drops drop_words in
    middle_long
    (counted (codes "turbomap") c.version ∷ counted (codes "period") c.period ∷ counted (codes "tables") (length c.tables) ∷ map table_words c.tables)
    (counted (codes "drops") (length c.drops) ∷ map drop_words c.drops) ((codes "end" ∷ []) ∷ []) (length c.drops) (omega (arith, drops))

text_long : (c : Certificate) → length c.drops ≤ length (certificate_text c)
unfolding certificate_text
text_long c = let words = words_long c in let lines = lines_long (certificate_words c) in omega (arith, words, lines)

pub drops_few : (text : List ℕ) (c : Certificate) → IsCertificateOf text c → length c.drops ≤ length text
drops_few text c is = subst (λ (t : List ℕ). length c.drops ≤ length t) (sym is.written) (text_long c)
