-- Whole texts: the lines of a certificate are the lines of its text, and lines that have their forms are those of a certificate.
use Rattle.std.proofs.Common.{◌≡◌, ℕ, ◌+◌, ◌<◌, ◌≤◌, false, eqb, List, [], ◌∷◌, ◌++◌, map, length, take, drop, get_or, replicate, codes, All, None, refl, sym, ◌∙◌, ap, ap₂, subst, arith, append_assoc}
use Rattle.std.specs.List.{AllZip, AllByRecursion, flat_map, join_with_byte}
use Rattle.std.proofs.lemmas.Bool.Decides.{nat_tests}
use Rattle.std.proofs.lemmas.List.{map-append, length-map, length-append, length-replicate, take_at, drop_at, get_or_at}
use Rattle.std.proofs.lemmas.List.Elements.{All-head, All-tail, All-cons, All-nil}
use Rattle.std.proofs.lemmas.List.Splits.{slice_split_at, join_with_byte-slice_split}
use Rattle.tm_unroll.specs.Mappings.{Table}
use Rattle.tm_replay.specs.Replays.{Drop}
use Rattle.cert_text.specs.declared.keyword.Keyword.TheVariants as keywords
use Rattle.cert_text.specs.Limits.{most_number, most_drops}
use Rattle.cert_text.specs.Certificates.{Certificate, counted, table_words, drop_words, certificate_words, line_text, certificate_text, HasSpellingTable, HasSpellingDrop, IsCertificateOf}
use Rattle.cert_text.specs.Words.{number_on, table_on, drop_on}
use Rattle.cert_text.specs.Faults.{Form, first, later, fault_in, pieces_of, forms_for, tables_said, drops_said, forms_due}
use Rattle.cert_text.specs.Steps.{HaveForms}
use Rattle.cert_text.proofs.Lists.{AllZip-append}
use Rattle.cert_text.proofs.LineLemmas.{IsWhole, AreWhole, line_of, tested-whole, line-plain, line-words, counted-spelled, counted-lawful, version-spelled, version-lawful}
use Rattle.cert_text.proofs.ValueLemmas.{table-spelled, table-written, drop-spelled, drop-written, end-spelled, end-lawful}

-- ---- a text and its pieces

no_end : (words : List (List ℕ)) → AreWhole words → All (λ b. eqb b 10 ≡ false) (line_of words)
no_end words whole = λ k d inside. other (get_or (line_of words) k d) (line-plain words whole k d inside)
  where
    other : (b : ℕ) → 32 ≤ b → eqb b 10 ≡ false
    other b h = grind (arith, nat_tests)

pieces-text : (lines : List (List (List ℕ))) → AllByRecursion AreWhole lines → pieces_of (flat_map line_text lines) ≡ map line_of lines ++ [] ∷ []
pieces-text [] whole = refl
pieces-text (words ∷ lines) whole =
    ap pieces_of (append_assoc (line_of words) (10 ∷ []) (flat_map line_text lines))
    ∙ slice_split_at (λ (b : ℕ). eqb b 10) (line_of words) 10 (flat_map line_text lines) (no_end words whole.0) refl
    ∙ ap (λ ps. line_of words ∷ ps) (pieces-text lines whole.1)

join-cons : (x : List ℕ) (ys : List (List ℕ)) → 0 < length ys → join_with_byte 10 (x ∷ ys) ≡ x ++ (10 ∷ join_with_byte 10 ys)
join-cons x [] some = absurd (omega arith)
join-cons x (y ∷ ys) some = refl

join-ended : (lines : List (List ℕ)) → join_with_byte 10 (lines ++ [] ∷ []) ≡ flat_map (λ line. line ++ 10 ∷ []) lines
join-ended [] = refl
join-ended (line ∷ lines) =
    join-cons line (lines ++ [] ∷ []) (omega (arith, length-append lines ([] ∷ [])))
    ∙ ap (λ xs. line ++ 10 ∷ xs) (join-ended lines)
    ∙ sym (append_assoc line (10 ∷ []) (flat_map (λ l. l ++ 10 ∷ []) lines))

flat-lines : (lines : List (List (List ℕ))) → flat_map (λ line. line ++ 10 ∷ []) (map line_of lines) ≡ flat_map line_text lines
flat-lines [] = refl
flat-lines (words ∷ lines) = ap (λ xs. line_text words ++ xs) (flat-lines lines)

-- a text whose lines are those of words is the text of these
text-lines : (text : List ℕ) (lines : List (List (List ℕ))) → pieces_of text ≡ map line_of lines ++ [] ∷ [] → text ≡ flat_map line_text lines
text-lines text lines e = sym (join_with_byte-slice_split 10 text) ∙ ap (join_with_byte 10) e ∙ join-ended (map line_of lines) ∙ flat-lines lines

-- ---- the lines of a certificate

-- The lines of a text, each part by itself.
pub record Lay : Type 0 where
  pub first_line : List ℕ
  pub period_line : List ℕ
  pub tables_line : List ℕ
  pub table_lines : List (List ℕ)
  pub drops_line : List ℕ
  pub drop_lines : List (List ℕ)
  pub end_line : List ℕ

abbrev pub lines_of : Lay → List (List ℕ)
lines_of lay =
    (lay.first_line ∷ lay.period_line ∷ lay.tables_line ∷ lay.table_lines) ++ (lay.drops_line ∷ lay.drop_lines) ++ lay.end_line ∷ []

-- The certificate that the lines tell.
abbrev pub certificate_on : Lay → Certificate
certificate_on lay =
    record { version = number_on lay.first_line; period = number_on lay.period_line; tables = map table_on lay.table_lines; drops = map drop_on lay.drop_lines }

-- The lines have their forms.
pub record IsLawful (lay : Lay) : Type 0 where
  pub many_tables : length lay.table_lines ≡ number_on lay.tables_line
  pub many_drops : length lay.drop_lines ≡ number_on lay.drops_line
  pub each : HaveForms (forms_for (length lay.table_lines) (length lay.drop_lines)) (lines_of lay)

-- ---- what is due

pub regrouped : (a ds z : List (List ℕ)) (d e : List ℕ) → (a ++ (d ∷ ds) ++ e ∷ []) ++ z ≡ a ++ (d ∷ (ds ++ (e ∷ z)))
regrouped a ds z d e = append_assoc (a ++ (d ∷ ds)) (e ∷ []) z ∙ append_assoc a (d ∷ ds) (e ∷ z)

tables-said : (pieces : List (List ℕ)) (lay : Lay) → pieces ≡ lines_of lay ++ [] ∷ [] → IsLawful lay → tables_said pieces ≡ length lay.table_lines
tables-said pieces lay whole lawful = ap (λ ps. number_on (get_or ps 2 [])) whole ∙ sym lawful.many_tables

drops-said : (pieces : List (List ℕ)) (lay : Lay) → pieces ≡ lines_of lay ++ [] ∷ [] → IsLawful lay → drops_said pieces ≡ length lay.drop_lines
drops-said pieces lay whole lawful =
    let heads : List (List ℕ) = lay.first_line ∷ lay.period_line ∷ lay.tables_line ∷ lay.table_lines in
    let grouped : pieces ≡ heads ++ (lay.drops_line ∷ (lay.drop_lines ++ (lay.end_line ∷ [] ∷ []))) = whole ∙ regrouped heads lay.drop_lines ([] ∷ []) lay.drops_line lay.end_line in
    let said = tables-said pieces lay whole lawful in
    let place : length heads ≡ 3 + tables_said pieces = omega (arith, said) in
    ap (λ ps. number_on (get_or ps (3 + tables_said pieces) [])) grouped
    ∙ ap number_on (get_or_at heads lay.drops_line (lay.drop_lines ++ (lay.end_line ∷ [] ∷ [])) [] (3 + tables_said pieces) place)
    ∙ sym lawful.many_drops

pub forms-due : (pieces : List (List ℕ)) (lay : Lay) → pieces ≡ lines_of lay ++ [] ∷ [] → IsLawful lay → HaveForms (forms_due pieces) (lines_of lay)
forms-due pieces lay whole lawful =
    let tables = tables-said pieces lay whole lawful in
    let drops = drops-said pieces lay whole lawful in
    subst (λ (forms : List Form). HaveForms forms (lines_of lay)) (sym (ap₂ forms_for tables drops)) lawful.each

-- The certificate that pieces tell, by places.
unfoldable pub certificate_in : List (List ℕ) → Certificate
certificate_in pieces = record {
  version = number_on (get_or pieces 0 []);
  period = number_on (get_or pieces 1 []);
  tables = map table_on (take (tables_said pieces) (drop 3 pieces));
  drops = map drop_on (take (drops_said pieces) (drop (4 + tables_said pieces) pieces));
}

same_certificate : (v p : ℕ) (ts us : List Table) (ds es : List Drop) → ts ≡ us → ds ≡ es
    → (let c : Certificate = record { version = v; period = p; tables = ts; drops = ds } in let o : Certificate = record { version = v; period = p; tables = us; drops = es } in c ≡ o)
same_certificate v p ts us ds es e h = ap₂ (λ (x : List Table) (y : List Drop). record { version = v; period = p; tables = x; drops = y }) e h

pub certificate-in : (lay : Lay) → IsLawful lay → certificate_in (lines_of lay ++ [] ∷ []) ≡ certificate_on lay
unfolding certificate_in
certificate-in lay lawful =
    let pieces : List (List ℕ) = lines_of lay ++ [] ∷ [] in
    let heads : List (List ℕ) = lay.first_line ∷ lay.period_line ∷ lay.tables_line ∷ lay.table_lines in
    let tail : List (List ℕ) = lay.drop_lines ++ (lay.end_line ∷ [] ∷ []) in
    let grouped : pieces ≡ heads ++ (lay.drops_line ∷ tail) = regrouped heads lay.drop_lines ([] ∷ []) lay.drops_line lay.end_line in
    let tables = tables-said pieces lay refl lawful in
    let drops = drops-said pieces lay refl lawful in
    let table_lines : take (tables_said pieces) (drop 3 pieces) ≡ lay.table_lines =
    ap (λ ps. take (tables_said pieces) (drop 3 ps)) grouped ∙ take_at lay.table_lines (lay.drops_line ∷ tail) (tables_said pieces) (sym tables) in
    let place : length (heads ++ lay.drops_line ∷ []) ≡ 4 + tables_said pieces = omega (arith, tables, length-append heads (lay.drops_line ∷ [])) in
    let behind : drop (4 + tables_said pieces) pieces ≡ tail =
    ap (drop (4 + tables_said pieces)) (grouped ∙ sym (append_assoc heads (lay.drops_line ∷ []) tail)) ∙ drop_at (heads ++ lay.drops_line ∷ []) tail (4 + tables_said pieces) place in
    let drop_lines : take (drops_said pieces) (drop (4 + tables_said pieces) pieces) ≡ lay.drop_lines =
    ap (take (drops_said pieces)) behind ∙ take_at lay.drop_lines (lay.end_line ∷ [] ∷ []) (drops_said pieces) (sym drops) in
    same_certificate (number_on lay.first_line) (number_on lay.period_line) _ _ _ _ (ap (map table_on) table_lines) (ap (map drop_on) drop_lines)

-- ---- from lines to the certificate

AllZip-front : {A B : Type 0} (R : A → B → Type 0) (xs zs : List A) (ys ws : List B) → length xs ≡ length ys → AllZip R (xs ++ zs) (ys ++ ws) → AllZip R xs ys × AllZip R zs ws
AllZip-front R [] zs [] ws e all = (tt, all)
AllZip-front R [] zs (y ∷ ys) ws e all = absurd (omega arith)
AllZip-front R (x ∷ xs) zs [] ws e all = absurd (omega arith)
AllZip-front R (x ∷ xs) zs (y ∷ ys) ws e all =
    let later_ones = AllZip-front R xs zs ys ws (omega arith) all.1 in
    ((all.0, later_ones.0), later_ones.1)

tables-spelled : (lines : List (List ℕ)) → HaveForms (replicate (length lines) (later keywords.Table)) lines
    → (lines ≡ map line_of (map table_words (map table_on lines))) × All HasSpellingTable (map table_on lines)
tables-spelled [] each = (refl, All-nil HasSpellingTable)
tables-spelled (line ∷ lines) each =
    let here = table-spelled line each.0 in
    let rest = tables-spelled lines each.1 in
    (ap₂ (λ (x : List ℕ) (xs : List (List ℕ)). x ∷ xs) (line-words line ∙ ap line_of here.0) rest.0, All-cons HasSpellingTable (table_on line) (map table_on lines) here.1 rest.1)

drops-spelled : (lines : List (List ℕ)) → HaveForms (replicate (length lines) (later keywords.Drop)) lines
    → (lines ≡ map line_of (map drop_words (map drop_on lines))) × All HasSpellingDrop (map drop_on lines)
drops-spelled [] each = (refl, All-nil HasSpellingDrop)
drops-spelled (line ∷ lines) each =
    let here = drop-spelled line each.0 in
    let rest = drops-spelled lines each.1 in
    (ap₂ (λ (x : List ℕ) (xs : List (List ℕ)). x ∷ xs) (line-words line ∙ ap line_of here.0) rest.0, All-cons HasSpellingDrop (drop_on line) (map drop_on lines) here.1 rest.1)

-- the lines of a certificate's text, part by part
certificate-lines : (c : Certificate) → map line_of (certificate_words c)
    ≡ (line_of (counted (codes "turbomap") c.version) ∷ line_of (counted (codes "period") c.period) ∷ line_of (counted (codes "tables") (length c.tables)) ∷ map line_of (map table_words c.tables))
    ++ (line_of (counted (codes "drops") (length c.drops)) ∷ map line_of (map drop_words c.drops)) ++ codes "end" ∷ []
certificate-lines c =
    let heads : List (List (List ℕ)) = counted (codes "turbomap") c.version ∷ counted (codes "period") c.period ∷ counted (codes "tables") (length c.tables) ∷ map table_words c.tables in
    let tails : List (List (List ℕ)) = counted (codes "drops") (length c.drops) ∷ map drop_words c.drops in
    map-append line_of (heads ++ tails) ((codes "end" ∷ []) ∷ []) ∙ ap (λ xs. xs ++ codes "end" ∷ []) (map-append line_of heads tails)

five : (l0 l1 l2 ld le m0 m1 m2 md me : List ℕ) (ts us ds es : List (List ℕ)) → l0 ≡ m0 → l1 ≡ m1 → l2 ≡ m2 → ts ≡ us → ld ≡ md → ds ≡ es → le ≡ me
    → (l0 ∷ l1 ∷ l2 ∷ ts) ++ (ld ∷ ds) ++ le ∷ [] ≡ (m0 ∷ m1 ∷ m2 ∷ us) ++ (md ∷ es) ++ me ∷ []
five l0 l1 l2 ld le m0 m1 m2 md me ts us ds es e0 e1 e2 et ed es' ee = rw (e0, e1, e2, et, ed, es', ee) refl

pub certificate-of_lines : (text : List ℕ) (lay : Lay) → pieces_of text ≡ lines_of lay ++ [] ∷ [] → IsLawful lay → IsCertificateOf text (certificate_on lay)
unfolding certificate_text
certificate-of_lines text lay whole lawful =
    let c : Certificate = certificate_on lay in
    let heads : List (List ℕ) = lay.first_line ∷ lay.period_line ∷ lay.tables_line ∷ lay.table_lines in
    let head_forms : List Form = first ∷ later keywords.Period ∷ later keywords.Tables ∷ replicate (length lay.table_lines) (later keywords.Table) in
    let drop_forms : List Form = later keywords.Drops ∷ replicate (length lay.drop_lines) (later keywords.Drop) in
    let many_heads : length head_forms ≡ length heads = omega (arith, length-replicate (length lay.table_lines) (later keywords.Table)) in
    let many_drops : length drop_forms ≡ length (lay.drops_line ∷ lay.drop_lines) = omega (arith, length-replicate (length lay.drop_lines) (later keywords.Drop)) in
    let many : length (head_forms ++ drop_forms) ≡ length (heads ++ (lay.drops_line ∷ lay.drop_lines)) =
    omega (arith, many_heads, many_drops, length-append head_forms drop_forms, length-append heads (lay.drops_line ∷ lay.drop_lines)) in
    let parts = AllZip-front _ (head_forms ++ drop_forms) (later keywords.End ∷ []) (heads ++ (lay.drops_line ∷ lay.drop_lines)) (lay.end_line ∷ []) many lawful.each in
    let halves = AllZip-front _ head_forms drop_forms heads (lay.drops_line ∷ lay.drop_lines) many_heads parts.0 in
    let version = version-spelled lay.first_line halves.0.0 in
    let period = counted-spelled keywords.Period most_number lay.period_line refl halves.0.1.0 in
    let tables_number = counted-spelled keywords.Tables most_number lay.tables_line refl halves.0.1.1.0 in
    let tables = tables-spelled lay.table_lines halves.0.1.1.1 in
    let drops_number = counted-spelled keywords.Drops most_drops lay.drops_line refl halves.1.0 in
    let drops = drops-spelled lay.drop_lines halves.1.1 in
    let tables_many : number_on lay.tables_line ≡ length (map table_on lay.table_lines) = omega (arith, lawful.many_tables, length-map lay.table_lines table_on) in
    let drops_many : number_on lay.drops_line ≡ length (map drop_on lay.drop_lines) = omega (arith, lawful.many_drops, length-map lay.drop_lines drop_on) in
    let lines : lines_of lay ≡ map line_of (certificate_words c) =
    five _ _ _ _ _ _ _ _ _ _ _ _ _ _ version.0 (line-words lay.period_line ∙ ap line_of period.0)
    (line-words lay.tables_line ∙ ap line_of (tables_number.0 ∙ ap (counted (codes "tables")) tables_many)) tables.0
    (line-words lay.drops_line ∙ ap line_of (drops_number.0 ∙ ap (counted (codes "drops")) drops_many)) drops.0
    (line-words lay.end_line ∙ ap line_of (end-spelled lay.end_line parts.1.0))
    ∙ sym (certificate-lines c) in
    record {
      spelled = record {
        version = version.1;
        period = period.1;
        few_tables = omega (arith, tables_many, tables_number.1);
        tables = tables.1;
        few_drops = omega (arith, drops_many, drops_number.1);
        drops = drops.1;
      };
      written = text-lines text (certificate_words c) (whole ∙ ap (λ xs. xs ++ [] ∷ []) lines);
    }

-- ---- from the certificate to lines

-- The lines of a certificate's text.
abbrev pub lay_of : Certificate → Lay
lay_of c = record {
  first_line = line_of (counted (codes "turbomap") c.version);
  period_line = line_of (counted (codes "period") c.period);
  tables_line = line_of (counted (codes "tables") (length c.tables));
  table_lines = map line_of (map table_words c.tables);
  drops_line = line_of (counted (codes "drops") (length c.drops));
  drop_lines = map line_of (map drop_words c.drops);
  end_line = codes "end";
}

period_ink : IsWhole (codes "period")
period_ink = tested-whole (codes "period") refl refl

tables_ink : IsWhole (codes "tables")
tables_ink = tested-whole (codes "tables") refl refl

drops_ink : IsWhole (codes "drops")
drops_ink = tested-whole (codes "drops") refl refl

end_ink : IsWhole (codes "end")
end_ink = tested-whole (codes "end") refl refl

-- What lines that are written of values have: their forms, their values, and whole words.
record AreWritten {V : Type 0} (form : Form) (value_on : List ℕ → V) (words : List (List (List ℕ))) (values : List V) : Type 0 where
  lawful : HaveForms (replicate (length (map line_of words)) form) (map line_of words)
  told : map value_on (map line_of words) ≡ values
  whole : AllByRecursion AreWhole words

tables-written : (tables : List Table) → All HasSpellingTable tables → AreWritten (later keywords.Table) table_on (map table_words tables) tables
tables-written [] spelled = record { lawful = tt; told = refl; whole = tt }
tables-written (t ∷ tables) spelled =
    let here = table-written t (All-head HasSpellingTable t tables spelled) in
    let rest = tables-written tables (All-tail HasSpellingTable t tables spelled) in
    record {
      lawful = (here.lawful, rest.lawful);
      told = ap₂ (λ (x : Table) (xs : List Table). x ∷ xs) here.told rest.told;
      whole = (here.whole, rest.whole);
    }

drops-written : (drops : List Drop) → All HasSpellingDrop drops → AreWritten (later keywords.Drop) drop_on (map drop_words drops) drops
drops-written [] spelled = record { lawful = tt; told = refl; whole = tt }
drops-written (d ∷ drops) spelled =
    let here = drop-written d (All-head HasSpellingDrop d drops spelled) in
    let rest = drops-written drops (All-tail HasSpellingDrop d drops spelled) in
    record {
      lawful = (here.lawful, rest.lawful);
      told = ap₂ (λ (x : Drop) (xs : List Drop). x ∷ xs) here.told rest.told;
      whole = (here.whole, rest.whole);
    }

Whole-append : (xs ys : List (List (List ℕ))) → AllByRecursion AreWhole xs → AllByRecursion AreWhole ys → AllByRecursion AreWhole (xs ++ ys)
Whole-append [] ys front back = back
Whole-append (x ∷ xs) ys front back = (front.0, Whole-append xs ys front.1 back)

-- What the lines of a certificate's text have.
pub record HasLay (text : List ℕ) (c : Certificate) : Type 0 where
  pub whole : pieces_of text ≡ lines_of (lay_of c) ++ [] ∷ []
  pub lawful : IsLawful (lay_of c)
  pub told : certificate_on (lay_of c) ≡ c

same_parts : (v w p q : ℕ) (ts us : List Table) (ds es : List Drop) → v ≡ w → p ≡ q → ts ≡ us → ds ≡ es
    → (let c : Certificate = record { version = v; period = p; tables = ts; drops = ds } in let o : Certificate = record { version = w; period = q; tables = us; drops = es } in c ≡ o)
same_parts v w p q ts us ds es e0 e1 e2 e3 = rw (e0, e1, e2, e3) refl

pub lay-of_text : (text : List ℕ) (c : Certificate) → IsCertificateOf text c → HasLay text c
unfolding certificate_text
lay-of_text text c is =
    let spelled = is.spelled in
    let version = version-lawful c.version spelled.version in
    let period = counted-lawful keywords.Period most_number c.period refl spelled.period period_ink in
    let many_tables = counted-lawful keywords.Tables most_number (length c.tables) refl spelled.few_tables tables_ink in
    let tables = tables-written c.tables spelled.tables in
    let many_drops = counted-lawful keywords.Drops most_drops (length c.drops) refl spelled.few_drops drops_ink in
    let drops = drops-written c.drops spelled.drops in
    let heads : List (List (List ℕ)) = counted (codes "turbomap") c.version ∷ counted (codes "period") c.period ∷ counted (codes "tables") (length c.tables) ∷ map table_words c.tables in
    let tails : List (List (List ℕ)) = counted (codes "drops") (length c.drops) ∷ map drop_words c.drops in
    let words : AllByRecursion AreWhole (certificate_words c) =
    Whole-append (heads ++ tails) ((codes "end" ∷ []) ∷ []) (Whole-append heads tails (version.2, (period.2, (many_tables.2, tables.whole))) (many_drops.2, drops.whole)) ((end_ink, tt), tt) in
    let all_tables : length (map line_of (map table_words c.tables)) ≡ length c.tables = length-map (map table_words c.tables) line_of ∙ length-map c.tables table_words in
    let all_drops : length (map line_of (map drop_words c.drops)) ≡ length c.drops = length-map (map drop_words c.drops) line_of ∙ length-map c.drops drop_words in
    let table_lines : List (List ℕ) = map line_of (map table_words c.tables) in
    let head_forms : List Form = first ∷ later keywords.Period ∷ later keywords.Tables ∷ replicate (length table_lines) (later keywords.Table) in
    let head_lines : List (List ℕ) =
    line_of (counted (codes "turbomap") c.version) ∷ line_of (counted (codes "period") c.period) ∷ line_of (counted (codes "tables") (length c.tables)) ∷ table_lines in
    let drop_forms : List Form = later keywords.Drops ∷ replicate (length (map line_of (map drop_words c.drops))) (later keywords.Drop) in
    let drop_lines : List (List ℕ) = line_of (counted (codes "drops") (length c.drops)) ∷ map line_of (map drop_words c.drops) in
    let front : HaveForms head_forms head_lines = (version.0, (period.0, (many_tables.0, tables.lawful))) in
    let back : HaveForms drop_forms drop_lines = (many_drops.0, drops.lawful) in
    let all : HaveForms (head_forms ++ drop_forms) (head_lines ++ drop_lines) = AllZip-append (λ form line. fault_in form line ≡ None) head_forms drop_forms head_lines drop_lines front back in
    record {
      whole = ap pieces_of is.written ∙ pieces-text (certificate_words c) words ∙ ap (λ xs. xs ++ [] ∷ []) (certificate-lines c);
      lawful = record {
        many_tables = all_tables ∙ sym many_tables.1;
        many_drops = all_drops ∙ sym many_drops.1;
        each = AllZip-append (λ form line. fault_in form line ≡ None) (head_forms ++ drop_forms) (later keywords.End ∷ []) (head_lines ++ drop_lines) (codes "end" ∷ []) all (end-lawful, tt);
      };
      told = same_parts _ _ _ _ _ _ _ _ version.1 period.1 tables.told drops.told;
    }
