-- The parts of a text read one after another: all together the certificate, or the first fault of the whole text.
use Rattle.std.proofs.Common.{◌≡◌, ℕ, ◌+◌, List, [], ◌∷◌, ◌++◌, map, length, replicate, get_or, refl, sym, ◌∙◌, ap, ap₂, subst, arith, append_assoc}
use Rattle.std.proofs.lemmas.List.{length-append, length-replicate, get_or_at}
use Rattle.tm_unroll.specs.Mappings.{Table}
use Rattle.tm_replay.specs.Replays.{Drop}
use Rattle.cert_text.specs.declared.keyword.Keyword.TheVariants as keywords
use Rattle.cert_text.specs.declared.fault.CertFault.{CertFault}
use Rattle.cert_text.specs.declared.fault.CertFault.TheVariants.{Text, NoMemory}
use Rattle.cert_text.specs.Certificates.{Certificate, IsCertificateOf}
use Rattle.cert_text.specs.Words.{number_on, table_on, drop_on}
use Rattle.cert_text.specs.Faults.{Form, first, later, pieces_of, forms_for, tables_said, drops_said, forms_due, IsFaultOf}
use Rattle.cert_text.specs.Steps.{head_forms, Takes, StopsAt, Stops, TakesHead, TakesNumber, TakesEach, TakesEnd}
use Rattle.cert_text.proofs.Lists.{AllZip-length}
use Rattle.cert_text.proofs.StepLemmas.{Takes-append, stops_after}
use Rattle.cert_text.proofs.TextLemmas.{Lay, IsLawful, certificate-of_lines}

-- a stop where all forms are due is the first fault of the text
fault_from : (text : List ℕ) (fault : CertFault) → StopsAt (forms_due (pieces_of text)) (pieces_of text) 1 fault → IsFaultOf text fault
fault_from text (Text line kind) stop = record { place = stop.0; numbered = stop.1; first = stop.2 }
fault_from text NoMemory stop = tt

-- the same, where the forms are known
fault_with : (text : List ℕ) (forms : List Form) (fault : CertFault) → forms ≡ forms_due (pieces_of text) → StopsAt forms (pieces_of text) 1 fault → IsFaultOf text fault
fault_with text forms fault e stop = fault_from text fault (subst (λ (fs : List Form). StopsAt fs (pieces_of text) 1 fault) e stop)

-- ---- the parts

-- The first lines and those of the tables are taken, of a text.
pub record HasTables (text : List ℕ) (version period many : ℕ) (tables : List Table) (rest : List (List ℕ)) : Type 0 where
  pub middle : List (List ℕ)
  pub head : TakesHead (pieces_of text) version period many middle
  pub each : TakesEach keywords.Table table_on many middle tables rest

-- And the line behind them, which tells the number of drops.
pub record HasNumber (text : List ℕ) (version period many : ℕ) (tables : List Table) (number : ℕ) (rest : List (List ℕ)) : Type 0 where
  pub middle : List (List ℕ)
  pub before : HasTables text version period many tables middle
  pub line : TakesNumber (later keywords.Drops) middle number rest

-- And the lines of the drops.
pub record HasAll (text : List ℕ) (version period many : ℕ) (tables : List Table) (number : ℕ) (drops : List Drop) (rest : List (List ℕ)) : Type 0 where
  pub middle : List (List ℕ)
  pub before : HasNumber text version period many tables number middle
  pub each : TakesEach keywords.Drop drop_on number middle drops rest

-- the lines up to the tables, taken together
tables_taken : (text : List ℕ) (version period many : ℕ) (tables : List Table) (rest : List (List ℕ)) (is : HasTables text version period many tables rest)
    → Takes (first ∷ later keywords.Period ∷ later keywords.Tables ∷ replicate many (later keywords.Table)) (pieces_of text)
    (is.head.first_line ∷ is.head.period_line ∷ is.head.tables_line ∷ is.each.lines) rest
tables_taken text version period many tables rest is =
    Takes-append head_forms (replicate many (later keywords.Table)) (pieces_of text) (is.head.first_line ∷ is.head.period_line ∷ is.head.tables_line ∷ []) is.middle is.each.lines rest is.head.taken is.each.taken

many_tables : (text : List ℕ) (version period many : ℕ) (tables : List Table) (rest : List (List ℕ)) (is : HasTables text version period many tables rest) → length is.each.lines ≡ many
many_tables text version period many tables rest is =
    sym (AllZip-length _ (replicate many (later keywords.Table)) is.each.lines is.each.taken.each) ∙ length-replicate many (later keywords.Table)

said_after_head : (text : List ℕ) (version period many : ℕ) (rest : List (List ℕ)) → TakesHead (pieces_of text) version period many rest → tables_said (pieces_of text) ≡ many
said_after_head text version period many rest is = ap (λ ps. number_on (get_or ps 2 [])) is.taken.whole ∙ sym is.tables_told

said_after_number : (text : List ℕ) (version period many : ℕ) (tables : List Table) (number : ℕ) (rest : List (List ℕ)) → HasNumber text version period many tables number rest
    → drops_said (pieces_of text) ≡ number
said_after_number text version period many tables number rest is =
    let front = tables_taken text version period many tables is.middle is.before in
    let heads : List (List ℕ) = is.before.head.first_line ∷ is.before.head.period_line ∷ is.before.head.tables_line ∷ is.before.each.lines in
    let whole : pieces_of text ≡ heads ++ (is.line.line ∷ rest) = front.whole ∙ ap (λ xs. heads ++ xs) is.line.taken.whole in
    let said = said_after_head text version period many is.before.middle is.before.head in
    let place : length heads ≡ 3 + tables_said (pieces_of text) = omega (arith, said, many_tables text version period many tables is.middle is.before) in
    ap (λ ps. number_on (get_or ps (3 + tables_said (pieces_of text)) [])) whole ∙ ap number_on (get_or_at heads is.line.line rest [] (3 + tables_said (pieces_of text)) place) ∙ sym is.line.told

-- ---- faults

pub head_fault : (text : List ℕ) (fault : CertFault) → Stops head_forms (pieces_of text) 1 fault → IsFaultOf text fault
head_fault text fault stop = fault_from text fault (stop _)

pub tables_fault : (text : List ℕ) (version period many : ℕ) (rest : List (List ℕ)) (start : ℕ) (fault : CertFault) → TakesHead (pieces_of text) version period many rest
    → start ≡ 4 → Stops (replicate many (later keywords.Table)) rest start fault → IsFaultOf text fault
tables_fault text version period many rest start fault is e stop =
    let said = said_after_head text version period many rest is in
    let drop_forms : List Form = later keywords.Drops ∷ replicate (drops_said (pieces_of text)) (later keywords.Drop) in
    let others : List Form = drop_forms ++ later keywords.End ∷ [] in
    let whole = stops_after head_forms (replicate many (later keywords.Table) ++ others) (pieces_of text) (is.first_line ∷ is.period_line ∷ is.tables_line ∷ []) rest 1 start fault is.taken (omega (arith, e)) (stop others) in
    fault_with text _ fault
    (sym (append_assoc (first ∷ later keywords.Period ∷ later keywords.Tables ∷ replicate many (later keywords.Table)) drop_forms (later keywords.End ∷ []))
    ∙ ap (λ n. forms_for n (drops_said (pieces_of text))) (sym said)) whole

pub number_fault : (text : List ℕ) (version period many : ℕ) (tables : List Table) (rest : List (List ℕ)) (start : ℕ) (fault : CertFault) → HasTables text version period many tables rest
    → start ≡ 4 + many → Stops (later keywords.Drops ∷ []) rest start fault → IsFaultOf text fault
number_fault text version period many tables rest start fault is e stop =
    let said = said_after_head text version period many is.middle is.head in
    let fronts : List Form = first ∷ later keywords.Period ∷ later keywords.Tables ∷ replicate many (later keywords.Table) in
    let others : List Form = replicate (drops_said (pieces_of text)) (later keywords.Drop) ++ later keywords.End ∷ [] in
    let next : start ≡ 1 + length fronts = omega (arith, e, length-replicate many (later keywords.Table)) in
    let whole = stops_after fronts (later keywords.Drops ∷ others) (pieces_of text) _ rest 1 start fault (tables_taken text version period many tables rest is) next (stop others) in
    fault_with text _ fault
    (sym (append_assoc fronts (later keywords.Drops ∷ replicate (drops_said (pieces_of text)) (later keywords.Drop)) (later keywords.End ∷ []))
    ∙ ap (λ n. forms_for n (drops_said (pieces_of text))) (sym said)) whole

-- the lines up to the number of drops, taken together
number_taken_too : (text : List ℕ) (version period many : ℕ) (tables : List Table) (number : ℕ) (rest : List (List ℕ)) (is : HasNumber text version period many tables number rest)
    → Takes ((first ∷ later keywords.Period ∷ later keywords.Tables ∷ replicate many (later keywords.Table)) ++ later keywords.Drops ∷ []) (pieces_of text)
    ((is.before.head.first_line ∷ is.before.head.period_line ∷ is.before.head.tables_line ∷ is.before.each.lines) ++ is.line.line ∷ []) rest
number_taken_too text version period many tables number rest is =
    Takes-append _ (later keywords.Drops ∷ []) (pieces_of text) _ is.middle (is.line.line ∷ []) rest (tables_taken text version period many tables is.middle is.before) is.line.taken

pub drops_fault : (text : List ℕ) (version period many : ℕ) (tables : List Table) (number : ℕ) (rest : List (List ℕ)) (start : ℕ) (fault : CertFault)
    → HasNumber text version period many tables number rest → start ≡ 5 + many → Stops (replicate number (later keywords.Drop)) rest start fault → IsFaultOf text fault
drops_fault text version period many tables number rest start fault is e stop =
    let said = said_after_head text version period many is.before.middle is.before.head in
    let also = said_after_number text version period many tables number rest is in
    let fronts : List Form = first ∷ later keywords.Period ∷ later keywords.Tables ∷ replicate many (later keywords.Table) in
    let drops : List Form = replicate number (later keywords.Drop) in
    let next : start ≡ 1 + length (fronts ++ later keywords.Drops ∷ []) =
    omega (arith, e, length-replicate many (later keywords.Table), length-append fronts (later keywords.Drops ∷ [])) in
    let whole = stops_after (fronts ++ later keywords.Drops ∷ []) (drops ++ later keywords.End ∷ []) (pieces_of text) _ rest 1 start fault
    (number_taken_too text version period many tables number rest is) next (stop (later keywords.End ∷ [])) in
    fault_with text _ fault
    (append_assoc fronts (later keywords.Drops ∷ []) (drops ++ later keywords.End ∷ []) ∙ sym (append_assoc fronts (later keywords.Drops ∷ drops) (later keywords.End ∷ []))
    ∙ ap₂ forms_for (sym said) (sym also)) whole

-- the lines up to the drops, taken together
drops_taken : (text : List ℕ) (version period many : ℕ) (tables : List Table) (number : ℕ) (drops : List Drop) (rest : List (List ℕ)) (is : HasAll text version period many tables number drops rest)
    → Takes ((first ∷ later keywords.Period ∷ later keywords.Tables ∷ replicate many (later keywords.Table)) ++ (later keywords.Drops ∷ replicate number (later keywords.Drop))) (pieces_of text)
    ((is.before.before.head.first_line ∷ is.before.before.head.period_line ∷ is.before.before.head.tables_line ∷ is.before.before.each.lines) ++ (is.before.line.line ∷ is.each.lines)) rest
drops_taken text version period many tables number drops rest is =
    Takes-append _ (later keywords.Drops ∷ replicate number (later keywords.Drop)) (pieces_of text) _ is.before.middle (is.before.line.line ∷ is.each.lines) rest
    (tables_taken text version period many tables is.before.middle is.before.before)
    (Takes-append (later keywords.Drops ∷ []) (replicate number (later keywords.Drop)) is.before.middle (is.before.line.line ∷ []) is.middle is.each.lines rest is.before.line.taken is.each.taken)

pub end_fault : (text : List ℕ) (version period many : ℕ) (tables : List Table) (number : ℕ) (drops : List Drop) (rest : List (List ℕ)) (start : ℕ) (fault : CertFault)
    → HasAll text version period many tables number drops rest → start ≡ 5 + many + number → StopsAt (later keywords.End ∷ []) rest start fault → IsFaultOf text fault
end_fault text version period many tables number drops rest start fault is e stop =
    let said = said_after_head text version period many is.before.before.middle is.before.before.head in
    let also = said_after_number text version period many tables number is.middle is.before in
    let fronts : List Form = first ∷ later keywords.Period ∷ later keywords.Tables ∷ replicate many (later keywords.Table) in
    let tails : List Form = later keywords.Drops ∷ replicate number (later keywords.Drop) in
    let next : start ≡ 1 + length (fronts ++ tails) =
    omega (arith, e, length-replicate many (later keywords.Table), length-replicate number (later keywords.Drop), length-append fronts tails) in
    let whole = stops_after (fronts ++ tails) (later keywords.End ∷ []) (pieces_of text) _ rest 1 start fault (drops_taken text version period many tables number drops rest is) next stop in
    fault_with text _ fault (ap₂ forms_for (sym said) (sym also)) whole

-- ---- the certificate

made : (v w p q : ℕ) (ts us : List Table) (ds es : List Drop) → v ≡ w → p ≡ q → ts ≡ us → ds ≡ es
    → (let c : Certificate = record { version = v; period = p; tables = ts; drops = ds } in let o : Certificate = record { version = w; period = q; tables = us; drops = es } in c ≡ o)
made v w p q ts us ds es e0 e1 e2 e3 = rw (e0, e1, e2, e3) refl

pub certificate_read : (text : List ℕ) (version period many : ℕ) (tables : List Table) (number : ℕ) (drops : List Drop) (rest : List (List ℕ))
    → HasAll text version period many tables number drops rest → TakesEnd rest → IsCertificateOf text (record { version = version; period = period; tables = tables; drops = drops })
certificate_read text version period many tables number drops rest is ends =
    let head = is.before.before.head in
    let lay : Lay = record {
      first_line = head.first_line;
      period_line = head.period_line;
      tables_line = head.tables_line;
      table_lines = is.before.before.each.lines;
      drops_line = is.before.line.line;
      drop_lines = is.each.lines;
      end_line = ends.line;
    } in
    let all = Takes-append _ (later keywords.End ∷ []) (pieces_of text) _ rest (ends.line ∷ []) ([] ∷ []) (drops_taken text version period many tables number drops rest is) ends.taken in
    let many_lines : length is.before.before.each.lines ≡ many = many_tables text version period many tables is.before.middle is.before.before in
    let number_lines : length is.each.lines ≡ number =
    sym (AllZip-length _ (replicate number (later keywords.Drop)) is.each.lines is.each.taken.each) ∙ length-replicate number (later keywords.Drop) in
    let lawful : IsLawful lay = record {
      many_tables = many_lines ∙ head.tables_told;
      many_drops = number_lines ∙ is.before.line.told;
      each = rw (many_lines, number_lines) all.each;
    } in
    subst (IsCertificateOf text) (sym (made version (number_on head.first_line) period (number_on head.period_line) tables (map table_on is.before.before.each.lines) drops (map drop_on is.each.lines)
    head.version_told head.period_told is.before.before.each.told is.each.told))
    (certificate-of_lines text lay all.whole lawful)
