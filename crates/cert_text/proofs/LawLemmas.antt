-- A text has one answer: its lines all have the forms that are due, or one place has the first fault.
use Rattle.std.proofs.Common.{◌≡◌, ℕ, zero, suc, ◌+◌, ◌<◌, ◌⊎◌, false, eqb, ltb, List, [], ◌∷◌, ◌++◌, length, replicate, get_or, Option, None, Some, Result, Ok, Err, IfOk, IfErr, MatchResult, refl, sym, ◌∙◌, ap, ap₂, subst, inl, inr, arith}
use Rattle.std.specs.List.{AllZip}
use Rattle.std.proofs.lemmas.Bool.{cases_order, lt-ltb}
use Rattle.std.proofs.lemmas.Bool.Decides.{nat_tests}
use Rattle.std.proofs.lemmas.List.{length-append, length-replicate, get_or_at}
use Rattle.cert_text.specs.declared.keyword.Keyword.TheVariants as keywords
use Rattle.cert_text.specs.declared.fault.CertFault.{CertFault}
use Rattle.cert_text.specs.declared.fault.CertFault.TheVariants.{Text, NoMemory}
use Rattle.cert_text.specs.declared.fault.CertKind.{CertKind}
use Rattle.cert_text.specs.declared.fault.CertKind.TheVariants.{Ending}
use Rattle.cert_text.specs.declared.cert.Cert.{Cert}
use Rattle.cert_text.specs.Certificates.{Certificate, certificate_of, HasSpelling, IsCertificateOf, certificate_text}
use Rattle.cert_text.specs.Words.{number_on}
use Rattle.cert_text.specs.Faults.{Form, first, later, fault_in, fault_of, fault_at, pieces_of, forms_for, tables_said, drops_said, forms_due, IsFirstAt, IsFirstFault, IsAnswer, IsFaultOf}
use Rattle.cert_text.specs.Steps.{HaveForms}
use Rattle.cert_text.proofs.Lists.{length-pieces, AllZip-length}
use Rattle.cert_text.proofs.StepLemmas.{fault-first, fault-next, fault-unended, first_here, first_next}
use Rattle.cert_text.proofs.TextLemmas.{Lay, regrouped, lines_of, lay_of, certificate_on, IsLawful, forms-due, certificate_in, certificate-in, lay-of_text, certificate-of_lines}

-- ---- no fault

past : (n : ℕ) → ltb (suc n + 1) 1 ≡ false
past n = grind (arith, nat_tests)

-- where every line has its form, and nothing follows, no place has a fault
pub sound-everywhere : (forms : List Form) (lines : List (List ℕ)) → HaveForms forms lines → (place : ℕ) → fault_at forms (lines ++ [] ∷ []) place ≡ None
unfolding fault_at
sound-everywhere [] [] each zero = refl
sound-everywhere [] [] each (suc place) = ap (λ b. fault_of None b []) (past place)
sound-everywhere [] (line ∷ lines) each place = absurd each
sound-everywhere (form ∷ forms) [] each place = absurd each
sound-everywhere (form ∷ forms) (line ∷ lines) each zero =
    fault-first form forms line (lines ++ [] ∷ []) (omega (arith, length-append lines ([] ∷ []))) ∙ each.0
sound-everywhere (form ∷ forms) (line ∷ lines) each (suc place) =
    fault-next form forms line (lines ++ [] ∷ []) place ∙ sound-everywhere forms lines each.1 place

some_none : {X : Type 0} (x : X) → Some x ≡ None → ⊥
some_none x e = cc

pub not_both : (text : List ℕ) (c : Certificate) (line : ℕ) (kind : CertKind) → IsCertificateOf text c → IsFirstFault text line kind → ⊥
not_both text c line kind is fault =
    let laid = lay-of_text text c is in
    let none : fault_at (forms_due (pieces_of text)) (pieces_of text) fault.place ≡ None =
    ap (λ ps. fault_at (forms_due (pieces_of text)) ps fault.place) laid.whole
    ∙ sound-everywhere (forms_due (pieces_of text)) (lines_of (lay_of c)) (forms-due (pieces_of text) (lay_of c) laid.whole laid.lawful) fault.place in
    some_none kind (sym fault.first.here ∙ none)

-- ---- one certificate

told_by_text : (text : List ℕ) (c : Certificate) → IsCertificateOf text c → certificate_in (pieces_of text) ≡ c
told_by_text text c is =
    let laid = lay-of_text text c is in
    ap certificate_in laid.whole ∙ certificate-in (lay_of c) laid.lawful ∙ laid.told

pub one_certificate : (text : List ℕ) (c other : Certificate) → IsCertificateOf text c → IsCertificateOf text other → c ≡ other
one_certificate text c other is also = sym (told_by_text text c is) ∙ told_by_text text other also

pub one_spelling : (c other : Certificate) → HasSpelling c → HasSpelling other → certificate_text c ≡ certificate_text other → c ≡ other
one_spelling c other spelled also e =
    one_certificate (certificate_text c) c other (record { spelled = spelled; written = refl }) (record { spelled = also; written = e })

-- ---- one fault

one_place : (forms : List Form) (pieces : List (List ℕ)) (place other : ℕ) (kind also : CertKind) → IsFirstAt forms pieces place kind → IsFirstAt forms pieces other also
    → (place ≡ other) × (kind ≡ also)
one_place forms pieces place other kind also stop second =
    elim (cases_order place other) [
      | inl same ↦
          let here : Some kind ≡ Some also = sym stop.here ∙ ap (fault_at forms pieces) same ∙ second.here in
          (same, cc)
      | inr apart ↦
          elim apart [
            | inl before ↦ absurd (some_none kind (sym stop.here ∙ second.before place before))
            | inr behind ↦ absurd (some_none also (sym second.here ∙ stop.before other behind))
          ]
    ]

one_fault : (text : List ℕ) (line number : ℕ) (kind also : CertKind) → IsFirstFault text line kind → IsFirstFault text number also → (line ≡ number) × (kind ≡ also)
one_fault text line number kind also stop second =
    let same = one_place (forms_due (pieces_of text)) (pieces_of text) stop.place second.place kind also stop.first second.first in
    (stop.numbered ∙ ap (λ n. 1 + n) same.0 ∙ sym second.numbered, same.1)

pub one_answer : (text : List ℕ) (answer other : Result Certificate CertFault) → IsAnswer text answer → IsAnswer text other → answer ≡ other
one_answer text (Ok c) (Ok d) is also = ap Ok (one_certificate text c d is also)
one_answer text (Ok c) (Err (Text line kind)) is also = absurd (not_both text c line kind is also)
one_answer text (Ok c) (Err NoMemory) is also = absurd also
one_answer text (Err (Text line kind)) (Ok c) is also = absurd (not_both text c line kind also is)
one_answer text (Err (Text line kind)) (Err (Text number why)) is also =
    let same = one_fault text line number kind why is also in
    ap₂ (λ (n : ℕ) (k : CertKind). Err (Text n k)) same.0 same.1
one_answer text (Err (Text line kind)) (Err NoMemory) is also = absurd also
one_answer text (Err NoMemory) other is also = absurd is

-- ---- some answer

-- Either pieces are lines that have the forms, or they have a first fault.
abbrev Decided : List Form → List (List ℕ) → Type 0
Decided forms pieces =
    ((lines : List (List ℕ)) × (pieces ≡ lines ++ [] ∷ []) × HaveForms forms lines) ⊎ ((place : ℕ) × (kind : CertKind) × IsFirstAt forms pieces place kind)

unasked : (piece next : List ℕ) (more : List (List ℕ)) → fault_at [] (piece ∷ next ∷ more) 0 ≡ Some Ending
unfolding fault_at
unasked piece next more = ap (λ b. fault_of None b piece) (lt-ltb (0 + 1) (suc (suc (length more))) (omega arith))

unended : (b : ℕ) (bs : List ℕ) → fault_at [] ((b ∷ bs) ∷ []) 0 ≡ Some Ending
unfolding fault_at
unended b bs = refl

-- one line more, by its own fault
decided_line : (form : Form) (forms : List Form) (piece next : List ℕ) (more : List (List ℕ)) → Decided forms (next ∷ more) → (found : Option CertKind) → fault_in form piece ≡ found
    → Decided (form ∷ forms) (piece ∷ next ∷ more)
decided_line form forms piece next more rest (Some kind) e =
    inr (0, kind, first_here (form ∷ forms) (piece ∷ next ∷ more) kind (fault-first form forms piece (next ∷ more) (omega arith) ∙ e))
decided_line form forms piece next more (inl sound) None e = inl (piece ∷ sound.0, ap (λ ps. piece ∷ ps) sound.1, (e, sound.2))
decided_line form forms piece next more (inr stop) None e = inr (suc stop.0, stop.1, first_next form forms piece (next ∷ more) stop.0 stop.1 (omega arith) e stop.2)

decided : (forms : List Form) (pieces : List (List ℕ)) → 0 < length pieces → Decided forms pieces
decided forms [] some = absurd (omega arith)
decided [] ([] ∷ []) some = inl ([], refl, tt)
decided [] ((b ∷ bs) ∷ []) some = inr (0, Ending, first_here [] ((b ∷ bs) ∷ []) Ending (unended b bs))
decided [] (piece ∷ next ∷ more) some = inr (0, Ending, first_here [] (piece ∷ next ∷ more) Ending (unasked piece next more))
decided (form ∷ forms) (piece ∷ []) some = inr (0, Ending, first_here (form ∷ forms) (piece ∷ []) Ending (fault-unended form forms (piece ∷ []) refl))
decided (form ∷ forms) (piece ∷ next ∷ more) some = decided_line form forms piece next more (decided forms (next ∷ more) (omega arith)) (fault_in form piece) refl

AllZip-split : {A B : Type 0} (R : A → B → Type 0) (xs zs : List A) (ws : List B) → AllZip R (xs ++ zs) ws
    → (us : List B) × (vs : List B) × (ws ≡ us ++ vs) × AllZip R xs us × AllZip R zs vs
AllZip-split R [] zs ws all = ([], ws, refl, tt, all)
AllZip-split R (x ∷ xs) zs [] all = absurd all
AllZip-split R (x ∷ xs) zs (w ∷ ws) all =
    let rest = AllZip-split R xs zs ws all.1 in
    (w ∷ rest.0, rest.1, ap (λ ys. w ∷ ys) rest.2, (all.0, rest.3), rest.4)

-- The first three lines and those of the tables, apart.
record HasHeads (many : ℕ) (lines : List (List ℕ)) : Type 0 where
  first_line : List ℕ
  period_line : List ℕ
  tables_line : List ℕ
  table_lines : List (List ℕ)
  whole : lines ≡ first_line ∷ period_line ∷ tables_line ∷ table_lines
  counted : length table_lines ≡ many

many_lines : (many : ℕ) (form : Form) (lines : List (List ℕ)) → HaveForms (replicate many form) lines → length lines ≡ many
many_lines many form lines each = sym (AllZip-length _ (replicate many form) lines each) ∙ length-replicate many form

heads_of : (many : ℕ) (lines : List (List ℕ)) → HaveForms (first ∷ later keywords.Period ∷ later keywords.Tables ∷ replicate many (later keywords.Table)) lines → HasHeads many lines
heads_of many [] each = absurd each
heads_of many (a ∷ []) each = absurd each.1
heads_of many (a ∷ b ∷ []) each = absurd each.1.1
heads_of many (a ∷ b ∷ x ∷ lines) each = record {
  first_line = a;
  period_line = b;
  tables_line = x;
  table_lines = lines;
  whole = refl;
  counted = many_lines many (later keywords.Table) lines each.1.1.1;
}

-- The line of the number of drops and those of the drops, apart.
record HasDrops (many : ℕ) (lines : List (List ℕ)) : Type 0 where
  drops_line : List ℕ
  drop_lines : List (List ℕ)
  whole : lines ≡ drops_line ∷ drop_lines
  counted : length drop_lines ≡ many

drops_of : (many : ℕ) (lines : List (List ℕ)) → HaveForms (later keywords.Drops ∷ replicate many (later keywords.Drop)) lines → HasDrops many lines
drops_of many [] each = absurd each
drops_of many (a ∷ lines) each = record { drops_line = a; drop_lines = lines; whole = refl; counted = many_lines many (later keywords.Drop) lines each.1 }

one_line : (form : Form) (lines : List (List ℕ)) → HaveForms (form ∷ []) lines → (line : List ℕ) × (lines ≡ line ∷ [])
one_line form [] each = absurd each
one_line form (line ∷ []) each = (line, refl)
one_line form (line ∷ next ∷ lines) each = absurd each.1

-- lines that have the forms that are due, part by part
laid : (pieces lines : List (List ℕ)) → pieces ≡ lines ++ [] ∷ [] → HaveForms (forms_due pieces) lines
    → (lay : Lay) × (pieces ≡ lines_of lay ++ [] ∷ []) × IsLawful lay
laid pieces lines e each =
    let tables : ℕ = tables_said pieces in
    let drops : ℕ = drops_said pieces in
    let head_forms : List Form = first ∷ later keywords.Period ∷ later keywords.Tables ∷ replicate tables (later keywords.Table) in
    let drop_forms : List Form = later keywords.Drops ∷ replicate drops (later keywords.Drop) in
    let parts = AllZip-split (λ form line. fault_in form line ≡ None) (head_forms ++ drop_forms) (later keywords.End ∷ []) lines each in
    let halves = AllZip-split (λ form line. fault_in form line ≡ None) head_forms drop_forms parts.0 parts.3 in
    let heads = heads_of tables halves.0 halves.3 in
    let tails = drops_of drops halves.1 halves.4 in
    let last = one_line (later keywords.End) parts.1 parts.4 in
    let lay : Lay = record {
      first_line = heads.first_line;
      period_line = heads.period_line;
      tables_line = heads.tables_line;
      table_lines = heads.table_lines;
      drops_line = tails.drops_line;
      drop_lines = tails.drop_lines;
      end_line = last.0;
    } in
    let same : lines ≡ lines_of lay = parts.2 ∙ ap₂ (λ (xs ys : List (List ℕ)). xs ++ ys) (halves.2 ∙ ap₂ (λ (xs ys : List (List ℕ)). xs ++ ys) heads.whole tails.whole) last.1 in
    let whole : pieces ≡ lines_of lay ++ [] ∷ [] = e ∙ ap (λ xs. xs ++ [] ∷ []) same in
    (lay, whole, lawful lay whole heads.counted tails.counted (subst (λ (xs : List (List ℕ)). HaveForms (forms_due pieces) xs) same each))
  where
    lawful : (lay : Lay) → pieces ≡ lines_of lay ++ [] ∷ [] → length lay.table_lines ≡ tables_said pieces → length lay.drop_lines ≡ drops_said pieces
        → HaveForms (forms_due pieces) (lines_of lay) → IsLawful lay
    lawful lay whole tables drops each =
        let heads : List (List ℕ) = lay.first_line ∷ lay.period_line ∷ lay.tables_line ∷ lay.table_lines in
        let tail : List (List ℕ) = lay.drop_lines ++ (lay.end_line ∷ [] ∷ []) in
        let grouped : pieces ≡ heads ++ (lay.drops_line ∷ tail) = whole ∙ regrouped heads lay.drop_lines ([] ∷ []) lay.drops_line lay.end_line in
        let place : length heads ≡ 3 + tables_said pieces = omega (arith, tables) in
        record {
          many_tables = tables ∙ ap (λ ps. number_on (get_or ps 2 [])) whole;
          many_drops = drops ∙ ap (λ ps. number_on (get_or ps (3 + tables_said pieces) [])) grouped ∙ ap number_on (get_or_at heads lay.drops_line tail [] (3 + tables_said pieces) place);
          each = subst (λ (forms : List Form). HaveForms forms (lines_of lay)) (ap₂ forms_for (sym tables) (sym drops)) each;
        }

pub some_answer : (text : List ℕ) → (answer : Result Certificate CertFault) × IsAnswer text answer
some_answer text =
    elim (decided (forms_due (pieces_of text)) (pieces_of text) (length-pieces (λ (b : ℕ). eqb b 10) text)) [
      | inl sound ↦
          let parts = laid (pieces_of text) sound.0 sound.1 sound.2 in
          (Ok (certificate_on parts.0), certificate-of_lines text parts.0 parts.1 parts.2)
      | inr stop ↦ (Err (Text (1 + stop.0) stop.1), record { place = stop.0; numbered = refl; first = stop.2 })
    ]

-- what an answer says of a text that has a certificate
pub only_answer : (text : List ℕ) (r : Result Cert CertFault) → IfOk r (λ cert. IsCertificateOf text (certificate_of cert)) → IfErr r (IsFaultOf text)
    → (c : Certificate) → IsCertificateOf text c → MatchResult r (λ cert. certificate_of cert ≡ c) (λ fault. fault ≡ NoMemory)
only_answer text (Ok cert) found refused c is = one_certificate text (certificate_of cert) c found is
only_answer text (Err (Text line kind)) found refused c is = absurd (not_both text c line kind is refused)
only_answer text (Err NoMemory) found refused c is = refl
