-- Lines said one after the other.
use Rattle.std.proofs.Common.{◌≡◌, ◌≤◌, ◌+◌, ◌<◌, inl, inr, ℕ, List, [], ◌∷◌, ◌++◌, Option, None, Some, Result, Ok, Err, false, true, length, take, drop, get_or, suc, subst, refl, sym, ap, ◌∙◌, arith, append_assoc}
use Rattle.std.specs.Prelude.{IfSome}
use Rattle.std.specs.Result.{OnOk, OnErr, is_err}
use Rattle.std.proofs.Math.Seq.{drop-cons}
use Rattle.std.proofs.lemmas.Grind.{flat_map-append}
use Rattle.std.proofs.lemmas.List.{append-nil, take_all, take_more, take-append-drop}
use Rattle.tm_store.specs.Faults.{Rose}
use Rattle.tm_store.specs.Said.{Appends, AppendsPart}
use Rattle.turbomap.specs.Command.{Spoken, lines_text, SaysAll, SaysPart, Says}

-- a count that rose at the end rose in the whole
pub rose_later : (before middle after : ℕ) → before ≤ middle → Rose middle after → Rose before after
rose_later before middle after le (inl lt) = inl (omega arith)
rose_later before middle after le (inr top) = inr top

appends_more : (before middle after : Option (List ℕ)) (text more : List ℕ) → Appends before middle text → Appends middle after more
    → Appends before after (text ++ more)
appends_more None middle after text more first second = tt
appends_more (Some said) middle after text more first second =
    let rest : Appends (Some (said ++ text)) after more = subst (λ (told : Option (List ℕ)). Appends told after more) first second in
    rest ∙ ap Some (append_assoc said text more)

-- ---- one line

alone : (before after : Option (List ℕ)) (text : List ℕ) → Appends before after text → Appends before after (text ++ [])
alone before after text said = subst (λ (t : List ℕ). Appends before after t) (sym (append-nil text)) said

part_alone : (before after : Option (List ℕ)) (text : List ℕ) → AppendsPart before after text
    → IfSome before (λ said. ((n : ℕ) × (after ≡ Some (said ++ [] ++ take n text))))
part_alone None after text said = tt
part_alone (Some before) after text said =
    (said.0, subst (λ (s : List ℕ). after ≡ Some (s ++ take said.0 text)) (sym (append-nil before)) said.1)

pub one_said : {T E : Type 0} (p : Spoken) (line : List ℕ) (r : Result T E) → OnOk r (Appends p.before p.after (line ++ 10 ∷ []))
    → OnErr r (AppendsPart p.before p.after (line ++ 10 ∷ [])) → OnErr r (Rose p.faults_before p.faults_after) → Says p line
one_said p line (Ok x) whole part cause = inl (alone p.before p.after (line ++ 10 ∷ []) whole)
one_said p line (Err e) whole part cause = inr (record {
  counted = cause;
  whole = [];
  failed = line;
  unsaid = [];
  lines_are = refl;
  part = part_alone p.before p.after (line ++ 10 ∷ []) part;
})

-- ---- many

-- So many of the lines were said.
pub record HaveSaid (before now : Option (List ℕ)) (faults_before faults_now : ℕ) (lines : List (List ℕ)) (index : ℕ) : Type 0 where
  pub counts : faults_before ≤ faults_now
  pub said : Appends before now (lines_text (take index lines))

none_said : (before : Option (List ℕ)) → Appends before before []
none_said None = tt
none_said (Some said) = ap Some (sym (append-nil said))

pub before_lines : (before : Option (List ℕ)) (faults : ℕ) (lines : List (List ℕ)) → HaveSaid before before faults faults lines 0
before_lines before faults lines = record { counts = omega arith; said = none_said before }

text_more : (lines : List (List ℕ)) (index : ℕ) (line : List ℕ) → index < length lines → get_or lines index [] ≡ line
    → lines_text (take (index + 1) lines) ≡ lines_text (take index lines) ++ (line ++ 10 ∷ [])
text_more lines index line below is =
    ap lines_text (take_more lines index [] below ∙ ap (λ (last : List ℕ). take index lines ++ last ∷ []) is)
    ∙ flat_map-append (λ (l : List ℕ). l ++ 10 ∷ []) (take index lines) (line ∷ [])
    ∙ ap (λ (last : List ℕ). lines_text (take index lines) ++ last) (append-nil (line ++ 10 ∷ []))

pub one_line : (before now next : Option (List ℕ)) (first second third : ℕ) (lines : List (List ℕ)) (index : ℕ) (line : List ℕ)
    → HaveSaid before now first second lines index → index < length lines → get_or lines index [] ≡ line → second ≤ third
    → Appends now next (line ++ 10 ∷ []) → HaveSaid before next first third lines (index + 1)
one_line before now next first second third lines index line have below is le says = record {
  counts = omega (arith, have.counts, le);
  said = subst (λ (text : List ℕ). Appends before next text) (sym (text_more lines index line below is))
      (appends_more before now next (lines_text (take index lines)) (line ++ 10 ∷ []) have.said says);
}

pub all_lines : (p : Spoken) (lines : List (List ℕ)) (index : ℕ) → HaveSaid p.before p.after p.faults_before p.faults_after lines index
    → length lines ≤ index → SaysAll p lines
all_lines p lines index have all =
    subst (λ (some : List (List ℕ)). Appends p.before p.after (lines_text some)) (take_all index lines all) have.said

cut_at : (lines : List (List ℕ)) (index : ℕ) (line : List ℕ) → index < length lines → get_or lines index [] ≡ line
    → lines ≡ take index lines ++ line ∷ drop (suc index) lines
cut_at lines index line below is =
    sym (take-append-drop index lines)
    ∙ ap (λ (rest : List (List ℕ)). take index lines ++ rest) (drop-cons lines index [] below)
    ∙ ap (λ (at : List ℕ). take index lines ++ at ∷ drop (suc index) lines) is

part_more : (before middle after : Option (List ℕ)) (text more : List ℕ) → Appends before middle text → AppendsPart middle after more
    → IfSome before (λ said. ((n : ℕ) × (after ≡ Some (said ++ text ++ take n more))))
part_more None middle after text more first second = tt
part_more (Some said) middle after text more first second =
    subst (λ (told : Option (List ℕ)). AppendsPart told after more) first second

pub failed_line : (p : Spoken) (now : Option (List ℕ)) (second : ℕ) (lines : List (List ℕ)) (index : ℕ) (line : List ℕ)
    → HaveSaid p.before now p.faults_before second lines index → index < length lines → get_or lines index [] ≡ line → Rose second p.faults_after
    → AppendsPart now p.after (line ++ 10 ∷ []) → SaysPart p lines
failed_line p now second lines index line have below is rose says = record {
  counted = rose_later p.faults_before second p.faults_after have.counts rose;
  whole = take index lines;
  failed = line;
  unsaid = drop (suc index) lines;
  lines_are = cut_at lines index line below is;
  part = part_more p.before now p.after (lines_text (take index lines)) (line ++ 10 ∷ []) have.said says;
}

-- ---- what a call answered

pub ok_then : {T E : Type 0} (r : Result T E) (P : Type 0) → is_err r ≡ false → OnOk r P → P
ok_then (Ok x) P is fact = fact
ok_then (Err e) P is fact = cc

pub err_then : {T E : Type 0} (r : Result T E) (P : Type 0) → is_err r ≡ true → OnErr r P → P
err_then (Ok x) P is fact = cc
err_then (Err e) P is fact = fact
