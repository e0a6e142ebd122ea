-- The lines of a text without fault are lawful.
use Rattle.std.proofs.Common.{◌≡◌, ◌≢◌, ℕ, zero, suc, ◌+◌, ◌-◌, ◌<◌, ◌≤◌, Bool, true, false, not, ◌||◌, cond, Some, None, Ok, Option, List, [], ◌∷◌, ◌++◌, map, take, length, refl, arith}
use Rattle.std.specs.Prelude.{◌==◌, nat_lt}
use Rattle.std.proofs.lemmas.Bool.Decides.{nat_tests}
use Rattle.std.proofs.lemmas.List.Elements.{All-from_recursion}
use Rattle.std.specs.List.{All, AllByRecursion, filter, list_any, before_first, prefix_len, suffix_len, slice_split, onto_first, cons_option}
use Rattle.std.specs.Option.{option_map}
use Rattle.blif_lex.specs.Words.{Line, Logical, IsLawful, IsPlainWord, IsPlainByte, is_blank, is_plain, has_bad_byte, has_long_name, names_in, content_of, is_trailing, goes_on, unjoined, join_onto, logical_lines, words_in, line_of, is_kept, lines_of, physical_lines, fault_in, faults_of, unless_fault, words_of}
use Rattle.blif_lex.specs.declared.fault.LexFault.{LexFault}
use Rattle.blif_lex.specs.declared.fault.LexFault.TheVariants.{Text}
use Rattle.blif_lex.specs.declared.fault.LexKind.{LexKind}
use Rattle.blif_lex.specs.declared.fault.LexKind.TheVariants.{BadByte, LongName}
use Rattle.blif_lex.proofs.Stretches.{some_if_kept}

-- ---- lists

weaker : {X : Type 0} (P Q : X → Type 0) → ((x : X) → P x → Q x) → (xs : List X) → AllByRecursion P xs → AllByRecursion Q xs
weaker P Q f [] h = tt
weaker P Q f (x ∷ xs) h = (f x h.0, weaker P Q f xs h.1)

both : {X : Type 0} (P Q : X → Type 0) (xs : List X) → AllByRecursion P xs → AllByRecursion Q xs → AllByRecursion (λ x. P x × Q x) xs
both P Q [] h k = tt
both P Q (x ∷ xs) h k = ((h.0, k.0), both P Q xs h.1 k.1)

All-take : {X : Type 0} (P : X → Type 0) (n : ℕ) (xs : List X) → AllByRecursion P xs → AllByRecursion P (take n xs)
All-take P zero xs h = tt
All-take P (suc n) [] h = tt
All-take P (suc n) (x ∷ xs) h = (h.0, All-take P n xs h.1)

All-append : {X : Type 0} (P : X → Type 0) (xs ys : List X) → AllByRecursion P xs → AllByRecursion P ys → AllByRecursion P (xs ++ ys)
All-append P [] ys h k = k
All-append P (x ∷ xs) ys h k = (h.0, All-append P xs ys h.1 k)

All-filter : {X : Type 0} (P : X → Type 0) (test : X → Bool) (xs : List X) → AllByRecursion P xs → AllByRecursion (λ x. P x × (test x ≡ true)) (filter test xs)
All-filter P test [] h = tt
All-filter P test (x ∷ xs) h =
    let others = All-filter P test xs h.1 in
    let at : (b : Bool) → test x ≡ b → AllByRecursion (λ y. P y × (test y ≡ true)) (cond b (x ∷ filter test xs) (filter test xs)) =
    λ b. elim b as (λ v. test x ≡ v → AllByRecursion (λ y. P y × (test y ≡ true)) (cond v (x ∷ filter test xs) (filter test xs))) [
      | true ↦ λ e. ((h.0, e), others)
      | false ↦ λ e. others
    ] in
    at (test x) refl

All-map : {X Y : Type 0} (P : X → Type 0) (Q : Y → Type 0) (f : X → Y) → ((x : X) → P x → Q (f x)) → (xs : List X) → AllByRecursion P xs → AllByRecursion Q (map f xs)
All-map P Q f step [] h = tt
All-map P Q f step (x ∷ xs) h = (step x h.0, All-map P Q f step xs h.1)

or_false : (a b : Bool) → (a || b) ≡ false → (a ≡ false) × (b ≡ false)
or_false true b e = cc
or_false false b e = (refl, e)

none_from_list_any : {X : Type 0} (test : X → Bool) (xs : List X) → list_any test xs ≡ false → AllByRecursion (λ x. test x ≡ false) xs
none_from_list_any test [] e = tt
none_from_list_any test (x ∷ xs) e = let p = or_false (test x) (list_any test xs) e in (p.0, none_from_list_any test xs p.1)

-- ---- no `#` comes past the cut of a comment

abbrev NoHash : List ℕ → Type 0
NoHash bs = AllByRecursion (λ b. b ≢ 35) bs

NoHash-before_first : (bs : List ℕ) → NoHash (before_first (λ b. b == 35) bs)
NoHash-before_first [] = tt
NoHash-before_first (b ∷ bs) =
    let n : ℕ = prefix_len (λ x. not (x == 35)) bs in
    let others : NoHash (take n bs) = NoHash-before_first bs in
    let once : 1 + n ≡ suc n = omega arith in
    let at : (v : Bool) → (b == 35) ≡ v → NoHash (take (cond (not v) (1 + n) 0) (b ∷ bs)) =
    λ v. elim v as (λ w. (b == 35) ≡ w → NoHash (take (cond (not w) (1 + n) 0) (b ∷ bs))) [
      | true ↦ λ e. tt
      | false ↦ λ e. let ne : b ≢ 35 = λ q. absurd (grind (arith, nat_tests)) in
          let all : NoHash (take (suc n) (b ∷ bs)) = (ne, others) in
          rw once all
    ] in
    at (b == 35) refl

NoHash-content_of : (line : List ℕ) → NoHash (content_of line)
unfolding content_of
NoHash-content_of line = let code : List ℕ = before_first (λ b. b == 35) line in
    All-take (λ b. b ≢ 35) (length code - suffix_len is_trailing code) code (NoHash-before_first line)

NoHash-unjoined : (c : List ℕ) → NoHash c → NoHash (unjoined c)
NoHash-unjoined c h = elim (goes_on c) as (λ v. NoHash (cond v (take (length c - 1) c) c)) [
  | true ↦ All-take (λ b. b ≢ 35) (length c - 1) c h
  | false ↦ h
]

-- a numbered line without `#`
record IsClean (l : Logical) : Type 0 where
  numbered : 0 < l.number
  bytes : AllByRecursion (λ b. b ≢ 35) l.bytes

join_onto-clean : (n : ℕ) (bytes : List ℕ) (lines : List Logical) → 0 < n → NoHash bytes → AllByRecursion IsClean lines → AllByRecursion IsClean (join_onto n bytes lines)
join_onto-clean n bytes [] h b all = (record { numbered = h; bytes = b }, tt)
join_onto-clean n bytes (next ∷ others) h b all =
    let blank : 32 ≢ 35 = omega arith in
    (record { numbered = h; bytes = All-append (λ x. x ≢ 35) bytes (32 ∷ next.bytes) b (blank, all.0.bytes) }, all.1)

logical_lines-clean : (n : ℕ) (cs : List (List ℕ)) → 0 < n → AllByRecursion (λ c. AllByRecursion (λ b. b ≢ 35) c) cs → AllByRecursion IsClean (logical_lines n cs)
logical_lines-clean n [] h all = tt
logical_lines-clean n (c ∷ cs) h all =
    let others : AllByRecursion IsClean (logical_lines (n + 1) cs) = logical_lines-clean (n + 1) cs (omega arith) all.1 in
    elim (goes_on c) as (λ v. AllByRecursion IsClean (cond v (join_onto n (unjoined c) (logical_lines (n + 1) cs)) (record { number = n; bytes = c } ∷ logical_lines (n + 1) cs))) [
      | true ↦ join_onto-clean n (unjoined c) (logical_lines (n + 1) cs) h (NoHash-unjoined c all.0) others
      | false ↦ (record { numbered = h; bytes = all.0 }, others)
    ]

onto_first-clean : (b : ℕ) (parts : List (List ℕ)) → b ≢ 35 → AllByRecursion (λ c. AllByRecursion (λ x. x ≢ 35) c) parts → AllByRecursion (λ c. AllByRecursion (λ x. x ≢ 35) c) (onto_first b parts)
onto_first-clean b [] ne all = ((ne, tt), tt)
onto_first-clean b (part ∷ parts) ne all = ((ne, all.0), all.1)

slice_split-clean : (test : ℕ → Bool) (bs : List ℕ) → NoHash bs → AllByRecursion (λ c. AllByRecursion (λ x. x ≢ 35) c) (slice_split test bs)
slice_split-clean test [] h = (tt, tt)
slice_split-clean test (b ∷ bs) h =
    elim (test b) as (λ v. AllByRecursion (λ c. AllByRecursion (λ x. x ≢ 35) c) (cond v ([] ∷ slice_split test bs) (onto_first b (slice_split test bs)))) [
      | true ↦ (tt, slice_split-clean test bs h.1)
      | false ↦ onto_first-clean b (slice_split test bs) h.0 (slice_split-clean test bs h.1)
    ]

-- a word without `#`
record IsCleanWord (word : List ℕ) : Type 0 where
  some : 0 < length word
  bytes : AllByRecursion (λ b. b ≢ 35) word

words_in-clean : (bytes : List ℕ) → NoHash bytes → AllByRecursion IsCleanWord (words_in bytes)
words_in-clean bytes h =
    weaker (λ w. AllByRecursion (λ x. x ≢ 35) w × (nat_lt 0 (length w) ≡ true)) IsCleanWord
    (λ w p. record { some = (let e : nat_lt 0 (length w) ≡ true = p.1 in grind (arith, nat_tests)); bytes = p.0 })
    (words_in bytes)
    (All-filter (λ w. AllByRecursion (λ x. x ≢ 35) w) (λ w. nat_lt 0 (length w)) (slice_split is_blank bytes) (slice_split-clean is_blank bytes h))

record IsCleanLine (l : Line) : Type 0 where
  numbered : 0 < l.number
  words : AllByRecursion IsCleanWord l.words

all_contents : (lines : List (List ℕ)) → AllByRecursion (λ c. AllByRecursion (λ x. x ≢ 35) c) (map content_of lines)
all_contents [] = tt
all_contents (line ∷ lines) = (NoHash-content_of line, all_contents lines)

lines_of-clean : (text : List ℕ) → AllByRecursion (λ l. IsCleanLine l × (is_kept l.words ≡ true)) (lines_of text)
unfolding lines_of
lines_of-clean text =
    All-filter IsCleanLine (λ l. is_kept l.words) (map line_of (logical_lines 1 (map content_of (physical_lines text))))
    (All-map IsClean IsCleanLine line_of (λ l c. record { numbered = c.numbered; words = words_in-clean l.bytes c.bytes })
    (logical_lines 1 (map content_of (physical_lines text)))
    (logical_lines-clean 1 (map content_of (physical_lines text)) (omega arith) (all_contents (physical_lines text))))

-- ---- a line without fault

IsPlainByte-from_tests : (b : ℕ) → b ≢ 35 → not (is_plain b) ≡ false → IsPlainByte b
IsPlainByte-from_tests b ne e = grind (arith, nat_tests)

plain_bytes : (word : List ℕ) → AllByRecursion (λ b. b ≢ 35) word → has_bad_byte word ≡ false → AllByRecursion IsPlainByte word
plain_bytes word h e =
    weaker (λ b. (b ≢ 35) × (not (is_plain b) ≡ false)) IsPlainByte (λ b p. IsPlainByte-from_tests b p.0 p.1) word
    (both (λ b. b ≢ 35) (λ b. not (is_plain b) ≡ false) word h (none_from_list_any (λ b. not (is_plain b)) word e))

plain_words : (words : List (List ℕ)) → AllByRecursion IsCleanWord words → list_any has_bad_byte words ≡ false → All IsPlainWord words
plain_words words h e =
    All-from_recursion IsPlainWord words (weaker (λ w. IsCleanWord w × (has_bad_byte w ≡ false)) IsPlainWord
    (λ w p. record { some = p.0.some; bytes = All-from_recursion IsPlainByte w (plain_bytes w p.0.bytes p.1) })
    words (both IsCleanWord (λ w. has_bad_byte w ≡ false) words h (none_from_list_any has_bad_byte words e)))

short_names : (name : ℕ) (names : List (List ℕ)) → list_any (λ n. nat_lt name (length n)) names ≡ false → All (λ n. length n ≤ name) names
short_names name names e =
    All-from_recursion (λ n. length n ≤ name) names (weaker (λ n. nat_lt name (length n) ≡ false) (λ n. length n ≤ name)
    (λ n p. grind (arith, nat_tests)) names (none_from_list_any (λ n. nat_lt name (length n)) names e))

no_fault : (bad long : Bool) → cond bad (Some BadByte) (cond long (Some LongName) None) ≡ None → (bad ≡ false) × (long ≡ false)
no_fault true long e = cc
no_fault false true e = cc
no_fault false false e = (refl, refl)

IsLawful-line : (name : ℕ) (bindings : Bool) (l : Line) → IsCleanLine l → is_kept l.words ≡ true → fault_in name bindings l.words ≡ None → IsLawful name bindings l
unfolding fault_in
IsLawful-line name bindings l clean keeps none =
    let p = no_fault (list_any has_bad_byte l.words) (has_long_name name bindings l.words) none in
    record {
      numbered = clean.numbered;
      some = some_if_kept l.words keeps;
      plain = plain_words l.words clean.words p.0;
      short = short_names name (names_in bindings l.words) p.1;
    }

-- ---- a text without fault

no_first : (name : ℕ) (number : ℕ) (o : Option LexKind) (others : List LexFault) → cons_option (option_map (λ kind. Text number kind) o) others ≡ [] → (o ≡ None) × (others ≡ [])
no_first name number None others e = (refl, e)
no_first name number (Some kind) others e = cc

each_lawful : (name : ℕ) (bindings : Bool) (lines : List Line) → AllByRecursion (λ l. IsCleanLine l × (is_kept l.words ≡ true)) lines → faults_of name bindings lines ≡ [] → AllByRecursion (IsLawful name bindings) lines
each_lawful name bindings [] h e = tt
each_lawful name bindings (l ∷ ls) h e =
    let p = no_first name l.number (fault_in name bindings l.words) (faults_of name bindings ls) e in
    (IsLawful-line name bindings l h.0.0 h.0.1 p.0, each_lawful name bindings ls h.1 p.1)

ok_parts : (fs : List LexFault) (ls lines : List Line) → unless_fault fs ls ≡ Ok lines → (fs ≡ []) × (ls ≡ lines)
ok_parts [] ls lines e = (refl, cc)
ok_parts (f ∷ fs) ls lines e = cc

pub lawful_lines : (name : ℕ) (bindings : Bool) (text : List ℕ) (lines : List Line) → words_of name bindings text ≡ Ok lines → All (IsLawful name bindings) lines
unfolding words_of
lawful_lines name bindings text lines e =
    let p = ok_parts (faults_of name bindings (lines_of text)) (lines_of text) lines e in
    rw (← p.1) (All-from_recursion (IsLawful name bindings) (lines_of text) (each_lawful name bindings (lines_of text) (lines_of-clean text) p.0))
