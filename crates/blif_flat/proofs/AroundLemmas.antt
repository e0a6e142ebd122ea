-- Names of an instance: bound or not.
use Rattle.std.proofs.Common.{◌≡◌, ℕ, Bool, true, false, List, [], ◌∷◌, ◌++◌, None, Some, refl, sym, ◌∙◌, ap, bytes_eq, if◌then◌else◌, Bor, rules, append_assoc}
use Rattle.std.specs.Prelude.{Result, Ok, Err, IfOk}
use Rattle.std.specs.Fmt.{decimal}
use Rattle.blif_unit.specs.declared.unit.Binding.{Binding}
use Rattle.std.proofs.lemmas.List.{append-nil}
use Rattle.blif_flat.specs.declared.around.Around.{Around, Top, Inside, the_lemmas}
use Rattle.blif_flat.specs.Flat.{name_within, bound_by, suffix_of}
use Rattle.blif_flat.specs.Sites.{Sited, actual_of}
use Rattle.blif_flat.specs.Around.{Context, renamed, context_inside, context_of}

-- what a name that is bound becomes
pub bound_name : (suffix : List ℕ) (rename : List ℕ → List ℕ) (bs : List Binding) (n a : List ℕ) → actual_of bs n ≡ Some a → name_within suffix (bound_by rename bs) n ≡ rename a
bound_name suffix rename [] n a h = cc
bound_name suffix rename (b ∷ bs) n a h = by_test (bytes_eq n b.formal) refl (λ e. bound_name suffix rename bs n a e)
  where
    by_test : (t : Bool) → bytes_eq n b.formal ≡ t → (actual_of bs n ≡ Some a → name_within suffix (bound_by rename bs) n ≡ rename a)
        → name_within suffix (bound_by rename (b ∷ bs)) n ≡ rename a
    by_test true test ih =
        let some : Some b.actual ≡ Some a = sym (ap (λ t. if t then Some b.actual else actual_of bs n) test) ∙ h in
        let same : b.actual ≡ a = cc in
        ap (λ t. if t then rename b.actual else name_within suffix (bound_by rename bs) n) test ∙ ap rename same
    by_test false test ih =
        let some : actual_of bs n ≡ Some a = sym (ap (λ t. if t then Some b.actual else actual_of bs n) test) ∙ h in
        ap (λ t. if t then rename b.actual else name_within suffix (bound_by rename bs) n) test ∙ ih some

-- what a name that is not bound becomes
pub own_name_is : (suffix : List ℕ) (rename : List ℕ → List ℕ) (bs : List Binding) (n : List ℕ) → actual_of bs n ≡ None → name_within suffix (bound_by rename bs) n ≡ n ++ suffix
own_name_is suffix rename [] n h = refl
own_name_is suffix rename (b ∷ bs) n h = by_test (bytes_eq n b.formal) refl (λ e. own_name_is suffix rename bs n e)
  where
    by_test : (t : Bool) → bytes_eq n b.formal ≡ t → (actual_of bs n ≡ None → name_within suffix (bound_by rename bs) n ≡ n ++ suffix)
        → name_within suffix (bound_by rename (b ∷ bs)) n ≡ n ++ suffix
    by_test true test ih = absurd (let some : Some b.actual ≡ None = sym (ap (λ t. if t then Some b.actual else actual_of bs n) test) ∙ h in cc)
    by_test false test ih =
        let none : actual_of bs n ≡ None = sym (ap (λ t. if t then Some b.actual else actual_of bs n) test) ∙ h in
        ap (λ t. if t then rename b.actual else name_within suffix (bound_by rename bs) n) test ∙ ih none

-- ---- contexts

pub context-Top : (joiner : List ℕ) → context_of joiner Top ≡ record { suffix = []; bound = [] }
context-Top joiner = search (rules, the_lemmas)

pub context-Inside : (joiner : List ℕ) (outer : Bor Around) (site : Bor Sited) (number : ℕ) → context_of joiner (Inside outer site number) ≡ context_inside joiner (context_of joiner outer.now) site.now.bindings number
context-Inside joiner outer site number = search (rules, the_lemmas)

-- the name of an instance at the top
pub top_name_is : (joiner n : List ℕ) (around : Around) → around ≡ Top → renamed (context_of joiner around) n ≡ n
top_name_is joiner n around is = ap (λ (a : Around). renamed (context_of joiner a) n) is ∙ ap (λ (c : Context). renamed c n) (context-Top joiner) ∙ append-nil n

-- the name of an instance that is bound
pub bound_name_is : (joiner n a : List ℕ) (around : Around) (outer : Bor Around) (site : Bor Sited) (number : ℕ) → around ≡ Inside outer site number → actual_of site.now.bindings n ≡ Some a
    → renamed (context_of joiner around) n ≡ renamed (context_of joiner outer.now) a
bound_name_is joiner n a around outer site number is some =
    ap (λ (x : Around). renamed (context_of joiner x) n) is ∙ ap (λ (c : Context). renamed c n) (context-Inside joiner outer site number)
    ∙ bound_name (suffix_of joiner (context_of joiner outer.now).suffix number) (renamed (context_of joiner outer.now)) site.now.bindings n a some

-- the name of an instance that is not bound
pub free_name_is : (joiner n : List ℕ) (around : Around) (outer : Bor Around) (site : Bor Sited) (number : ℕ) → around ≡ Inside outer site number → actual_of site.now.bindings n ≡ None
    → renamed (context_of joiner around) n ≡ n ++ (context_of joiner around).suffix
free_name_is joiner n around outer site number is none =
    ap (λ (x : Around). renamed (context_of joiner x) n) is ∙ ap (λ (c : Context). renamed c n) (context-Inside joiner outer site number)
    ∙ own_name_is (suffix_of joiner (context_of joiner outer.now).suffix number) (renamed (context_of joiner outer.now)) site.now.bindings n none
    ∙ ap (λ (c : Context). n ++ c.suffix) (sym (context-Inside joiner outer site number)) ∙ ap (λ (x : Around). n ++ (context_of joiner x).suffix) (sym is)

-- the suffix of an instance in another
pub suffix_is : (joiner : List ℕ) (around : Around) (outer : Bor Around) (site : Bor Sited) (number : ℕ) → around ≡ Inside outer site number
    → (context_of joiner around).suffix ≡ suffix_of joiner (context_of joiner outer.now).suffix number
suffix_is joiner around outer site number is = ap (λ (x : Around). (context_of joiner x).suffix) is ∙ ap (λ (c : Context). c.suffix) (context-Inside joiner outer site number)

pub suffix_top : (joiner : List ℕ) (around : Around) → around ≡ Top → (context_of joiner around).suffix ≡ []
suffix_top joiner around is = ap (λ (x : Around). (context_of joiner x).suffix) is ∙ ap (λ (c : Context). c.suffix) (context-Top joiner)

-- the suffix of an instance in another, as it is written
pub suffix_pushed : (joiner : List ℕ) (around : Around) (outer : Bor Around) (site : Bor Sited) (number : ℕ) (first second third last digits : List ℕ) → around ≡ Inside outer site number
    → second ≡ first ++ (context_of joiner outer.now).suffix → third ≡ second ++ joiner → last ≡ third ++ digits → digits ≡ decimal number
    → last ≡ first ++ (context_of joiner around).suffix
suffix_pushed joiner around outer site number first second third last digits is one two three written =
    three ∙ ap (λ xs. xs ++ digits) (two ∙ ap (λ xs. xs ++ joiner) one) ∙ ap (λ ds. ((first ++ (context_of joiner outer.now).suffix) ++ joiner) ++ ds) written
    ∙ ap (λ xs. xs ++ decimal number) (append_assoc first (context_of joiner outer.now).suffix joiner)
    ∙ append_assoc first ((context_of joiner outer.now).suffix ++ joiner) (decimal number)
    ∙ ap (λ xs. first ++ xs) (sym (suffix_is joiner around outer site number is))

-- what an answer without a fault says, further on
pub if_ok : {A E : Type 0} (r : Result A E) (P Q : A → Type 0) → ((x : A) → P x → Q x) → IfOk r P → IfOk r Q
if_ok (Ok x) P Q f h = f x h
if_ok (Err e) P Q f h = tt
