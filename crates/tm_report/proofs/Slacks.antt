-- The lines of slacks, gate by gate.
use Rattle.std.proofs.Common.{◌≡◌, ℕ, ◌+◌, ◌-◌, Bool, true, false, cond, List, [], ◌∷◌, ◌++◌, map, length, refl, sym, ◌∙◌, ap, arith, append_assoc}
use Rattle.std.specs.Prelude.{filter}
use Rattle.std.specs.List.{range_with_len}
use Rattle.std.proofs.lemmas.List.{map-id, map-append, append-nil}
use Rattle.std.proofs.lemmas.List.FromFn.{filter_of_map_range_with_len_more}
use Rattle.tm_circuit.specs.Plain.{Plain, Drive, drive_in, is_gate}
use Rattle.tm_circuit.specs.Chain.{rank}
use Rattle.tm_report.specs.declared.onward.Onward.{Onward}
use Rattle.tm_report.specs.Report.{gates_of, slack_line}
use Rattle.tm_report.specs.Onward.{behind, slack_of}

-- the gates below a number
unfoldable pub gates_below : List Drive → ℕ → List ℕ
gates_below drives n = filter (λ s. is_gate (drive_in drives s)) (range_with_len 0 n)

-- the lines of the slacks of the gates below a number
unfoldable pub slacks_below : Plain → List Onward → ℕ → ℕ → List (List ℕ)
slacks_below c onward period n = map (λ g. slack_line c g (slack_of c onward period g)) (gates_below c.drives n)

gates_more : (drives : List Drive) (n : ℕ) → gates_below drives (n + 1) ≡ gates_below drives n ++ cond (is_gate (drive_in drives n)) (n ∷ []) []
unfolding gates_below
gates_more drives n =
    let p : ℕ → Bool = λ s. is_gate (drive_in drives s) in
    let more = filter_of_map_range_with_len_more p (λ x. x) 0 n n (omega arith) in
    simp map-id at more

pub slacks_none : (c : Plain) (onward : List Onward) (period : ℕ) → slacks_below c onward period 0 ≡ []
unfolding slacks_below gates_below
slacks_none c onward period = refl

slacks_gate : (c : Plain) (onward : List Onward) (period n : ℕ) → is_gate (drive_in c.drives n) ≡ true
    → slacks_below c onward period (n + 1) ≡ slacks_below c onward period n ++ slack_line c n (slack_of c onward period n) ∷ []
unfolding slacks_below
slacks_gate c onward period n is =
    rw (gates_more c.drives n) (rw is (map-append (λ g. slack_line c g (slack_of c onward period g)) (gates_below c.drives n) (n ∷ [])))

pub slacks_other : (c : Plain) (onward : List Onward) (period n : ℕ) → is_gate (drive_in c.drives n) ≡ false
    → slacks_below c onward period (n + 1) ≡ slacks_below c onward period n
unfolding slacks_below
slacks_other c onward period n is = rw (gates_more c.drives n) (rw is (rw append-nil refl))

pub slacks_all : (c : Plain) (onward : List Onward) (period n : ℕ) → n ≡ length c.drives
    → slacks_below c onward period n ≡ map (λ g. slack_line c g (slack_of c onward period g)) (gates_of c.drives)
unfolding slacks_below gates_below
slacks_all c onward period n is = rw is refl

-- one line more, of a gate whose depth and ways on were read
pub slacks_push : (c : Plain) (onward : List Onward) (period n deep long : ℕ) (before lines : List (List ℕ)) (line : List ℕ)
    → lines ≡ before ++ slacks_below c onward period n → is_gate (drive_in c.drives n) ≡ true → deep ≡ rank c n → long ≡ behind onward n
    → line ≡ slack_line c n (period - deep - long) → lines ++ line ∷ [] ≡ before ++ slacks_below c onward period (n + 1)
slacks_push c onward period n deep long before lines line so_far is deep_is long_is written =
    let read : line ≡ slack_line c n (slack_of c onward period n) = written ∙ ap (λ x. slack_line c n (period - x - long)) deep_is ∙ ap (λ x. slack_line c n (period - rank c n - x)) long_is in
    ap (λ xs. xs ++ line ∷ []) so_far ∙ append_assoc before (slacks_below c onward period n) (line ∷ [])
    ∙ ap (λ x. before ++ (slacks_below c onward period n ++ x ∷ [])) read ∙ ap (λ xs. before ++ xs) (sym (slacks_gate c onward period n is))
