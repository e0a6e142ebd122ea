-- A text has at most one circuit and at most one first fault, and never both.
use Rattle.std.proofs.Common.{◌≡◌, ℕ, ◌+◌, List, Option, None, Some, inl, inr, sym, ◌∙◌, ap, subst, arith, MatchOption}
use Rattle.std.proofs.lemmas.Bool.{cases_lt, cases_eq}
use Rattle.tm_circuit.specs.Plain.{Plain}
use Rattle.tm_circuit.specs.Chain.{HasCircle}
use Rattle.blif_read.specs.declared.Limits.{Limits}
use Rattle.aiger_read.specs.declared.fault.AigerKind.{AigerKind}
use Rattle.aiger_read.specs.Lines.{lines_of}
use Rattle.aiger_read.specs.Faults.{Faulty, fault_at, IsFirstFault, AreLawful}
use Rattle.aiger_read.specs.Text.{whole_fault, IsCircuitOf, IsCircuitOfLines, IsFaultOf, IsFaultOfLines, HasLoop}

pub one_circuit : (limits : Limits) (text : List ℕ) (c d : Plain) → IsCircuitOf limits text c → IsCircuitOf limits text d → c ≡ d
one_circuit limits text c d ic id = ic.spelled ∙ sym id.spelled

-- ---- one fault

first_once : (lines : List (List ℕ)) (f g : Faulty) → IsFirstFault lines f → IsFirstFault lines g → f ≡ g
first_once lines f g p q = elim (cases_eq p.place q.place) [
  | inl same ↦
      let here : Some f.1 ≡ Some g.1 = sym p.here ∙ ap (fault_at lines) same ∙ q.here in
      let kind : f.1 ≡ g.1 = cc in
      let line : f.0 ≡ g.0 = p.numbered ∙ ap (λ n. 1 + n) same ∙ sym q.numbered in
      let with_line : ℕ → Faulty = λ n. (n, f.1) in
      let with_kind : AigerKind → Faulty = λ k. (g.0, k) in
      ap with_line line ∙ ap with_kind kind
  | inr other ↦ elim (cases_lt p.place q.place) [
    | inl earlier ↦ let none : Some f.1 ≡ None = sym p.here ∙ q.before p.place earlier in cc
    | inr later ↦ let none : Some g.1 ≡ None = sym q.here ∙ p.before q.place (omega arith) in cc
  ]
]

not_lawful : (lines : List (List ℕ)) (f : Faulty) → IsFirstFault lines f → AreLawful lines → ⊥
not_lawful lines f p all = let none : Some f.1 ≡ None = sym p.here ∙ all.each p.place in cc

whole_once : (limits : Limits) (lines : List (List ℕ)) (o : Option Faulty) (f g : Faulty)
    → MatchOption o (HasLoop limits lines f) (λ first. f ≡ first) → MatchOption o (HasLoop limits lines g) (λ first. g ≡ first) → f ≡ g
whole_once limits lines None f g p q = p.0 ∙ sym q.0
whole_once limits lines (Some first) f g p q = p ∙ sym q

lines_fault : (limits : Limits) (lines : List (List ℕ)) (f g : Faulty) → IsFaultOfLines limits lines f → IsFaultOfLines limits lines g → f ≡ g
lines_fault limits lines f g (inl p) (inl q) = first_once lines f g p q
lines_fault limits lines f g (inl p) (inr q) = absurd (not_lawful lines f p q.0)
lines_fault limits lines f g (inr p) (inl q) = absurd (not_lawful lines g q p.0)
lines_fault limits lines f g (inr p) (inr q) = whole_once limits lines (whole_fault limits lines) f g p.1 q.1

pub one_fault : (limits : Limits) (text : List ℕ) (f g : Faulty) → IsFaultOf limits text f → IsFaultOf limits text g → f ≡ g
one_fault limits text f g p q = lines_fault limits (lines_of text) f g p q

-- ---- a fault leaves no circuit

excluded : (limits : Limits) (lines : List (List ℕ)) (c : Plain) (f : Faulty) → IsFaultOfLines limits lines f → IsCircuitOfLines limits lines c → ⊥
excluded limits lines c f (inl p) ic = not_lawful lines f p ic.lawful
excluded limits lines c f (inr p) ic =
    let loop : HasLoop limits lines f = rw ic.whole at p.1 in
    ic.open_ended (subst (λ (x : Plain). HasCircle x.drives) (sym ic.spelled) loop.1)

pub not_both : (limits : Limits) (text : List ℕ) (c : Plain) (f : Faulty) → IsFaultOf limits text f → ¬ IsCircuitOf limits text c
not_both limits text c f p ic = excluded limits (lines_of text) c f p ic
