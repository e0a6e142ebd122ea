-- What holds of texts of each kind holds of all.
use Rattle.std.proofs.Common.{◌≡◌, Bool, true, false, MatchBool, ap}
use Rattle.blif_read.specs.Circuit as blif
use Rattle.aiger_read.specs.Faults as aiger
use Rattle.text_read.specs.declared.fault.TextKind.TheVariants.{Blif, Aiger}
use Rattle.text_read.specs.Texts.{Faulty, OfBlif, OfAiger}

-- A fact of either kind.
pub in_each : (test : Bool) (A B C : Type 0) → (A → C) → (B → C) → MatchBool test A B → C
in_each true A B C left right is = left is
in_each false A B C left right is = right is

-- Two facts of one kind.
pub in_both : (test : Bool) (A B A' B' C : Type 0) → (A → A' → C) → (B → B' → C) → MatchBool test A B → MatchBool test A' B' → C
in_both true A B A' B' C left right is is' = left is is'
in_both false A B A' B' C left right is is' = right is is'

-- There is one fault of BLIF where there is one kind and line.
pub one_blif_fault : (P : blif.Faulty → Type 0) → ((f g : blif.Faulty) → P f → P g → f ≡ g) → (f g : Faulty)
    → OfBlif f.1 (λ kind. P (f.0, kind)) → OfBlif g.1 (λ kind. P (g.0, kind)) → f ≡ g
one_blif_fault P one (line, Blif kind) (line', Blif kind') is is' = ap (λ (f : blif.Faulty). (f.0, Blif f.1)) (one (line, kind) (line', kind') is is')
one_blif_fault P one (line, Blif kind) (line', Aiger kind') is is' = absurd is'
one_blif_fault P one (line, Aiger kind) g is is' = absurd is

-- The same for AIGER.
pub one_aiger_fault : (P : aiger.Faulty → Type 0) → ((f g : aiger.Faulty) → P f → P g → f ≡ g) → (f g : Faulty)
    → OfAiger f.1 (λ kind. P (f.0, kind)) → OfAiger g.1 (λ kind. P (g.0, kind)) → f ≡ g
one_aiger_fault P one (line, Aiger kind) (line', Aiger kind') is is' = ap (λ (f : aiger.Faulty). (f.0, Aiger f.1)) (one (line, kind) (line', kind') is is')
one_aiger_fault P one (line, Aiger kind) (line', Blif kind') is is' = absurd is'
one_aiger_fault P one (line, Blif kind) g is is' = absurd is

-- A fault of BLIF that there is not.
pub no_blif_fault : (P : blif.Faulty → Type 0) → ((f : blif.Faulty) → P f → ⊥) → (f : Faulty) → OfBlif f.1 (λ kind. P (f.0, kind)) → ⊥
no_blif_fault P none (line, Blif kind) is = none (line, kind) is
no_blif_fault P none (line, Aiger kind) is = is

pub no_aiger_fault : (P : aiger.Faulty → Type 0) → ((f : aiger.Faulty) → P f → ⊥) → (f : Faulty) → OfAiger f.1 (λ kind. P (f.0, kind)) → ⊥
no_aiger_fault P none (line, Aiger kind) is = none (line, kind) is
no_aiger_fault P none (line, Blif kind) is = is
