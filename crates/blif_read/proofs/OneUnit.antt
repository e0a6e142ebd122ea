-- A unit has exactly one circuit or exactly one first fault, and never both.
use Rattle.std.proofs.Common.{◌≡◌, ◌⊎◌, inl, inr, [], Option, None, Some, refl, sym, ◌∙◌}
use Rattle.tm_circuit.specs.Plain.{Plain}
use Rattle.blif_unit.specs.declared.fault.BlifFault.{BlifFault}
use Rattle.blif_unit.specs.declared.fault.BlifFault.TheVariants.{Text, NoMemory}
use Rattle.blif_unit.specs.declared.limits.Limits.{Limits}
use Rattle.blif_unit.specs.Fault.{Faulty, OnText}
use Rattle.blif_unit.specs.Unit.{Model}
use Rattle.blif_circuit.specs.Circuit.{fault_in_names, HasLoop, IsFaultOfModel}
use Rattle.blif_read.specs.Whole.{fault_in_statements, IsCircuitOfUnit, IsFaultOfUnit}
use Rattle.blif_read.proofs.OneCircuit.{one_circuit, model_excluded}
use Rattle.blif_read.proofs.SomeCircuit.{model_decided, option_fault}
use Rattle.blif_read.proofs.WholeLemmas.{whole_driven_once}

-- A unit with a fault has no circuit.
pub unit_excluded : (limits : Limits) (m : Model) (f : Faulty) (c : Plain) → IsFaultOfUnit limits m f → ¬ IsCircuitOfUnit limits m c
unit_excluded limits m f c h ic =
    let whole : IsFaultOfModel limits.signals m f = rw ic.lawful at h in
    model_excluded limits.signals m f c (whole_driven_once limits.name m.body ic.lawful) whole ic.circuit

pub unit_excluded_all : (e : BlifFault) (limits : Limits) (m : Model) → OnText e (IsFaultOfUnit limits m)
    → OnText e (λ _. (c : Plain) → ¬ IsCircuitOfUnit limits m c)
unit_excluded_all (Text line kind) limits m h = λ c. unit_excluded limits m (line, kind) c h
unit_excluded_all NoMemory limits m h = tt

-- A unit has at most one circuit.
pub unit_circuit : (limits : Limits) (m : Model) (c d : Plain) → IsCircuitOfUnit limits m c → IsCircuitOfUnit limits m d → c ≡ d
unit_circuit limits m c d ic id = one_circuit m c d (whole_driven_once limits.name m.body ic.lawful) ic.circuit.spelled id.circuit.spelled

-- A unit has at most one first fault.
pub unit_fault : (limits : Limits) (m : Model) (f g : Faulty) → IsFaultOfUnit limits m f → IsFaultOfUnit limits m g → f ≡ g
unit_fault limits m f g =
    option_fault (fault_in_statements limits.name [] m.body) (IsFaultOfModel limits.signals m) f g
    (option_fault (fault_in_names limits.signals m.body) (HasLoop m) f g (λ p q. p.0 ∙ sym q.0))

-- A unit has a circuit or a first fault.
pub unit_decided : (limits : Limits) (m : Model) → ((c : Plain) × IsCircuitOfUnit limits m c) ⊎ ((f : Faulty) × IsFaultOfUnit limits m f)
unit_decided limits m = by_statements (fault_in_statements limits.name [] m.body) refl
  where
    by_statements : (o : Option Faulty) → fault_in_statements limits.name [] m.body ≡ o
        → ((c : Plain) × IsCircuitOfUnit limits m c) ⊎ ((f : Faulty) × IsFaultOfUnit limits m f)
    by_statements (Some f) is = inr (f, rw is refl)
    by_statements None is = elim (model_decided limits.signals m) [
      | inl circuit ↦ inl (circuit.0, record { lawful = is; circuit = circuit.1 })
      | inr fault ↦ inr (fault.0, rw is fault.1)
    ]
