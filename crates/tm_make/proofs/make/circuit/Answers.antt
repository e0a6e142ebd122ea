use Rattle.std.proofs.Common.{◌∙◌, Err, subst}
use Rattle.tm_circuit.specs.Plain.{Plain}
use Rattle.tm_circuit.specs.Build.{IsBuilt}
use Rattle.tm_make.proofs.CircuitLemmas.{built_or_no_memory}
use Rattle.tm_make.proofs.make.circuit.Goals as goal

pub unreachable-requires : goal.unreachable-requires
unreachable-requires c =
    let fault = c.in-Err.fault in
    c.in_default.not-NoMemory
    (built_or_no_memory c.args.number c.requires.some c.requires.few fault
    (subst (λ (made : Plain). IsBuilt made (Err fault)) c.in_ok-parts.ensures c.in-Err.ensures))

pub returns-in-Ok : goal.returns-in-Ok
returns-in-Ok c = c.in-Ok.ensures.0 ∙ c.in_ok-parts.ensures
