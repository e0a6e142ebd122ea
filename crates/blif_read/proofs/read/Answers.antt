use Rattle.std.proofs.lemmas.Result.{IfErr-weaker}
use Rattle.blif_unit.specs.Unit.{model_of}
use Rattle.blif_circuit.specs.Circuit.{IsFaultOfModel}
use Rattle.blif_unit.specs.Fault.{OnText}
use Rattle.blif_read.specs.Text.{IsFaultOf}
use Rattle.blif_models.proofs.TextLemmas.{named}
use Rattle.blif_read.proofs.OneCircuit.{excluded_all, fault_found}
use Rattle.blif_read.proofs.read.Goals as goal

pub unit_of-requires : goal.unit_of-requires
unit_of-requires c = named c.args.limits.now.name c.requires.name c.in_ok-lines.lines c.in_ok-lines.ensures.lawful

pub returns-clause-fault : goal.returns-clause-fault
returns-clause-fault c =
    IfErr-weaker c.circuit_of.result (λ e. OnText e (IsFaultOfModel c.args.limits.now.signals (model_of c.in_ok-unit.unit))) (λ e. OnText e (IsFaultOf c.args.limits.now c.args.text.now))
    (λ e. fault_found e c.args.limits.now c.args.text.now c.in_ok-lines.lines (model_of c.in_ok-unit.unit) c.in_ok-lines.ensures.words c.in_ok-unit.ensures.lawful c.in_ok-unit.ensures.unit)
    c.circuit_of.ensures.fault

pub returns-clause-none : goal.returns-clause-none
returns-clause-none c =
    IfErr-weaker c.circuit_of.result (λ e. OnText e (IsFaultOfModel c.args.limits.now.signals (model_of c.in_ok-unit.unit))) _
    (λ e h. excluded_all e c.args.limits.now c.args.text.now
    (fault_found e c.args.limits.now c.args.text.now c.in_ok-lines.lines (model_of c.in_ok-unit.unit) c.in_ok-lines.ensures.words c.in_ok-unit.ensures.lawful c.in_ok-unit.ensures.unit h))
    c.circuit_of.ensures.fault
