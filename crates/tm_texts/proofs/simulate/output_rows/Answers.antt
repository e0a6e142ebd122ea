use Rattle.std.proofs.Common.{◌≡◌, ◌<◌, ◌++◌, ◌∙◌, length, take, drop, ap, sym, subst, arith}
use Rattle.tm_sim.specs.Grid.{Grid}
use Rattle.tm_texts.specs.Simulates.{IsOutput}
use Rattle.tm_texts.proofs.Simulations.{IsSimulating, before_steps, one_step, all_steps, written_back, outputs_few, row_wide}
use Rattle.tm_texts.proofs.simulate.output_rows.Goals as goal

pub loop-step-init : goal.loop-step-init
loop-step-init c =
    let wide : length c.in_ok-row.row.items ≡ length c.outputs-width.result.now = omega (arith, c.in_ok-row.ensures.len, c.in_ok-row.row.ok.0) in
    before_steps _ _ _ _ _ _ c.in_ok-machine.ensures.circuit c.in_ok-machine.ensures.stands wide c.in_ok-bits.ensures.items

pub loop-step-preserved : goal.loop-step-preserved
loop-step-preserved c =
    let old = c.loop-step.row in
    let shows = c.step.new.outputs in
    let kept : length shows ≡ length old.items = omega (arith, c.step.auto.outputs, c.deref_mut.ensures.len, old.ok.0) in
    let back : take old.len (shows ++ drop (length shows) old.items) ≡ shows = written_back old.len shows old.items (omega (arith, old.ok.0)) kept in
    let more : c.extend_from_slice.new.self.items ≡ c.loop-step.bits.items ++ shows = c.in_ok-extend_from_slice.ensures.items ∙ ap (λ row. c.loop-step.bits.items ++ row) (c.deref.ensures.value ∙ back) in
    let below : c.loop-step.step < length c.args.rows.now.rows = omega (arith, c.loop-step-test.true, c.steps-steps.ensures) in
    rw (back, more) (one_step _ _ _ _ _ _ shows _ _ c.row.result.now c.loop-step.invariant below c.row.ensures c.step.ensures.circuit c.step.ensures.outputs c.step.ensures.stands kept)

pub returns-clause-output : goal.returns-clause-output
returns-clause-output c =
    let rows = c.args.rows.now.rows in
    let all : c.loop-step.step ≡ c.steps-steps.result = omega arith in
    let whole = subst (λ n. IsSimulating c.args.circuit.now rows (length c.outputs-width.result.now) c.loop-step.machine c.loop-step.row.items c.loop-step.bits.items n) all c.loop-step.invariant in
    subst (λ (output : Grid). IsOutput c.args.circuit.now rows output.rows) (sym c.new-2.ensures) (all_steps _ _ _ _ _ _ _ whole c.steps-steps.ensures)

pub prove-unreachable-requires : goal.prove-unreachable-requires
prove-unreachable-requires c =
    let same : length c.outputs-width.result.now ≡ length c.args.circuit.now.outputs = ap length c.outputs-width.ensures in
    omega (arith, same, c.if-prove.true, outputs_few c.args.circuit.now c.signals.ensures.sound, c.signals.ensures.count)

pub step-requires-clause-inputs : goal.step-requires-clause-inputs
step-requires-clause-inputs c =
    let below : c.loop-step.step < length c.args.rows.now.rows = omega (arith, c.loop-step-test.true, c.steps-steps.ensures) in
    row_wide c.args.circuit.now c.loop-step.machine c.args.rows.now.width c.args.rows.now.rows c.loop-step.step c.row.result.now c.width.ensures.even c.requires.width c.loop-step.invariant.circuit below c.row.ensures
