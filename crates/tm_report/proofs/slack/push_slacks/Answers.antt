-- a gate's line is appended, any other signal is passed over
use Rattle.std.proofs.Common.{true, false, map, ◌++◌, get_or, ap, refl, sym, ◌∙◌, arith}
use Rattle.std.proofs.lemmas.List.{append-nil, map_push}
use Rattle.tm_circuit.specs.Plain.{drive_of}
use Rattle.tm_report.proofs.Ways.{through_fits}
use Rattle.tm_report.proofs.Slacks.{slacks_none, slacks_push, slacks_other, slacks_all}
use Rattle.tm_report.proofs.Readings.{onward_read, tested}
use Rattle.tm_report.proofs.slack.push_slacks.Goals as goal
use Rattle.tm_report.proofs.slack.push_slacks.Goals.{then-is_gate+in_ok-slack_line+in_ok-push, else-is_gate}

pub loop-s-init : goal.loop-s-init
loop-s-init c = rw (slacks_none c.args.circuit.now c.args.onward.now c.args.period) (sym (append-nil (map (λ line. line.items) c.args.lines.now.items)))

pub overflow_sub-slack : goal.overflow_sub-slack
overflow_sub-slack c =
    let s = c.loop-s.s in
    let circuit = c.args.circuit.now in
    let is_gate_s = tested circuit s (drive_of c.driver.result.now) c.is_gate.result true c.driver.ensures.drive c.is_gate.ensures c.if-is_gate.true in
    omega (arith, c.rank.ensures.rank, through_fits circuit c.args.onward.now c.requires.onward c.signals-s-end.ensures.sound s c.args.period c.requires.period is_gate_s)

pub overflow_sub-slack-then-is_gate : goal.overflow_sub-slack-then-is_gate
overflow_sub-slack-then-is_gate c =
    let s = c.loop-s.s in
    let circuit = c.args.circuit.now in
    let is_gate_s = tested circuit s (drive_of c.driver.result.now) c.is_gate.result true c.driver.ensures.drive c.is_gate.ensures c.if-is_gate.true in
    let read = onward_read c.args.onward.now s s c.index-onward-s.result (omega (arith, c.requires.onward.sized, c.signals-s-end.ensures.count)) refl c.index-onward-s.is in
    omega (
      arith,
      c.rank.ensures.rank,
      ap (λ o. o.gates) read,
      ap (λ o. o.gates) c.index-onward-s.is,
      through_fits circuit c.args.onward.now c.requires.onward c.signals-s-end.ensures.sound s c.args.period c.requires.period is_gate_s,
    )

pub loop-s-preserved : goal.loop-s-preserved
loop-s-preserved c =
    let s = c.loop-s.s in
    let circuit = c.args.circuit.now in
    let onward = c.args.onward.now in
    let before = map (λ line. line.items) c.args.lines.now.items in
    elim c.if-is_gate.branch [
      | then-is_gate+in_ok-slack_line+in_ok-push w ↦
          let is_gate_s = tested circuit s (drive_of c.driver.result.now) c.is_gate.result true c.driver.ensures.drive c.is_gate.ensures w.if-is_gate.true in
          let o = w.index-onward-s.result in
          let read = onward_read onward s s o (omega (arith, c.requires.onward.sized, c.signals-s-end.ensures.count)) refl w.index-onward-s.is in
          let more = slacks_push circuit onward c.args.period s w.rank.result (get_or onward s o).gates before (map (λ line. line.items) c.loop-s.lines.items) w.in_ok-slack_line.field-0.items
          c.loop-s.invariant is_gate_s w.rank.ensures.rank (ap (λ x. x.gates) (sym w.index-onward-s.is ∙ read)) w.in_ok-slack_line.ensures in
          ap (λ v. map (λ line. line.items) v.items) w.lines-is ∙ ap (λ xs. map (λ line. line.items) xs) w.in_ok-push.ensures.items
          ∙ map_push (λ line. line.items) c.loop-s.lines.items w.in_ok-slack_line.field-0 ∙ more
      | else-is_gate w ↦
          let other = tested circuit s (drive_of c.driver.result.now) c.is_gate.result false c.driver.ensures.drive c.is_gate.ensures w.if-is_gate.false in
          ap (λ v. map (λ line. line.items) v.items) w.lines-is ∙ c.loop-s.invariant ∙ ap (λ xs. before ++ xs) (sym (slacks_other circuit onward c.args.period s other))
    ]

pub returns : goal.returns
returns c =
    let all = slacks_all c.args.circuit.now c.args.onward.now c.args.period c.loop-s.s (omega (arith, c.loop-s-test.false, c.loop-s.auto.s-end, c.signals-s-end.ensures.count)) in
    c.loop-s.invariant ∙ ap (λ xs. map (λ line. line.items) c.args.lines.now.items ++ xs) all
