-- The names put are those of the signals, which stand once.
use Rattle.std.proofs.Common.{◌≡◌, ◌++◌, [], map, ◌∙◌, ap, sym}
use Rattle.std.specs.Prelude.{option_copied}
use Rattle.blif_unit.specs.Unit.{telling_of, inputs_told, latch_told, gate_told, over}
use Rattle.blif_circuit.specs.Circuit.{inputs_of, names_of}
use Rattle.blif_circuit.specs.Signals.{put_all, unclocked}
use Rattle.blif_circuit.proofs.SignalLoops.{put_all-append}
use Rattle.blif_circuit.proofs.SignalNames.{put_all-distinct, once, unclocked-over}
use Rattle.blif_circuit.proofs.order.signal_names.Goals as goal

pub returns : goal.returns
returns c =
    let body = map telling_of c.args.body.now in
    let l = over latch_told body in
    let g = over gate_told body in
    let inputs : over (λ told. unclocked (option_copied c.args.clock) (inputs_told told)) body ≡ inputs_of body
    = unclocked-over (option_copied c.args.clock) body ∙ ap (λ clock. unclocked clock (over inputs_told body)) c.requires.clock in
    c.in_ok-put_gates.ensures
    ∙ ap (λ x. put_all x g) (c.in_ok-put_latches.ensures ∙ ap (λ x. put_all x l) (c.in_ok-put_inputs.ensures ∙ ap (λ x. put_all x (over (λ told. unclocked (option_copied c.args.clock) (inputs_told told)) body)) c.new-names.ensures ∙ ap (put_all []) inputs))
    ∙ ap (λ x. put_all x g) (sym (put_all-append [] (inputs_of body) l))
    ∙ sym (put_all-append [] (inputs_of body ++ l) g)
    ∙ put_all-distinct [] (names_of body) (once (names_of body) c.requires.distinct)
