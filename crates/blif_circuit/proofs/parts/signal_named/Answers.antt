-- A known name has a position, and stands there.
use Rattle.std.proofs.Common.{◌≡◌, ◌∙◌, ap, sym, is_some, bytes_eq, position}
use Rattle.blif_circuit.proofs.SignalLoops.{has_position, at_position}
use Rattle.blif_circuit.proofs.parts.signal_named.Goals as goal

pub unwrap-requires : goal.unwrap-requires
unwrap-requires c =
    let found : c.position.result ≡ position (bytes_eq c.args.name.now) c.args.signals.now = c.position.ensures ∙ ap (λ n. position (bytes_eq n) c.args.signals.now) c.bytes.ensures in
    ap is_some found ∙ has_position (bytes_eq c.args.name.now) c.args.signals.now c.requires.known

pub returns : goal.returns
returns c =
    let found : c.position.result ≡ position (bytes_eq c.args.name.now) c.args.signals.now = c.position.ensures ∙ ap (λ n. position (bytes_eq n) c.args.signals.now) c.bytes.ensures in
    at_position c.args.name.now c.args.signals.now c.unwrap.result (sym found ∙ c.unwrap.ensures)
