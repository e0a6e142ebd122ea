use Rattle.std.proofs.Common.{refl}
use Rattle.blif_read.specs.declared.TheConstants.{MAPPED}
use Rattle.blif_write.proofs.Recovered.{text_back, text_once}
use Rattle.blif_write.proofs.write_text.Goals as goal

pub returns-clause-circuit : goal.returns-clause-circuit
returns-clause-circuit c =
    text_back MAPPED c.args.circuit.now refl refl c.signals-signals.ensures.sound c.in_ok-write_gates.ensures.even

pub returns-clause-only : goal.returns-clause-only
returns-clause-only c =
    text_once MAPPED c.args.circuit.now refl refl c.signals-signals.ensures.sound c.in_ok-write_gates.ensures.even
