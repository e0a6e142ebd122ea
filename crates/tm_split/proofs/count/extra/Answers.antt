use Rattle.std.proofs.Common.{◌≤◌, length, sym, subst}
use Rattle.tm_bits.specs.Rows.{HasWidth}
use Rattle.tm_circuit.specs.declared.parts.Driver.{Driver}
use Rattle.tm_circuit.specs.Plain.{drive_of}
use Rattle.tm_circuit.specs.Sound.{FitsPins}
use Rattle.tm_split.specs.Subject.{extra}
use Rattle.tm_split.specs.Counts.{IsCountOf}
use Rattle.tm_split.proofs.Numbers.{extra_of_gate}
use Rattle.tm_split.proofs.count.extra.Goals as goal

pub returns-else-as_slice-k : goal.returns-else-as_slice-k
returns-else-as_slice-k c =
    let fits : (length c.in-Gate.pins.items ≤ 255) × HasWidth c.in-Gate.cover (length c.in-Gate.pins.items) = subst (λ (d : Driver). FitsPins (drive_of d)) c.in-Gate.is c.requires in
    subst (λ (d : Driver). IsCountOf c.saturating_sub.result (extra c.args.k (drive_of d))) (sym c.in-Gate.is)
    (extra_of_gate c.args.k c.in-Gate.pins.items c.as_slice.result.now c.in-Gate.cover c.rows.result.now c.total_literals.result c.saturating_sub.result c.as_slice.ensures c.if-as_slice-k.false fits.1 c.rows.ensures.rows c.total_literals.ensures c.saturating_sub.ensures)
