-- The list of the gate is one longer.
use Rattle.std.proofs.Common.{◌<◌, length, subst, arith}
use Rattle.std.specs.Prelude.{Contains, slice_set}
use Rattle.tm_absorb.specs.Slots.{row_in}
use Rattle.tm_absorb.proofs.ReaderLemmas.{adds_at, adds_same, lists_of}
use Rattle.tm_absorb.proofs.readers.add.Goals as goal

pub returns-in_err-push-clause-adds : goal.returns-in_err-push-clause-adds
returns-in_err-push-clause-adds c =
    let within : c.gate.inside.0 < length c.args.readers.now = omega (arith, c.requires, c.gate.view_is) in
    adds_same c.args.readers.now c.gate.inside.0 c.index-readers-gate.result c.push.new.self within c.in_err-push.ensures.items

pub returns-clause-adds : goal.returns-clause-adds
returns-clause-adds c =
    let within : c.gate.inside.0 < length c.args.readers.now = omega (arith, c.requires, c.gate.view_is) in
    (adds_at c.args.readers.now c.gate.inside.0 c.index-readers-gate.result c.push.new.self c.args.reader within c.in_ok-push.ensures.items).0

pub returns-clause-reads : goal.returns-clause-reads
returns-clause-reads c =
    let within : c.gate.inside.0 < length c.args.readers.now = omega (arith, c.requires, c.gate.view_is) in
    subst (λ u. Contains (row_in (lists_of (slice_set c.args.readers.now c.gate.inside.0 c.push.new.self)) u) c.args.reader) c.gate.view_is
    (adds_at c.args.readers.now c.gate.inside.0 c.index-readers-gate.result c.push.new.self c.args.reader within c.in_ok-push.ensures.items).1
