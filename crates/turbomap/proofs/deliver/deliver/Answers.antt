use Rattle.std.proofs.Common.{inl}
use Rattle.std.specs.Prelude.{string_bytes}
use Rattle.turbomap.specs.Command.{stored, spoken}
use Rattle.turbomap.proofs.Ends.{unwritten}
use Rattle.turbomap.proofs.deliver.deliver.Goals as goal

pub returns : goal.returns
returns g c =
    inl (unwritten c.args.ready.outputs.items
    (stored g.S.Store.held g.S.Store.read_faults g.S.Store.write_faults c.args.store.now c.write_all.new.store)
    (spoken g.W.Say.said g.W.Say.faults c.args.say.now c.tell.new.say)
    (string_bytes c.in-Err.unwritten) c.in-Err.ensures.unwritten (rw c.as_str.ensures.value at c.tell.ensures))
