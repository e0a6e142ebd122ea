use Rattle.std.proofs.Common.{refl}
use Rattle.turbomap.specs.Command.{stored, spoken}
use Rattle.turbomap.specs.Run.{command_of}
use Rattle.turbomap.specs.Words.{seen}
use Rattle.turbomap.proofs.Ends.{delivered, refused}
use Rattle.turbomap.proofs.top.run_command.Goals as goal

pub returns-in-Ok : goal.returns-in-Ok
returns-in-Ok g c =
    delivered (command_of (seen c.args.reading)) c.in-Ok.ready
    (stored g.S.Store.held g.S.Store.read_faults g.S.Store.write_faults c.args.store.now c.deliver.new.store)
    (stored g.S.Store.held g.S.Store.read_faults g.S.Store.write_faults c.prepare.new.store c.deliver.new.store)
    (spoken g.W.Say.said g.W.Say.faults c.args.say.now c.deliver.new.say) c.deliver.result
    (record { before = c.in-Ok.ensures.same; after = refl; counts = c.in-Ok.ensures.write_counts; counts_after = refl })
    c.in-Ok.ensures.ready c.deliver.ensures

pub returns-in-Err : goal.returns-in-Err
returns-in-Err g c =
    refused (command_of (seen c.args.reading))
    (stored g.S.Store.held g.S.Store.read_faults g.S.Store.write_faults c.args.store.now c.prepare.new.store)
    (spoken g.W.Say.said g.W.Say.faults c.args.say.now c.tell.new.say) c.in-Err.refusal c.status.result c.line.result.now
    c.in-Err.ensures.same c.in-Err.ensures.refused c.status.ensures c.line.ensures c.tell.ensures
