use Rattle.std.proofs.Common.{[]}
use Rattle.turbomap.specs.Asking.{large_asked}
use Rattle.turbomap.specs.Command.{stored}
use Rattle.turbomap.proofs.Causes.{ready_of, refused_of}
use Rattle.turbomap.proofs.top.prepare.Goals as goal

pub returns-in-Large-clause-ready : goal.returns-in-Large-clause-ready
returns-in-Large-clause-ready g c =
    rw c.in-Large.is (ready_of (large_asked c.in-Large.words) (g.S.Store.held c.args.store.now) [] c.make_large.result tt c.make_large.ensures.ready)

pub returns-in-Large-clause-refused : goal.returns-in-Large-clause-refused
returns-in-Large-clause-refused g c =
    rw c.in-Large.is (refused_of (large_asked c.in-Large.words)
    (stored g.S.Store.held g.S.Store.read_faults g.S.Store.write_faults c.args.store.now c.args.store.now) [] c.make_large.result tt
    c.make_large.ensures.refused)
