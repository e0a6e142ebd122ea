-- the readers so far have taken the table in
use Rattle.std.proofs.Common.{take}
use Rattle.tm_unroll.specs.Mappings.{table_of}
use Rattle.tm_absorb.proofs.TurnLemmas.{IsTakingIn}
use Rattle.tm_absorb.proofs.under_way.UnderWay.absorb.Given as goal

abbrev pub invariant-loop-reader : goal.invariant-loop-reader
invariant-loop-reader l = IsTakingIn l.circuit.drives l.k (table_of l.table) (take l.reader-index l.reader-items) l.initial.self l.self
