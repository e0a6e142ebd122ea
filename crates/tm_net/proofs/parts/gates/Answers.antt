-- one gate more
use Rattle.std.proofs.Common.{List, [], ◌∷◌, ◌++◌, map, take, sym, subst}
use Rattle.std.specs.List.{AllZip}
use Rattle.std.proofs.lemmas.List.Elements.{All-contains}
use Rattle.tm_circuit.specs.declared.parts.GatePart.{GatePart}
use Rattle.tm_unroll.specs.Mappings.{Table, table_of}
use Rattle.tm_unroll.proofs.ListLemmas.{contains-at}
use Rattle.tm_net.specs.Making.{IsTableIn, IsGatePart}
use Rattle.tm_net.proofs.EndLemmas.{mapped-at, taken}
use Rattle.tm_net.proofs.MakeLemmas.{zip-push}
use Rattle.tm_net.proofs.parts.gates.Goals as goal

pub gate-requires-clause-table : goal.gate-requires-clause-table
gate-requires-clause-table c =
    All-contains (IsTableIn c.args.circuit.now c.args.plan.now.layout) (map table_of c.args.luts.now) (table_of c.lut-item.result) c.requires.tables
    (contains-at (map table_of c.args.luts.now) c.loop-lut.lut-index (table_of c.lut-item.result) (mapped-at table_of c.args.luts.now c.loop-lut.lut-index c.lut-item.result c.loop-lut-test.true c.lut-item.is))

pub loop-lut-preserved : goal.loop-lut-preserved
loop-lut-preserved c =
    let i = c.loop-lut.lut-index in
    let tables : List Table = map table_of c.args.luts.now in
    subst (λ (ts : List Table). AllZip (IsGatePart c.args.circuit.now c.args.plan.now.layout) ts c.push.new.self.items)
    (sym (taken table_of c.args.luts.now i c.lut-item.result c.loop-lut-test.true c.lut-item.is))
    (subst (λ (gs : List GatePart). AllZip (IsGatePart c.args.circuit.now c.args.plan.now.layout) (take i tables ++ table_of c.lut-item.result ∷ []) gs) (sym c.in_ok-push.ensures.items)
    (zip-push (IsGatePart c.args.circuit.now c.args.plan.now.layout) (take i tables) c.loop-lut.gates.items (table_of c.lut-item.result) c.in_ok-gate.field-0
    c.loop-lut.invariant c.in_ok-gate.ensures))
