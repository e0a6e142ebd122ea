-- The table of a marked gate is one more.
use Rattle.std.proofs.Common.{◌≡◌, ◌+◌, List, [], ◌∷◌, ◌++◌, map, ap, sym, ◌∙◌, subst, Global}
use Rattle.std.specs.Prelude.{Vec}
use Rattle.std.proofs.lemmas.Bool.{both_ways}
use Rattle.std.proofs.lemmas.List.{map_push}
use Rattle.tm_unroll.specs.declared.node.Lut.{Lut}
use Rattle.tm_unroll.specs.Mappings.{Table, table_of}
use Rattle.tm_cover.specs.Chosen.{IsWanted}
use Rattle.tm_cover.proofs.BelowLemmas.{AreTablesBelow, below_other, below_more}
use Rattle.tm_cover.proofs.chosen.tables.Goals as goal
use Rattle.tm_cover.proofs.chosen.tables.Goals.{then-wanted-s+in_ok-table+in_ok-push, else-wanted-s}

pub loop-s-preserved : goal.loop-s-preserved
loop-s-preserved c =
    elim c.if-wanted-s.branch [
      | then-wanted-s+in_ok-table+in_ok-push w ↦
          let items : c.if-wanted-s.luts.items ≡ c.loop-s.luts.items ++ w.in_ok-table.field-0 ∷ [] = ap (λ (v : Vec Lut Global). v.items) w.luts-is ∙ w.in_ok-push.ensures.items in
          let more : map table_of c.if-wanted-s.luts.items ≡ map table_of c.loop-s.luts.items ++ table_of w.in_ok-table.field-0 ∷ [] =
          ap (map table_of) items ∙ map_push table_of c.loop-s.luts.items w.in_ok-table.field-0 in
          subst (λ (ts : List Table). AreTablesBelow c.args.settled.now (λ g. IsWanted c.args.circuit.now c.args.settled.now.cuts g) (c.loop-s.s + 1) ts) (sym more)
          (below_more c.args.settled.now (λ g. IsWanted c.args.circuit.now c.args.settled.now.cuts g) c.loop-s.s (map table_of c.loop-s.luts.items) (table_of w.in_ok-table.field-0)
          c.loop-s.invariant w.in_ok-table.ensures.gate w.in_ok-table.ensures.table ((c.requires.wanted.each c.loop-s.s).0 w.if-wanted-s.true))
      | else-wanted-s w ↦
          subst (λ (v : Vec Lut Global). AreTablesBelow c.args.settled.now (λ g. IsWanted c.args.circuit.now c.args.settled.now.cuts g) (c.loop-s.s + 1) (map table_of v.items)) (sym w.luts-is)
          (below_other c.args.settled.now (λ g. IsWanted c.args.circuit.now c.args.settled.now.cuts g) c.loop-s.s (map table_of c.loop-s.luts.items) c.loop-s.invariant
          (λ wanted. both_ways _ w.if-wanted-s.false ((c.requires.wanted.each c.loop-s.s).1 wanted)))
    ]
