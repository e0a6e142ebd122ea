-- The three tests are those of leaves.
use Rattle.std.proofs.Common.{length, sym, ◌∙◌, arith}
use Rattle.std.proofs.lemmas.Bool.{false≢true, leb-true}
use Rattle.tm_unroll.specs.Mappings.{table_of}
use Rattle.tm_unroll.proofs.LookupLemmas.{leaves_are, leaves_none}
use Rattle.tm_unroll.proofs.leaves.has_leaves.Goals as goal
use Rattle.tm_unroll.proofs.leaves.has_leaves.Goals.{then-leaves-k, else-leaves-k}

pub returns-then-is_ascending : goal.returns-then-is_ascending
returns-then-is_ascending c =
    elim c.if-leaves-k.branch [
      | then-leaves-k w ↦ leaves_are c.args.circuit.now.drives c.args.k (table_of c.args.lut.now) c.as_slice-leaves.result.now c.are_leaves.result c.as_slice-leaves.ensures (omega (arith, w.if-leaves-k.true))
          (w.is_ascending.ensures.0 (sym w.value-is ∙ c.if-is_ascending.true)) c.are_leaves.ensures
      | else-leaves-k w ↦ let past = w.if-leaves-k.false in let low = leb-true (length c.as_slice-leaves.result.now) c.args.k (sym w.value-is ∙ c.if-is_ascending.true) in absurd (omega arith)
    ]

pub returns-else-is_ascending : goal.returns-else-is_ascending
returns-else-is_ascending c =
    leaves_none c.args.circuit.now.drives c.args.k (table_of c.args.lut.now) c.as_slice-leaves.result.now c.if-leaves-k.value c.as_slice-leaves.ensures c.if-is_ascending.false
    (λ few pairs. elim c.if-leaves-k.branch [
      | then-leaves-k w ↦ false≢true (sym c.if-is_ascending.false ∙ w.value-is ∙ w.is_ascending.ensures.1 pairs)
      | else-leaves-k w ↦ let past = w.if-leaves-k.false in omega arith
    ])
