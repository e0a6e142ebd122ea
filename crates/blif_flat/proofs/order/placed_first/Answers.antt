-- At the end all models were met.
use Rattle.std.proofs.Common.{◌≡◌, map, length, subst, arith, ap, ◌∙◌, sym, Vec, ℕ, Global, List, replicate}
use Rattle.std.proofs.lemmas.List.{length-map}
use Rattle.blif_flat.specs.declared.order.Mark.TheVariants.{Fresh}
use Rattle.blif_flat.proofs.DescentLemmas.{HasVisited}
use Rattle.blif_flat.proofs.DescentEnds.{found, begins}
use Rattle.blif_flat.proofs.order.placed_first.Goals as goal

abbrev items_of : Vec ℕ Global → List ℕ
items_of v = v.items

pub loop-model-init : goal.loop-model-init
loop-model-init c =
    let sized = length-map c.args.graph.now items_of in
    let marks = c.in_ok-descent.ensures.marks ∙ ap (λ n. replicate n Fresh) (sym sized) in
    record {
      rest = begins (map items_of c.args.graph.now) c.in_ok-descent.descent marks c.in_ok-descent.ensures.order c.in_ok-descent.ensures.trail;
      met = λ t below. absurd (omega arith);
    }

pub returns : goal.returns
returns c =
    let all : c.loop-model.model ≡ length (map items_of c.args.graph.now) = omega (arith, c.loop-model-test.false, c.loop-model.auto.model-end, length-map c.args.graph.now items_of) in
    found (map items_of c.args.graph.now) c.loop-model.descent (subst (λ n. HasVisited (map items_of c.args.graph.now) c.loop-model.descent n) all c.loop-model.invariant)
