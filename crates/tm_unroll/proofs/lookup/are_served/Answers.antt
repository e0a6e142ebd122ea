-- Each leaf is served, or one is not.
use Rattle.std.proofs.Common.{◌<◌, length, refl, sym, ◌∙◌, subst, arith}
use Rattle.std.proofs.lemmas.Bool.{false≢true}
use Rattle.tm_circuit.specs.Plain.{drive_in}
use Rattle.tm_unroll.specs.declared.node.Node.{Node}
use Rattle.tm_unroll.specs.Mappings.{IsServedOf}
use Rattle.tm_unroll.proofs.EachLemmas.{stands-at, each-more, each-all}
use Rattle.tm_unroll.proofs.lookup.are_served.Goals as goal

pub is_served-requires : goal.is_served-requires
is_served-requires c = record {
  sized = c.requires.sized;
  signal = subst (λ (x : Node). x.signal < length c.args.circuit.now.drives) (sym c.leaf-item.is) (c.requires.signals c.loop-leaf.leaf-index c.leaf-item.result c.loop-leaf-test.true);
}

pub returns-then-not-is_served : goal.returns-then-not-is_served
returns-then-not-is_served c =
    let within : c.loop-leaf.leaf-index < length c.args.leaves.now = omega arith in
    λ tables lags. (
      λ e. absurd (false≢true e),
      λ all. absurd (false≢true (sym c.if-not-is_served.true ∙ (c.is_served.ensures tables lags).1 (all c.leaf-item.result (stands-at c.args.leaves.now c.loop-leaf.leaf-index c.leaf-item.result within c.leaf-item.is)))),
    )

pub loop-leaf-preserved : goal.loop-leaf-preserved
loop-leaf-preserved c =
    let within : c.loop-leaf.leaf-index < length c.args.leaves.now = omega arith in
    λ tables lags. each-more (λ (x : Node). IsServedOf (drive_in c.args.circuit.now.drives x.signal) c.args.circuit.now.drives tables x) c.args.leaves.now c.loop-leaf.leaf-index c.leaf-item.result
    (c.loop-leaf.invariant tables lags) within c.leaf-item.is ((c.is_served.ensures tables lags).0 c.if-not-is_served.false)

pub returns : goal.returns
returns c =
    λ tables lags. (
      λ _. each-all (λ (x : Node). IsServedOf (drive_in c.args.circuit.now.drives x.signal) c.args.circuit.now.drives tables x) c.args.leaves.now c.loop-leaf.leaf-index
          (c.loop-leaf.invariant tables lags) (omega (arith, c.loop-leaf-test.false)),
      λ _. refl,
    )
