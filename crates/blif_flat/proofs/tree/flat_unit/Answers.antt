-- The statements that the top becomes are those of the flat unit.
use Rattle.std.proofs.Common.{◌≡◌, ◌∙◌, ◌++◌, true, List, [], map, ap}
use Rattle.blif_unit.specs.Unit.{Telling, telling_of, model_of}
use Rattle.blif_unit.specs.declared.unit.Stated.{Stated}
use Rattle.blif_flat.specs.Around.{Context, context_of}
use Rattle.blif_flat.specs.declared.around.Around.{Top}
use Rattle.blif_flat.specs.Plan.{flat_at}
use Rattle.blif_flat.proofs.AroundLemmas.{context-Top, if_ok}
use Rattle.blif_flat.proofs.FlatLemmas.{flat_is}
use Rattle.blif_flat.proofs.tree.flat_unit.Goals as goal

pub returns : goal.returns
returns c =
    let body : map telling_of c.add_instance.new.out.items ≡ flat_at 64 (map model_of c.args.units.now) c.args.joiner.now true (record { suffix = []; bound = [] }) 0 =
    c.in_ok-add_instance.ensures
    ∙ ap (λ (xs : List Stated). map telling_of xs ++ flat_at 64 (map model_of c.args.units.now) c.args.joiner.now true (context_of c.args.joiner.now Top) 0) c.new-body.ensures.items
    ∙ ap (λ (x : Context). flat_at 64 (map model_of c.args.units.now) c.args.joiner.now true x 0) (context-Top c.args.joiner.now) in
    if_ok c.unit_of.result _ _ (λ unit h. flat_is c.args.units.now c.index-units-0.result c.args.joiner.now (model_of unit) c.requires.some c.index-units-0.is c.requires.joiner
    (h ∙ ap (λ (ts : List Telling). record { name = (model_of c.index-units-0.result).name; line = c.index-units-0.result.line; body = ts }) body)) c.unit_of.ensures
