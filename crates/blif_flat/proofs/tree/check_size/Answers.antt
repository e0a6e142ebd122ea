-- What is left of the room says whether the unit fits.
use Rattle.std.proofs.Common.{◌≡◌, ◌+◌, ◌<◌, true, [], Vec, Global, map, length, subst, arith}
use Rattle.std.proofs.lemmas.Bool.Decides.{nat_tests}
use Rattle.std.proofs.lemmas.List.{length-map}
use Rattle.std.proofs.lemmas.Result.{err_from_is_err_and}
use Rattle.blif_unit.specs.Unit.{model_of}
use Rattle.blif_flat.specs.declared.around.Around.{Top}
use Rattle.blif_flat.specs.Around.{Context, context_of}
use Rattle.blif_flat.specs.Flat.{is_too_large}
use Rattle.blif_flat.specs.Plan.{flat_at}
use Rattle.blif_flat.specs.Sites.{Sited}
use Rattle.blif_flat.specs.Size.{weight_of}
use Rattle.blif_flat.proofs.AroundLemmas.{context-Top}
use Rattle.blif_flat.proofs.FlatLemmas.{top_shallow, top_alone, is_alone, small_read, large_read}
use Rattle.blif_flat.proofs.SizeLemmas.{large_by}
use Rattle.blif_flat.proofs.tree.check_size.Goals as goal

pub returns-then-is_empty-clause-small : goal.returns-then-is_empty-clause-small
returns-then-is_empty-clause-small c =
    let some : 0 < length (map model_of c.args.units.now) = omega (arith, length-map c.args.units.now model_of, c.requires.some) in
    let none : c.index-sites-0.result.len ≡ 0 = grind (arith, nat_tests, c.if-is_empty.true, c.is_empty.ensures) in
    is_alone (map model_of c.args.units.now)
    (top_alone (map model_of c.args.units.now) c.args.sites.now c.index-sites-0.result c.requires.sites.are some c.index-sites-0.is (omega (arith, none, c.index-sites-0.result.ok.0)))

pub returns-in_err-left-clause-large : goal.returns-in_err-left-clause-large
returns-in_err-left-clause-large c =
    let many : 0 < c.index-sites-0.result.len = grind (arith, nat_tests, c.if-is_empty.false, c.is_empty.ensures) in
    let placed : 0 < length c.index-sites-0.result.items = omega (arith, many, c.index-sites-0.result.ok.0) in
    let p = err_from_is_err_and c.from_residual.result c.from_residual.ensures.1 in
    rw (p.1, p.2) (large_by _ 67108864 (c.args.instances + length c.index-units-0.result.name) (is_too_large (map model_of c.args.units.now) ≡ true) c.in_err-left.ensures
    (λ more. large_read c.args.units.now c.args.sites.now c.index-units-0.result c.index-sites-0.result c.args.joiner.now c.args.instances c.requires.some c.index-units-0.is c.index-sites-0.is
    c.requires.joiner c.requires.sites c.requires.instances placed (omega (arith, more))))

pub spend_instance-requires-clause-shallow : goal.spend_instance-requires-clause-shallow
spend_instance-requires-clause-shallow c =
    let some : 0 < length (map model_of c.args.units.now) = omega (arith, length-map c.args.units.now model_of, c.requires.some) in
    top_shallow (map model_of c.args.units.now) (map (λ (v : Vec Sited Global). v.items) c.args.sites.now) c.requires.sites.are some c.requires.instances.shallow

pub returns-in_err-spend_instance-clause-large : goal.returns-in_err-spend_instance-clause-large
returns-in_err-spend_instance-clause-large c =
    let many : 0 < c.index-sites-0.result.len = grind (arith, nat_tests, c.if-is_empty.false, c.is_empty.ensures) in
    let placed : 0 < length c.index-sites-0.result.items = omega (arith, many, c.index-sites-0.result.ok.0) in
    let p = err_from_is_err_and c.from_residual-in_err-spend_instance.result c.from_residual-in_err-spend_instance.ensures.1 in
    rw (p.1, p.2) (large_by _ c.in_ok-left.left (weight_of (flat_at 64 (map model_of c.args.units.now) c.args.joiner.now true (context_of c.args.joiner.now Top) 0))
    (is_too_large (map model_of c.args.units.now) ≡ true) c.in_err-spend_instance.ensures (λ short.
    let less : c.in_ok-left.left < weight_of (flat_at 64 (map model_of c.args.units.now) c.args.joiner.now true (record { suffix = []; bound = [] }) 0) =
    subst (λ (x : Context). c.in_ok-left.left < weight_of (flat_at 64 (map model_of c.args.units.now) c.args.joiner.now true x 0)) (context-Top c.args.joiner.now) short in
    large_read c.args.units.now c.args.sites.now c.index-units-0.result c.index-sites-0.result c.args.joiner.now c.args.instances c.requires.some c.index-units-0.is c.index-sites-0.is
    c.requires.joiner c.requires.sites c.requires.instances placed (omega (arith, less, c.in_ok-left.ensures))))

pub returns-clause-small : goal.returns-clause-small
returns-clause-small c =
    let paid : c.in_ok-spend_instance.field-0 + weight_of (flat_at 64 (map model_of c.args.units.now) c.args.joiner.now true (record { suffix = []; bound = [] }) 0) ≡ c.in_ok-left.left =
    subst (λ (x : Context). c.in_ok-spend_instance.field-0 + weight_of (flat_at 64 (map model_of c.args.units.now) c.args.joiner.now true x 0) ≡ c.in_ok-left.left)
    (context-Top c.args.joiner.now) c.in_ok-spend_instance.ensures in
    small_read c.args.units.now c.args.sites.now c.index-units-0.result c.args.joiner.now c.args.instances c.in_ok-left.left c.requires.some c.index-units-0.is c.requires.joiner c.requires.sites
    c.requires.instances c.in_ok-left.ensures (omega (arith, paid))
