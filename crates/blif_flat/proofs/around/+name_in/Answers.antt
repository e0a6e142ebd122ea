-- A name that is bound is read in the instance around, any other gets the suffix.
use Rattle.std.proofs.Common.{◌∙◌, sym, ap}
use Rattle.blif_flat.specs.Around.{renamed, context_of}
use Rattle.blif_flat.proofs.AroundLemmas.{if_ok, bound_name_is, free_name_is}
use Rattle.blif_flat.proofs.around.+name_in.Goals as goal

pub returns-in-Some : goal.returns-in-Some
returns-in-Some t c =
    if_ok c.name_in.result _ _ (λ x h. h ∙ ap (renamed (context_of c.args.joiner.now c.in-Inside.outer.now)) c.bytes.ensures
    ∙ sym (bound_name_is c.args.joiner.now c.args.name.now c.in-Some.actual.now c.args.around.now c.in-Inside.outer c.in-Inside.site c.in-Inside.field-2 c.in-Inside.is (sym c.in-Some.ensures))) c.name_in.ensures

pub returns-in-None : goal.returns-in-None
returns-in-None t c =
    if_ok c.own_name.result _ _ (λ x h. h
    ∙ sym (free_name_is c.args.joiner.now c.args.name.now c.args.around.now c.in-Inside.outer c.in-Inside.site c.in-Inside.field-2 c.in-Inside.is (sym c.in-None.ensures))) c.own_name.ensures
