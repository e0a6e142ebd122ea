use Rattle.std.proofs.Common.{◌≡◌, ◌∙◌, ◌++◌, ◌∷◌, [], List, ℕ, subst, ap, bytes_eq, if◌then◌else◌}
use Rattle.std.specs.List.{list_any}
use Rattle.std.proofs.lemmas.List.{take_all}
use Rattle.blif_flat.specs.Places.{is_among}
use Rattle.blif_flat.proofs.NameLists.{joined_more, joined_none}
use Rattle.blif_flat.proofs.formals.insert_all.Goals as goal

pub loop-name-init : goal.loop-name-init
loop-name-init c = joined_none c.args.names.now

pub loop-name-preserved : goal.loop-name-preserved
loop-name-preserved c =
    let step = subst (λ (n : List ℕ). c.insert.new.self ≡ (if list_any (bytes_eq n) c.loop-name.names then c.loop-name.names else c.loop-name.names ++ n ∷ [])) c.bytes.ensures c.in_ok-insert.ensures.names in
    joined_more c.args.names.now c.loop-name.names c.insert.new.self c.args.more.now c.loop-name.name-index c.name-item.result c.loop-name-test.true c.name-item.is c.loop-name.invariant step

pub returns : goal.returns
returns c = λ n. c.loop-name.invariant n ∙ ap (λ ys. is_among (c.args.names.now ++ ys) n) (take_all c.loop-name.name-index c.args.more.now c.loop-name-test.false)
