use Rattle.std.proofs.Common.{◌≡◌, ◌<◌, ◌≤◌, List, ℕ, Bor, map, length, get_or, subst, ap}
use Rattle.std.proofs.lemmas.List.{take_all}
use Rattle.blif_unit.specs.declared.unit.Stated.{Stated}
use Rattle.blif_unit.specs.Unit.{telling_of}
use Rattle.blif_flat.specs.Places.{is_among}
use Rattle.blif_flat.specs.Sites.{AreFormalsOf}
use Rattle.blif_flat.proofs.FormalLemmas.{gained}
use Rattle.blif_flat.proofs.formals.Formals.of.Goals as goal

pub loop-stated-init : goal.loop-stated-init
loop-stated-init c = record {
  names = λ n. ap (λ ns. is_among ns n) c.new.ensures;
  inputs = ap (λ xs. map (λ (x : Bor (List ℕ)). x.now) xs) c.new-2.ensures.items;
}

pub loop-stated-preserved : goal.loop-stated-preserved
loop-stated-preserved c =
    let item : Stated = c.stated-item.result in
    let within : c.loop-stated.stated-index < length c.args.unit.now.body.items = subst (λ (xs : List Stated). c.loop-stated.stated-index < length xs) c.deref-stated-items.ensures.value c.loop-stated-test.true in
    let is : item ≡ get_or c.args.unit.now.body.items c.loop-stated.stated-index item =
    subst (λ (xs : List Stated). item ≡ get_or xs c.loop-stated.stated-index item) c.deref-stated-items.ensures.value c.stated-item.is in
    gained c.args.unit.now.body.items c.loop-stated.stated-index item c.loop-stated.formals c.add.new.self within is c.loop-stated.invariant c.in_ok-add.ensures

pub returns : goal.returns
returns c =
    let all : length c.args.unit.now.body.items ≤ c.loop-stated.stated-index = subst (λ (xs : List Stated). length xs ≤ c.loop-stated.stated-index) c.deref-stated-items.ensures.value c.loop-stated-test.false in
    subst (λ xs. AreFormalsOf (map telling_of xs) c.loop-stated.formals) (take_all c.loop-stated.stated-index c.args.unit.now.body.items all) c.loop-stated.invariant
