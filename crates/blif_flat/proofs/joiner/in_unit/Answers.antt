use Rattle.std.proofs.Common.{◌≡◌, ◌<◌, ◌≤◌, ◌∙◌, ◌∷◌, map, take, length, get_or, subst, ap, arith}
use Rattle.std.proofs.lemmas.List.{take_all}
use Rattle.blif_unit.specs.declared.unit.Stated.{Stated}
use Rattle.blif_unit.specs.Fit.{names_told}
use Rattle.blif_unit.specs.Unit.{Telling, telling_of, over}
use Rattle.blif_flat.specs.Run.{run_in}
use Rattle.blif_flat.proofs.RunLemmas.{run-append}
use Rattle.blif_flat.proofs.SiteLemmas.{flat_more}
use Rattle.blif_flat.proofs.joiner.in_unit.Goals as goal

pub loop-stated-preserved : goal.loop-stated-preserved
loop-stated-preserved c =
    let items = c.args.unit.now.body.items in
    let i = c.loop-stated.stated-index in
    let item : Stated = c.stated-item.result in
    let within : i < length items = subst (λ xs. i < length xs) c.deref-stated-items.ensures.value c.loop-stated-test.true in
    let is : item ≡ get_or items i item = subst (λ xs. item ≡ get_or xs i item) c.deref-stated-items.ensures.value c.stated-item.is in
    let more = ap run_in (flat_more telling_of (λ (t : Telling). names_told t.what) items i item within is)
    ∙ run-append (over names_told (map telling_of (take i items))) (names_told (telling_of item).what) in
    (omega (arith, more, c.in_statement.ensures.run, c.loop-stated.invariant.0, c.max-longest.ensures), omega (arith, c.loop-stated.invariant.1, c.in_statement.ensures.small, c.max-longest.ensures))

pub returns : goal.returns
returns c =
    let items = c.args.unit.now.body.items in
    let all = subst (λ xs. length xs ≤ c.loop-stated.stated-index) c.deref-stated-items.ensures.value c.loop-stated-test.false in
    record {
      run = c.loop-stated.invariant.0 ∙ ap (λ xs. run_in (c.args.unit.now.name ∷ over names_told (map telling_of xs))) (take_all c.loop-stated.stated-index items all);
      small = c.loop-stated.invariant.1;
    }
