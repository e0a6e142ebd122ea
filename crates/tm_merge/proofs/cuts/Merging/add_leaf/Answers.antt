-- A leaf that stands there is no more, and any other is put in at its place.
use Rattle.std.proofs.Common.{◌≡◌, ◌<◌, Bool, false, true, List, length, sym, ◌∙◌, subst, arith}
use Rattle.std.specs.List.{list_any}
use Rattle.std.specs.Prelude.{Contains, AllPairs}
use Rattle.std.proofs.lemmas.Bool.{false≢true}
use Rattle.tm_unroll.specs.declared.node.Node.{Node}
use Rattle.tm_unroll.specs.Nodes.{IsBefore}
use Rattle.tm_unroll.specs.Replaced.{Joins, PartsAt}
use Rattle.tm_unroll.proofs.AddLemmas.{joins_none, joins_one}
use Rattle.tm_unroll.proofs.SearchLemmas.{node_eq, node_found_back}
use Rattle.tm_merge.proofs.cuts.Merging.add_leaf.Goals as goal

-- A node that is found stands there, and one that is not found does not.
found : (x : Node) (old seen : List Node) (answer : Bool) → seen ≡ old → answer ≡ list_any (λ (y : Node). node_eq y x) seen → answer ≡ true → Contains old x
found x old seen answer same is yes' = subst (λ (l : List Node). Contains l x) same ((node_found_back x seen).0 (sym is ∙ yes'))

not_found : (x : Node) (old seen : List Node) (answer : Bool) → seen ≡ old → answer ≡ list_any (λ (y : Node). node_eq y x) seen → answer ≡ false → ¬ Contains old x
not_found x old seen answer same is none stands = false≢true (sym none ∙ is ∙ (node_found_back x seen).1 (subst (λ (l : List Node). Contains l x) (sym same) stands))

pub returns-then-contains-clause-leaves : goal.returns-then-contains-clause-leaves
returns-then-contains-clause-leaves c = λ _.
    let old = c.args.self.now.leaves.items in
    let stands = found c.args.node old c.as_slice.result.now c.contains.result c.as_slice.ensures c.contains.ensures.value c.if-contains.true in
    joins_none (λ z. c.args.node ≡ z) c.args.k old c.requires.ascending c.requires.few (λ z is. subst (λ (v : Node). Contains old v) is stands)

pub count_before-place-requires : goal.count_before-place-requires
count_before-place-requires c = subst (λ (l : List Node). AllPairs IsBefore l) (sym c.as_slice-2.ensures) c.requires.ascending

pub returns-clause-leaves : goal.returns-clause-leaves
returns-clause-leaves c = λ _.
    let old = c.args.self.now.leaves.items in
    let never = not_found c.args.node old c.as_slice.result.now c.contains.result c.as_slice.ensures c.contains.ensures.value c.if-contains.false in
    let room : length old < c.args.k = omega arith in
    let place = c.count_before-place.result in
    let parts : PartsAt old c.args.node place = subst (λ (l : List Node). PartsAt l c.args.node place) c.as_slice-2.ensures c.count_before-place.ensures in
    subst (λ (l : List Node). Joins (λ z. c.args.node ≡ z) c.args.k old l) (sym c.in_ok-insert.ensures.ok)
    (joins_one (λ z. c.args.node ≡ z) c.args.k place old c.args.node c.requires.ascending room never parts (λ z. (λ h. h, λ h. h)))
