-- A node that is left out or stands there is no more, one without room is one too many, and any other is put in at its place.
use Rattle.std.proofs.Common.{◌≡◌, ◌≢◌, ◌<◌, ◌≤◌, Bool, false, List, [], ◌∷◌, length, Some, refl, sym, ◌∙◌, subst, arith}
use Rattle.std.specs.List.{list_any}
use Rattle.std.specs.Prelude.{Contains, AllPairs}
use Rattle.std.proofs.lemmas.Bool.{false≢true}
use Rattle.tm_unroll.specs.declared.node.Node.{Node}
use Rattle.tm_unroll.specs.Nodes.{IsBefore}
use Rattle.tm_unroll.specs.Replaced.{Joins, IsTaken, PartsAt}
use Rattle.tm_unroll.proofs.AddLemmas.{joins_beyond, joins_one, taken_one}
use Rattle.tm_unroll.proofs.SearchLemmas.{node_eq, node_found_back}
use Rattle.tm_unroll.proofs.replace.add_node.Goals as goal

-- A node that is not found does not stand there.
not_found : (x : Node) (old seen : List Node) (found : Bool) → seen ≡ old → found ≡ list_any (λ (y : Node). node_eq y x) seen → found ≡ false → ¬ Contains old x
not_found x old seen found same is none stands = false≢true (sym none ∙ is ∙ (node_found_back x seen).1 (subst (λ (l : List Node). Contains l x) (sym same) stands))

pub returns-then-len-k-clause-added : goal.returns-then-len-k-clause-added
returns-then-len-k-clause-added c =
    let old = c.args.ascending.now.items in
    let differs : c.args.but ≢ Some c.args.node = λ e. false≢true (sym c.if-is_left_out.false ∙ c.is_left_out.ensures.1 e) in
    let never = not_found c.args.node old c.as_slice.result.now c.contains.result c.as_slice.ensures c.contains.ensures.value c.if-contains.false in
    let full : c.args.k ≤ length old = omega arith in
    joins_beyond (IsTaken c.args.but (c.args.node ∷ [])) c.args.k old c.args.node c.requires.ascending full never ((taken_one c.args.but c.args.node differs c.args.node).1 refl)

pub count_before-place-requires : goal.count_before-place-requires
count_before-place-requires c = subst (λ (l : List Node). AllPairs IsBefore l) (sym c.as_slice-2.ensures) c.requires.ascending

pub returns-clause-added : goal.returns-clause-added
returns-clause-added c =
    let old = c.args.ascending.now.items in
    let differs : c.args.but ≢ Some c.args.node = λ e. false≢true (sym c.if-is_left_out.false ∙ c.is_left_out.ensures.1 e) in
    let never = not_found c.args.node old c.as_slice.result.now c.contains.result c.as_slice.ensures c.contains.ensures.value c.if-contains.false in
    let room : length old < c.args.k = omega arith in
    let place = c.count_before-place.result in
    let parts : PartsAt old c.args.node place = subst (λ (l : List Node). PartsAt l c.args.node place) c.as_slice-2.ensures c.count_before-place.ensures in
    subst (λ (l : List Node). Joins (IsTaken c.args.but (c.args.node ∷ [])) c.args.k old l) (sym c.in_ok-insert.ensures.ok)
    (joins_one (IsTaken c.args.but (c.args.node ∷ [])) c.args.k place old c.args.node c.requires.ascending room never parts (taken_one c.args.but c.args.node differs))
