-- One walk more.
use Rattle.std.proofs.Common.{◌≡◌, ℕ, ◌+◌, ◌<◌, List, [], ◌∷◌, ◌++◌, length, map, take, get_or, sym, ◌∙◌, ap, Global, arith}
use Rattle.std.specs.Prelude.{Vec}
use Rattle.std.proofs.lemmas.List.{map_push, take_more, get_or-map, length-map}
use Rattle.tm_flow.specs.Lists.{lists_in}
use Rattle.tm_inherit.specs.Reads.{way_to}
use Rattle.tm_inherit.proofs.inherited.walks_over.Goals as goal

-- Vectors that hold what becomes of the first lists, and one more.
lists_more : (F : List ℕ → List ℕ) (walks old new : List (Vec ℕ Global)) (i : ℕ) (w v : Vec ℕ Global) → i < length walks → w ≡ get_or walks i w → lists_in old ≡ take i (map F (lists_in walks))
    → v.items ≡ F w.items → new ≡ old ++ v ∷ [] → lists_in new ≡ take (i + 1) (map F (lists_in walks))
lists_more F walks old new i w v within at before same pushed =
    let zs : List (List ℕ) = map F (lists_in walks) in
    let count = length-map walks (λ (x : Vec ℕ Global). x.items) in
    let many = length-map (lists_in walks) F in
    let inside : i < length (lists_in walks) = omega (arith, within, count) in
    let inside_all : i < length zs = omega (arith, within, count, many) in
    let here : get_or zs i (F w.items) ≡ F w.items =
    get_or-map F (lists_in walks) i w.items (F w.items) inside ∙ ap F (get_or-map (λ (x : Vec ℕ Global). x.items) walks i w w.items within ∙ ap (λ (x : Vec ℕ Global). x.items) (sym at)) in
    ap lists_in pushed ∙ map_push (λ (x : Vec ℕ Global). x.items) old v ∙ ap (λ (ls : List (List ℕ)). ls ++ v.items ∷ []) before
    ∙ ap (λ (l : List ℕ). take i zs ++ l ∷ []) (same ∙ sym here) ∙ sym (take_more zs i (F w.items) inside_all)

pub loop-walk-preserved : goal.loop-walk-preserved
loop-walk-preserved c =
    lists_more (λ (w : List ℕ). way_to c.args.lag c.args.read.now ++ w) c.args.walks.now c.loop-walk.lists.items c.push.new.self.items c.loop-walk.walk-index c.walk-item.result c.in_ok-walk_over.field-0 c.loop-walk-test.true c.walk-item.is c.loop-walk.invariant
    (c.in_ok-walk_over.ensures ∙ ap (λ (w : List ℕ). way_to c.args.lag c.args.read.now ++ w) c.deref.ensures.value) c.in_ok-push.ensures.items
