-- The flat unit, its size, and the faults of models as a whole.
use Rattle.std.proofs.Common.{◌≡◌, ℕ, ◌+◌, ◌<◌, ◌≤◌, min, Bool, true, false, ◌&&◌, nat_lt, List, [], ◌∷◌, Some, map, length, get_or, refl, sym, ◌∙◌, ap, subst, arith, Vec, Global}
use Rattle.std.specs.Prelude.{slice_get, option_map, MatchOption}
use Rattle.std.specs.List.{list_any}
use Rattle.std.proofs.lemmas.Bool.Decides.{nat_tests}
use Rattle.std.proofs.lemmas.List.{length-map}
use Rattle.std.proofs.lemmas.Option.{slice_get-map, slice_get_read}
use Rattle.blif_unit.specs.declared.unit.Unit.{Unit as ModelUnit}
use Rattle.blif_unit.specs.declared.fault.BlifKind.TheVariants.{TooDeep, TooLarge}
use Rattle.blif_unit.specs.Fault.{Faulty}
use Rattle.blif_unit.specs.Unit.{Model, model_of, AreDistinct}
use Rattle.blif_flat.specs.Flat.{is_place, is_deeper, instances, joiner_of, flat_of, size_of, top_body, is_too_deep, is_too_large}
use Rattle.blif_flat.specs.Places.{faults_in_places}
use Rattle.blif_flat.specs.Hier.{IsFaultOfTree, recursive, too_deep, too_large, IsFaultOfPlaces, IsFlatOf}
use Rattle.blif_flat.specs.Graph.{placed_in, IsOrder}
use Rattle.blif_flat.specs.Extent.{is_some_placed, goes_deeper, count_under, IsDepth, IsCount}
use Rattle.blif_flat.specs.Sites.{Sited, sites_in}
use Rattle.blif_flat.specs.Size.{weight_of}
use Rattle.blif_flat.specs.Plan.{body_at, graph_of, AreSitesOf, IsShallow, flat_at}
use Rattle.blif_flat.specs.Tree.{IsFaultOfGraph, in_circle, deep, AreInstances}
use Rattle.blif_flat.proofs.SizeLemmas.{weight_parts}
use Rattle.blif_flat.proofs.TreeLemmas.{models_at, placed_is, some_place, deeper_is, count_is, no_circle}
use Rattle.blif_flat.proofs.RouteLemmas.{is_graph, circle_of, recursion_of}

-- ---- the graph of the sites

pub sites_graph : (models : List Model) (sites : List (List Sited)) → sites ≡ map (λ m. sites_in models m.body) models → (m : ℕ) → placed_in (graph_of sites) m ≡ models_at models (body_at models m)
sites_graph models sites are m = ap (λ ss. placed_in (graph_of ss) m) are ∙ placed_is models models m

pub sites_sized : (models : List Model) (sites : List (List Sited)) → sites ≡ map (λ m. sites_in models m.body) models → length (graph_of sites) ≡ length models
sites_sized models sites are = length-map sites (λ (placed : List Sited). map (λ s. s.model) placed) ∙ ap length are ∙ length-map models (λ (m : Model). sites_in models m.body)

-- the sites of models without a fault lead to models
pub plan_of : (models : List Model) (sites : List (List Sited)) → sites ≡ map (λ m. sites_in models m.body) models → faults_in_places models ≡ [] → AreSitesOf models sites
plan_of models sites are none = record { are = are; inside = is_graph models (graph_of sites) (sites_graph models sites are) (sites_sized models sites are) none }

top_at : (models : List Model) → top_body models ≡ body_at models 0
top_at [] = refl
top_at (m ∷ models) = refl

pub deep_is : (models : List Model) (sites : List (List Sited)) → sites ≡ map (λ m. sites_in models m.body) models → goes_deeper 64 (graph_of sites) 0 ≡ is_too_deep models
deep_is models sites are = deeper_is models (graph_of sites) (sites_graph models sites are) 64 0 ∙ ap (λ ts. is_deeper 64 models ts) (sym (top_at models))

pub counts_are : (models : List Model) (sites : List (List Sited)) → sites ≡ map (λ m. sites_in models m.body) models → count_under 64 (graph_of sites) 0 ≡ instances 64 models (top_body models)
counts_are models sites are = count_is models (graph_of sites) (sites_graph models sites are) 64 0 ∙ ap (λ ts. instances 64 models ts) (sym (top_at models))

-- no instance of the top is too deep
pub top_shallow : (models : List Model) (sites : List (List Sited)) → sites ≡ map (λ m. sites_in models m.body) models → 0 < length models → goes_deeper 64 (graph_of sites) 0 ≡ false → IsShallow models 64 0
top_shallow models sites are some shallow = record { is_model = some; shallow = sym (deeper_is models (graph_of sites) (sites_graph models sites are) 64 0) ∙ shallow }

-- whether the top has a site
pub top_sites : (models : List Model) (sites : List (List Sited)) (first : List Sited) → sites ≡ map (λ m. sites_in models m.body) models → slice_get sites 0 ≡ Some first
    → is_some_placed (map (λ s. s.model) first) ≡ list_any (λ t. is_place t.what) (top_body models)
top_sites models sites first are at = by_models models (sym (ap (λ ss. slice_get ss 0) are) ∙ at)
  where
    by_models : (some : List Model) → slice_get (map (λ m. sites_in models m.body) some) 0 ≡ Some first → is_some_placed (map (λ s. s.model) first) ≡ list_any (λ t. is_place t.what) (top_body some)
    by_models [] e = cc
    by_models (m ∷ some) e = let same : sites_in models m.body ≡ first = cc in ap (λ ss. is_some_placed (map (λ s. s.model) ss)) (sym same) ∙ some_place models m.body

-- the sites of the top as they were read
first_read : (models : List Model) (sites : List (Vec Sited Global)) (first : Vec Sited Global) → map (λ (v : Vec Sited Global). v.items) sites ≡ map (λ m. sites_in models m.body) models → 0 < length models
    → first ≡ get_or sites 0 first → slice_get (map (λ (v : Vec Sited Global). v.items) sites) 0 ≡ Some first.items
first_read models sites first are some is =
    let sized = ap (λ (xs : List (List Sited)). length xs) are in
    let within : 0 < length sites = omega (arith, length-map sites (λ (v : Vec Sited Global). v.items), sized, length-map models (λ (m : Model). sites_in models m.body), some) in
    slice_get-map (λ (v : Vec Sited Global). v.items) sites 0 ∙ ap (λ o. option_map (λ (v : Vec Sited Global). v.items) o) (slice_get_read sites (length sites) 0 first refl within is)

no_sites : (ss : List Sited) → length ss ≡ 0 → is_some_placed (map (λ s. s.model) ss) ≡ false
no_sites [] none = refl
no_sites (s ∷ ss) none = absurd (omega (arith, none))

some_sites : (ss : List Sited) → 0 < length ss → is_some_placed (map (λ s. s.model) ss) ≡ true
some_sites [] some = absurd (omega (arith, some))
some_sites (s ∷ ss) some = refl

pub top_alone : (models : List Model) (sites : List (Vec Sited Global)) (first : Vec Sited Global) → map (λ (v : Vec Sited Global). v.items) sites ≡ map (λ m. sites_in models m.body) models → 0 < length models
    → first ≡ get_or sites 0 first → length first.items ≡ 0 → list_any (λ t. is_place t.what) (top_body models) ≡ false
top_alone models sites first are some is none =
    sym (top_sites models (map (λ (v : Vec Sited Global). v.items) sites) first.items are (first_read models sites first are some is)) ∙ no_sites first.items none

pub top_places : (models : List Model) (sites : List (Vec Sited Global)) (first : Vec Sited Global) → map (λ (v : Vec Sited Global). v.items) sites ≡ map (λ m. sites_in models m.body) models → 0 < length models
    → first ≡ get_or sites 0 first → 0 < length first.items → list_any (λ t. is_place t.what) (top_body models) ≡ true
top_places models sites first are some is placed =
    sym (top_sites models (map (λ (v : Vec Sited Global). v.items) sites) first.items are (first_read models sites first are some is)) ∙ some_sites first.items placed

-- ---- the flat unit

top_name : List Model → List ℕ
top_name [] = []
top_name (m ∷ models) = m.name

pub flat_is : (units : List ModelUnit) (top : ModelUnit) (joiner : List ℕ) (made : Model) → 0 < length units → top ≡ get_or units 0 top → joiner ≡ joiner_of (map model_of units)
    → made ≡ record { name = (model_of top).name; line = top.line; body = flat_at 64 (map model_of units) joiner true (record { suffix = []; bound = [] }) 0 }
    → made ≡ flat_of (map model_of units)
flat_is [] top joiner made some is joined made_is = absurd (omega arith)
flat_is (u ∷ units) top joiner made some is joined made_is =
    made_is
    ∙ ap (λ j. record { name = (model_of top).name; line = top.line; body = flat_at 64 (map model_of (u ∷ units)) j true (record { suffix = []; bound = [] }) 0 }) joined
    ∙ ap (λ (t : ModelUnit). record { name = (model_of t).name; line = t.line; body = flat_at 64 (map model_of (u ∷ units)) (joiner_of (map model_of (u ∷ units))) true (record { suffix = []; bound = [] }) 0 }) is

-- ---- size

size_is : (models : List Model) (joiner : List ℕ) → 0 < length models → joiner ≡ joiner_of models
    → size_of models (top_body models) ≡ instances 64 models (top_body models) + (length (top_name models) + weight_of (flat_at 64 models joiner true (record { suffix = []; bound = [] }) 0))
unfolding top_name
size_is [] joiner some joined = absurd (omega arith)
size_is (m ∷ models) joiner some joined =
    let flat = (flat_of (m ∷ models)).body in
    let parts = weight_parts flat in
    let same : weight_of (flat_at 64 (m ∷ models) joiner true (record { suffix = []; bound = [] }) 0) ≡ weight_of flat =
    ap (λ j. weight_of (flat_at 64 (m ∷ models) j true (record { suffix = []; bound = [] }) 0)) joined in
    omega (arith, parts, same)

top_named : (units : List ModelUnit) (top : ModelUnit) → 0 < length units → top ≡ get_or units 0 top → length (model_of top).name ≡ length (top_name (map model_of units))
unfolding top_name
top_named [] top some is = absurd (omega arith)
top_named (u ∷ units) top some is = ap (λ (t : ModelUnit). length (model_of t).name) is

small_test : (size : ℕ) (b : Bool) → size ≤ 67108864 → (b && nat_lt 67108864 size) ≡ false
small_test size true less = grind (arith, nat_tests)
small_test size false less = refl

large_test : (size : ℕ) (b : Bool) → 67108864 < size → b ≡ true → (b && nat_lt 67108864 size) ≡ true
large_test size b more is = ap (λ x. x && nat_lt 67108864 size) is ∙ grind (arith, nat_tests)

-- the unit is not too large where there is room for all of it
pub is_small : (units : List ModelUnit) (top : ModelUnit) (joiner : List ℕ) (n under left : ℕ) → 0 < length units → top ≡ get_or units 0 top → joiner ≡ joiner_of (map model_of units)
    → n ≡ min 67108865 under → under ≡ instances 64 (map model_of units) (top_body (map model_of units))
    → left + (n + length (model_of top).name) ≡ 67108864
    → weight_of (flat_at 64 (map model_of units) joiner true (record { suffix = []; bound = [] }) 0) ≤ left
    → is_too_large (map model_of units) ≡ false
is_small units top joiner n under left some is joined counted same first rest =
    let models = map model_of units in
    let size = size_is (map model_of units) joiner (omega (arith, length-map units model_of, some)) joined in
    let name = top_named units top some is in
    small_test (size_of (map model_of units) (top_body (map model_of units))) (list_any (λ t. is_place t.what) (top_body (map model_of units))) (omega (arith, size, name, counted, same, first, rest))

-- it is too large where there is none
pub is_large : (units : List ModelUnit) (top : ModelUnit) (joiner : List ℕ) (n under : ℕ) → 0 < length units → top ≡ get_or units 0 top → joiner ≡ joiner_of (map model_of units)
    → n ≡ min 67108865 under → under ≡ instances 64 (map model_of units) (top_body (map model_of units))
    → list_any (λ t. is_place t.what) (top_body (map model_of units)) ≡ true
    → 67108864 < n + length (model_of top).name + weight_of (flat_at 64 (map model_of units) joiner true (record { suffix = []; bound = [] }) 0)
    → is_too_large (map model_of units) ≡ true
is_large units top joiner n under some is joined counted same placed more =
    let size = size_is (map model_of units) joiner (omega (arith, length-map units model_of, some)) joined in
    let name = top_named units top some is in
    large_test (size_of (map model_of units) (top_body (map model_of units))) (list_any (λ t. is_place t.what) (top_body (map model_of units))) (omega (arith, size, name, counted, same, more)) placed

-- the same by what the code has read
pub small_read : (units : List ModelUnit) (sites : List (Vec Sited Global)) (top : ModelUnit) (joiner : List ℕ) (n left : ℕ) → 0 < length units → top ≡ get_or units 0 top
    → joiner ≡ joiner_of (map model_of units) → AreSitesOf (map model_of units) (map (λ (v : Vec Sited Global). v.items) sites)
    → AreInstances (graph_of (map (λ (v : Vec Sited Global). v.items) sites)) n → left + (n + length (model_of top).name) ≡ 67108864
    → weight_of (flat_at 64 (map model_of units) joiner true (record { suffix = []; bound = [] }) 0) ≤ left → is_too_large (map model_of units) ≡ false
small_read units sites top joiner n left some is joined plan counted first rest =
    is_small units top joiner n (count_under 64 (graph_of (map (λ (v : Vec Sited Global). v.items) sites)) 0) left some is joined counted.count
    (counts_are (map model_of units) (map (λ (v : Vec Sited Global). v.items) sites) plan.are) first rest

pub large_read : (units : List ModelUnit) (sites : List (Vec Sited Global)) (top : ModelUnit) (first : Vec Sited Global) (joiner : List ℕ) (n : ℕ) → 0 < length units → top ≡ get_or units 0 top
    → first ≡ get_or sites 0 first → joiner ≡ joiner_of (map model_of units) → AreSitesOf (map model_of units) (map (λ (v : Vec Sited Global). v.items) sites)
    → AreInstances (graph_of (map (λ (v : Vec Sited Global). v.items) sites)) n → 0 < length first.items
    → 67108864 < n + length (model_of top).name + weight_of (flat_at 64 (map model_of units) joiner true (record { suffix = []; bound = [] }) 0) → is_too_large (map model_of units) ≡ true
large_read units sites top first joiner n some is first_is joined plan counted placed more =
    is_large units top joiner n (count_under 64 (graph_of (map (λ (v : Vec Sited Global). v.items) sites)) 0) some is joined counted.count
    (counts_are (map model_of units) (map (λ (v : Vec Sited Global). v.items) sites) plan.are)
    (top_places (map model_of units) sites first plan.are (omega (arith, length-map units model_of, some)) first_is placed) more

-- without a site in the top it is not too large
pub is_alone : (models : List Model) → list_any (λ t. is_place t.what) (top_body models) ≡ false → is_too_large models ≡ false
is_alone models none = ap (λ b. b && nat_lt 67108864 (size_of models (top_body models))) none

-- ---- faults

pub fault_of_place : (models : List Model) (fault : Faulty) → slice_get (faults_in_places models) 0 ≡ Some fault → IsFaultOfPlaces models fault
fault_of_place models fault at = subst (λ o. MatchOption o (IsFaultOfTree models fault) (λ first. fault ≡ first)) (sym at) refl

pub fault_of_tree : (models : List Model) (fault : Faulty) → faults_in_places models ≡ [] → IsFaultOfTree models fault → IsFaultOfPlaces models fault
fault_of_tree models fault none h = subst (λ fs. MatchOption (slice_get fs 0) (IsFaultOfTree models fault) (λ first. fault ≡ first)) (sym none) h

-- the faults of the graph are those of the models
pub fault_of_graph : (models : List Model) (sites : List (List Sited)) (fault : Faulty) → AreDistinct (map (λ m. m.name) models) → sites ≡ map (λ m. sites_in models m.body) models
    → faults_in_places models ≡ [] → IsFaultOfGraph (graph_of sites) fault → IsFaultOfPlaces models fault
fault_of_graph models sites fault distinct are none (in_circle is circle) =
    fault_of_tree models fault none (recursive is (recursion_of models (graph_of sites) (sites_graph models sites are) (sites_sized models sites are) distinct circle))
fault_of_graph models sites fault distinct are none (deep is ends under) =
    fault_of_tree models fault none (too_deep is (λ h. ends (circle_of models (graph_of sites) (sites_graph models sites are) (sites_sized models sites are) none h)) (sym (deep_is models sites are) ∙ under))

pub fault_of_size : (models : List Model) (sites : List (List Sited)) (fault : Faulty) (n : ℕ) → sites ≡ map (λ m. sites_in models m.body) models → faults_in_places models ≡ []
    → AreInstances (graph_of sites) n → (fault ≡ (0, TooLarge)) × (is_too_large models ≡ true) → IsFaultOfPlaces models fault
fault_of_size models sites fault n are none counted h =
    fault_of_tree models fault none (too_large h.0 (λ r. counted.ends (circle_of models (graph_of sites) (sites_graph models sites are) (sites_sized models sites are) none r))
    (sym (deep_is models sites are) ∙ counted.shallow) h.1)

pub flat_made : (models : List Model) (sites : List (List Sited)) (made : Model) (n : ℕ) → sites ≡ map (λ m. sites_in models m.body) models → faults_in_places models ≡ []
    → AreInstances (graph_of sites) n → is_too_large models ≡ false → made ≡ flat_of models → IsFlatOf models made
flat_made models sites made n are none counted small is = record {
  placed = none;
  ends = λ r. counted.ends (circle_of models (graph_of sites) (sites_graph models sites are) (sites_sized models sites are) none r);
  shallow = sym (deep_is models sites are) ∙ counted.shallow;
  small = small;
  made = is;
}

-- ---- what the code finds of the graph

not_below : (n : ℕ) → n ≤ 64 → nat_lt 64 n ≡ false
not_below n few = grind (arith, nat_tests)

is_above : (n : ℕ) → 64 < n → nat_lt 64 n ≡ true
is_above n many = grind (arith, nat_tests)

pub shallow_by : (graph : List (List ℕ)) (levels : ℕ) → IsDepth graph 0 levels → levels ≤ 64 → goes_deeper 64 graph 0 ≡ false
shallow_by graph levels h few = h 64 (omega arith) ∙ not_below levels few

pub deep_by : (graph : List (List ℕ)) (levels : ℕ) → IsDepth graph 0 levels → 64 < levels → goes_deeper 64 graph 0 ≡ true
deep_by graph levels h many = h 64 (omega arith) ∙ is_above levels many

pub instances_by_order : (graph : List (List ℕ)) (order : List ℕ) (levels count : ℕ) → IsOrder graph order → IsDepth graph 0 levels → levels ≤ 64 → IsCount graph 0 count → AreInstances graph count
instances_by_order graph order levels count is depth few counted =
    let shallow = shallow_by graph levels depth few in
    record { ends = no_circle graph order is; shallow = shallow; count = counted 64 shallow }

pub deep_fault : (graph : List (List ℕ)) (order : List ℕ) (levels : ℕ) (fault : Faulty) → IsOrder graph order → IsDepth graph 0 levels → 64 < levels → fault ≡ (0, TooDeep) → IsFaultOfGraph graph fault
deep_fault graph order levels fault is depth many same = deep same (no_circle graph order is) (deep_by graph levels depth many)

-- ---- the graph as the code makes it

pub graph_same : (sites : List (Vec Sited Global)) → map (λ (v : Vec Sited Global). map (λ (s : Sited). s.model) v.items) sites ≡ graph_of (map (λ (v : Vec Sited Global). v.items) sites)
graph_same [] = refl
graph_same (v ∷ sites) = ap (λ g. map (λ (s : Sited). s.model) v.items ∷ g) (graph_same sites)

pub graph_read : (sites : List (Vec Sited Global)) (made read : List (Vec ℕ Global)) → read ≡ made
    → map (λ (v : Vec ℕ Global). v.items) made ≡ map (λ (v : Vec Sited Global). map (λ (s : Sited). s.model) v.items) sites
    → map (λ (v : Vec ℕ Global). v.items) read ≡ graph_of (map (λ (v : Vec Sited Global). v.items) sites)
graph_read sites made read same is = ap (map (λ (v : Vec ℕ Global). v.items)) same ∙ is ∙ graph_same sites

-- there are as many models in it as there are with sites
pub graph_long : (sites : List (Vec Sited Global)) (made read : List (Vec ℕ Global)) → read ≡ made
    → map (λ (v : Vec ℕ Global). v.items) made ≡ map (λ (v : Vec Sited Global). map (λ (s : Sited). s.model) v.items) sites → length read ≡ length sites
graph_long sites made read same is =
    let long = ap (λ (xs : List (Vec ℕ Global)). length xs) same in
    let equal = ap (λ (xs : List (List ℕ)). length xs) is in
    omega (arith, long, equal, length-map made (λ (v : Vec ℕ Global). v.items), length-map sites (λ (v : Vec Sited Global). map (λ (s : Sited). s.model) v.items))
