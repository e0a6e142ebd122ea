-- The mapping can be told from the mapped circuit.
use Rattle.std.proofs.Common.{◌≡◌, ℕ, ◌≤◌, List, [], ◌∷◌, ◌++◌, map, length, drop, Some, slice_get, refl, sym, ◌∙◌, ap, arith}
use Rattle.std.specs.Prelude.{Contains}
use Rattle.std.specs.List.{range_with_len}
use Rattle.std.proofs.lemmas.List.{append_cancel_left, drop_at}
use Rattle.tm_circuit.specs.Plain.{Plain, gate, input_count}
use Rattle.tm_circuit.specs.Sound.{IsSound}
use Rattle.tm_circuit.proofs.ListLemmas.{contains-first, contains-rest}
use Rattle.tm_unroll.specs.declared.node.Node.{Node}
use Rattle.tm_unroll.specs.Nodes.{node_at}
use Rattle.tm_unroll.specs.Mappings.{Table, root, IsLawful}
use Rattle.tm_unroll.proofs.ListLemmas.{place-of}
use Rattle.tm_mapped.specs.Mapped.{CoverRule, node_name, IsMappedBy}
use Rattle.tm_mapped.specs.Needed.{nodes_of}
use Rattle.tm_mapped.proofs.NodeLemmas.{root_place}
use Rattle.tm_mapped.proofs.DistinctLemmas.{IsNear, node_near}
use Rattle.tm_mapped.proofs.NameLemmas.{name_same}
use Rattle.tm_mapped.proofs.CountLemmas.{latches_counted}

-- Lists that are mapped alike are one, where items that are mapped alike are.
pub same_unmapped : {X Y : Type 0} (f : X → Y) (xs ys : List X) → map f xs ≡ map f ys
    → ((x y : X) → Contains xs x → Contains ys y → f x ≡ f y → x ≡ y) → xs ≡ ys
same_unmapped f [] [] same one = refl
same_unmapped f [] (y ∷ ys) same one = cc
same_unmapped f (x ∷ xs) [] same one = cc
same_unmapped f (x ∷ xs) (y ∷ ys) same one =
    let here : f x ≡ f y = cc in
    let rest : map f xs ≡ map f ys = cc in
    let first = one x y (contains-first x xs) (contains-first y ys) here in
    let later = same_unmapped f xs ys rest (λ a b in_xs in_ys. one a b (contains-rest x xs a in_xs) (contains-rest y ys b in_ys)) in
    cc

same_table : (t u : Table) → t.gate ≡ u.gate → t.lag ≡ u.lag → t.leaves ≡ u.leaves → t ≡ u
same_table t u of_gate of_lag of_leaves = λ i. record { gate = of_gate i; lag = of_lag i; leaves = of_leaves i }

module _ (Covers Others : CoverRule) (c : Plain) (k d k' d' : ℕ) (tables others : List Table) (mapped : Plain) (sound : IsSound c)
    (lawful : IsLawful c k d tables) (lawful' : IsLawful c k' d' others) (few : d ≤ 8) (few' : d' ≤ 8)
    (by : IsMappedBy Covers c tables mapped) (by' : IsMappedBy Others c others mapped)
  where
    near : (x : Node) → Contains (nodes_of c by.registers tables) x → IsNear c d x
    near x stands = let (i, at) = place-of (nodes_of c by.registers tables) x stands in node_near c k d tables sound lawful by.registers by.are i x at

    near' : (x : Node) → Contains (nodes_of c by'.registers others) x → IsNear c d' x
    near' x stands = let (i, at) = place-of (nodes_of c by'.registers others) x stands in node_near c k' d' others sound lawful' by'.registers by'.are i x at

    -- The nodes are told by the names.
    same_nodes : nodes_of c by.registers tables ≡ nodes_of c by'.registers others
    same_nodes =
        same_unmapped (node_name c) (nodes_of c by.registers tables) (nodes_of c by'.registers others) (sym by.names ∙ by'.names) (λ x y in_x in_y same.
        let near_x = near x in_x in
        let near_y = near' y in_y in
        let low_x = near_x.advance in
        let low_y = near_y.advance in
        name_same c sound x y near_x.signal near_y.signal (omega (arith, low_x, few)) (omega (arith, low_y, few')) same)

    same_roots : map root tables ≡ map root others
    same_roots =
        let ins : List Node = map (λ s. node_at 0 s) (range_with_len 0 (input_count c.drives)) in
        let rests : by.registers ++ map root tables ≡ by'.registers ++ map root others = append_cancel_left ins (by.registers ++ map root tables) (by'.registers ++ map root others) same_nodes in
        let long : length by'.registers ≡ length by.registers = sym (latches_counted Others c others mapped by') ∙ latches_counted Covers c tables mapped by in
        sym (drop_at by.registers (map root tables) (length by.registers) refl)
        ∙ (ap (drop (length by.registers)) rests ∙ drop_at by'.registers (map root others) (length by.registers) long)

    -- The leaves are told by the pins.
    same_leaves : (t u : Table) → Contains tables t → Contains others u → root t ≡ root u → t.leaves ≡ u.leaves
    same_leaves t u in_tables in_others same =
        let (i, at) = root_place c by.registers tables t in_tables in
        let there : slice_get (nodes_of c by'.registers others) i ≡ Some (root u) = ap (λ (ns : List Node). slice_get ns i) (sym same_nodes) ∙ (at ∙ ap Some same) in
        let here = by.gates i t in_tables at in
        let other = by'.gates i u in_others there in
        let drives : gate here.pins here.cover ≡ gate other.pins other.cover = sym here.is ∙ other.is in
        let pins : here.pins ≡ other.pins = cc in
        let read : map (λ p. slice_get (nodes_of c by.registers tables) p) here.pins ≡ map (λ p. slice_get (nodes_of c by'.registers others) p) other.pins =
        ap (λ (ns : List Node). map (λ p. slice_get ns p) here.pins) same_nodes ∙ ap (λ ps. map (λ p. slice_get (nodes_of c by'.registers others) p) ps) pins in
        let leaves : map (λ x. Some x) t.leaves ≡ map (λ x. Some x) u.leaves = sym here.leaves ∙ (read ∙ other.leaves) in
        same_unmapped (λ (x : Node). Some x) t.leaves u.leaves leaves (λ x y in_t in_u some. (cc))

    pub same_tables : tables ≡ others
    same_tables =
        same_unmapped root tables others same_roots (λ t u in_tables in_others same.
        same_table t u (ap (λ (n : Node). n.signal) same) (ap (λ (n : Node). n.advance) same) (same_leaves t u in_tables in_others same))
