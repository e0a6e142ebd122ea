-- Two-way mappings have the periods of the mappings over a base, and so the same least one.
use Rattle.std.proofs.Common.{◌≡◌, ℕ, ◌+◌, List, [], ◌∷◌, map, length, refl, sym, ◌∙◌, ap, subst, arith}
use Rattle.std.proofs.lemmas.List.{length-map}
use Rattle.tm_circuit.specs.Plain.{Plain}
use Rattle.tm_circuit.proofs.ListLemmas.{contains-map, contains-unmap}
use Rattle.tm_unroll.specs.Mappings as one
use Rattle.tm_unroll.specs.Mappings.{Table}
use Rattle.tm_unroll.specs.Chains as one_chain
use Rattle.tm_unroll.specs.Latches.{need_of}
use Rattle.tm_search.specs.Optimal.{IsLeastPeriodFrom, IsLeastPeriodOf}
use Rattle.two_way.specs.Mappings.{TwoTable, IsTwoWay}
use Rattle.two_way.specs.Chains as two_chain
use Rattle.two_way.specs.Amounts.{two_node, two_table}
use Rattle.two_way.specs.Least.{IsTwoWayLeast}
use Rattle.two_way.proofs.MapLemmas.{contains_up}
use Rattle.two_way.proofs.WalkLemmas.{same_node}
use Rattle.two_way.proofs.MappingLemmas.{mapping_two, mapping_up, mapping_raised}

module _ (back : ℕ) (tables : List Table) where
  leaf_of_first_two : (t : Table) (rest : List Table) → one_chain.IsLeafOfFirst t rest
      → two_chain.IsLeafOfFirst (two_table back t) (map (two_table back) rest)
  leaf_of_first_two t [] leaf = tt
  leaf_of_first_two t (u ∷ rest) leaf = contains-map (two_node back) u.leaves (one.root t) leaf

  leaf_of_first_up : (t : Table) (rest : List Table) → two_chain.IsLeafOfFirst (two_table back t) (map (two_table back) rest)
      → one_chain.IsLeafOfFirst t rest
  leaf_of_first_up t [] leaf = tt
  leaf_of_first_up t (u ∷ rest) leaf = contains_up (two_node back) (same_node back) u.leaves (one.root t) leaf

  chain_two : (chain : List Table) → one_chain.IsChain tables chain → two_chain.IsChain (map (two_table back) tables) (map (two_table back) chain)
  chain_two [] is = tt
  chain_two (t ∷ rest) is = (contains-map (two_table back) tables t is.0, leaf_of_first_two t rest is.1, chain_two rest is.2)

  chain_up : (chain : List TwoTable) → two_chain.IsChain (map (two_table back) tables) chain
      → (raised : List Table) × one_chain.IsChain tables raised × (chain ≡ map (two_table back) raised)
  chain_up [] is = ([], tt, refl)
  chain_up (v ∷ rest) is =
      let (t, among, same) = contains-unmap (two_table back) tables v is.0 in
      let (raised, further, are) = chain_up rest is.2 in
      let first = subst (λ (ts : List TwoTable). two_chain.IsLeafOfFirst v ts) are is.1 in
      let leaf = subst (λ (u : TwoTable). two_chain.IsLeafOfFirst u (map (two_table back) raised)) (sym same) first in
      (t ∷ raised, (among, leaf_of_first_up t raised leaf, further), cc)

  pub period_two : (p : ℕ) → one_chain.IsPeriodOf tables p → two_chain.IsPeriodOf (map (two_table back) tables) p
  period_two p is = record {
    reached = let (chain, of, long) = is.reached in (map (two_table back) chain, chain_two chain of, length-map chain (two_table back) ∙ long);
    greatest = λ chain of.
        let (raised, is_chain, are) = chain_up chain of in
        let long = ap (λ (ts : List TwoTable). length ts) are ∙ length-map raised (two_table back) in
        let most = is.greatest raised is_chain in
        omega (arith, long, most);
  }

  period_up : (p : ℕ) → two_chain.IsPeriodOf (map (two_table back) tables) p → one_chain.IsPeriodOf tables p
  period_up p is = record {
    reached =
        let (chain, of, long) = is.reached in
        let (raised, is_chain, are) = chain_up chain of in
        (raised, is_chain, sym (ap (λ (ts : List TwoTable). length ts) are ∙ length-map raised (two_table back)) ∙ long);
    greatest = λ chain of.
        let most = is.greatest (map (two_table back) chain) (chain_two chain of) in
        let long = length-map chain (two_table back) in
        omega (arith, long, most);
  }

module _ (c : Plain) (k d back p : ℕ) where
  pub least_two : IsLeastPeriodFrom back (need_of back c) c k (d + back) p → IsTwoWayLeast c k d back p
  least_two is = record {
    some =
        let (tables, lawful, period) = is.some in
        (map (two_table back) tables, mapping_two back c k d tables lawful, period_two back tables p period);
    none_smaller = λ tables q lawful period.
        let (raised, are) = mapping_raised c k d back tables lawful in
        is.none_smaller raised q (mapping_up back c k d raised (subst (λ (ts : List TwoTable). IsTwoWay c k d back ts) are lawful))
        (period_up back raised q (subst (λ (ts : List TwoTable). two_chain.IsPeriodOf ts q) are period));
  }

  pub least_up : IsTwoWayLeast c k d back p → IsLeastPeriodFrom back (need_of back c) c k (d + back) p
  least_up is = record {
    some =
        let (tables, lawful, period) = is.some in
        let (raised, are) = mapping_raised c k d back tables lawful in (
          raised,
          mapping_up back c k d raised (subst (λ (ts : List TwoTable). IsTwoWay c k d back ts) are lawful),
          period_up back raised p (subst (λ (ts : List TwoTable). two_chain.IsPeriodOf ts p) are period),
        );
    none_smaller = λ tables q lawful period.
        is.none_smaller (map (two_table back) tables) q (mapping_two back c k d tables lawful) (period_two back tables q period);
  }

-- Where registers do not move backward, that is the least period of the mappings that move them forward alone.
module _ (c : Plain) (k d p : ℕ) where
  pub forward_least : IsTwoWayLeast c k d 0 p → IsLeastPeriodOf c k d p
  forward_least is = let same : d + 0 ≡ d = omega arith in subst (λ n. IsLeastPeriodFrom 0 (need_of 0 c) c k n p) same (least_up c k d 0 p is)

  pub forward_least_two : IsLeastPeriodOf c k d p → IsTwoWayLeast c k d 0 p
  forward_least_two is = let same : d ≡ d + 0 = omega arith in least_two c k d 0 p (subst (λ n. IsLeastPeriodFrom 0 (need_of 0 c) c k n p) same is)
