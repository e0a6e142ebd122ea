-- Along a chain of a lawful mapping the roots rise, so that no table is met twice.
use Rattle.std.proofs.Common.{ℕ, zero, suc, ◌<◌, List, [], ◌∷◌, length, ap, arith}
use Rattle.std.specs.Prelude.{Contains, AllPairs, slice_index_or}
use Rattle.std.proofs.lemmas.List.Kept.{AllPairs-cons}
use Rattle.tm_circuit.specs.Plain.{Plain}
use Rattle.tm_circuit.specs.Sound.{IsSound}
use Rattle.tm_unroll.specs.Mappings.{Table, root, IsLawfulFrom}
use Rattle.tm_unroll.specs.Chains.{IsChain}
use Rattle.tm_unroll.specs.Falls.{height, HasNoRepeats}
use Rattle.tm_unroll.proofs.ReadLemmas.{reached_falls}

-- The root of a table is higher than each leaf.
pub leaf_lower : (base : ℕ) (need : ℕ → ℕ) (c : Plain) (k d : ℕ) (tables : List Table) → IsSound c → IsLawfulFrom base need c k d tables
    → (t u : Table) → Contains tables u → Contains u.leaves (root t) → height c (root t) < height c (root u)
leaf_lower base need c k d tables sound lawful t u is leaf =
    let reached = (lawful.each u is).covers.reached (root t) leaf in
    reached_falls c sound (root u) (root t) reached.0 reached.1

-- The roots of a chain rise.
chain_rises : (base : ℕ) (need : ℕ → ℕ) (c : Plain) (k d : ℕ) (tables : List Table) → IsSound c → IsLawfulFrom base need c k d tables
    → (t : Table) (rest : List Table) → IsChain tables (t ∷ rest)
    → (i : ℕ) (e : Table) → i < length rest → height c (root t) < height c (root (slice_index_or rest i e))
chain_rises base need c k d tables sound lawful t [] chain i e inside = absurd (omega arith)
chain_rises base need c k d tables sound lawful t (u ∷ rest) chain zero e inside =
    leaf_lower base need c k d tables sound lawful t u chain.2.0 chain.1
chain_rises base need c k d tables sound lawful t (u ∷ rest) chain (suc i) e inside =
    let first = leaf_lower base need c k d tables sound lawful t u chain.2.0 chain.1 in
    let ih = chain_rises base need c k d tables sound lawful u rest chain.2 i e (omega arith) in
    omega (arith, first, ih)

chain_rest : (tables : List Table) (t : Table) (rest : List Table) → IsChain tables (t ∷ rest) → IsChain tables rest
chain_rest tables t rest chain = chain.2

all_rise : (base : ℕ) (need : ℕ → ℕ) (c : Plain) (k d : ℕ) (tables : List Table) → IsSound c → IsLawfulFrom base need c k d tables
    → (chain : List Table) → IsChain tables chain → AllPairs (λ t u. height c (root t) < height c (root u)) chain
all_rise base need c k d tables sound lawful [] chain = λ i j e before inside. absurd (omega arith)
all_rise base need c k d tables sound lawful (t ∷ rest) chain =
    AllPairs-cons (λ t u. height c (root t) < height c (root u)) t rest (chain_rises base need c k d tables sound lawful t rest chain) (all_rise base need c k d tables sound lawful rest (chain_rest tables t rest chain))

pub no_repeats : (base : ℕ) (need : ℕ → ℕ) (c : Plain) (k d : ℕ) (tables : List Table) → IsSound c → IsLawfulFrom base need c k d tables → HasNoRepeats tables
no_repeats base need c k d tables sound lawful chain is i j e before inside same =
    let rises = all_rise base need c k d tables sound lawful chain is i j e before inside in
    let level = ap (λ (t : Table). height c (root t)) same in
    omega (arith, rises, level)
