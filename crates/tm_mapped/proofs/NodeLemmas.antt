-- The nodes of a mapped circuit by places: the inputs, the registers and the roots of the tables.
use Rattle.std.proofs.Common.{◌≡◌, ℕ, ◌+◌, ◌<◌, inl, inr, false, List, ◌++◌, map, length, Some, slice_get, refl, ◌∙◌, ap, subst, arith}
use Rattle.std.specs.Prelude.{Contains}
use Rattle.std.specs.List.{range_with_len}
use Rattle.std.proofs.lemmas.Option.{slice_get-get_or}
use Rattle.std.proofs.lemmas.List.FromFn.{length-map-range_with_len}
use Rattle.std.proofs.lemmas.List.Sums.{count_by-le-length}
use Rattle.tm_circuit.specs.Plain.{Plain, Drive, input, latch, gate, drive, is_input, input_count, latch_count}
use Rattle.tm_circuit.specs.Sound.{IsSound, IsPlaced}
use Rattle.tm_unroll.specs.declared.node.Node.{Node}
use Rattle.tm_unroll.specs.Nodes.{node_at}
use Rattle.tm_unroll.specs.Mappings.{Table, root}
use Rattle.tm_unroll.proofs.ListLemmas.{place-of}
use Rattle.tm_mapped.specs.Needed.{nodes_of}
use Rattle.tm_mapped.proofs.ListLemmas.{at-left, at-right, at-map, at-unmap, at-count, of-count}
use Rattle.tm_circuit.proofs.LayoutLemmas.{get-append-cases}

-- ---- inputs

-- The first signals of a sound circuit are its inputs.
pub is_input_at : (c : Plain) → IsSound c → (s : ℕ) → s < input_count c.drives → drive c s ≡ input
is_input_at c sound s low =
    let few = count_by-le-length is_input c.drives in
    by_place (drive c s) (sound.placed s (drive c s) (slice_get-get_or c.drives s (latch s false) (omega (arith, few, low))))
  where
    by_place : (d : Drive) → IsPlaced (input_count c.drives) (latch_count c.drives) s d → d ≡ input
    by_place input place = refl
    by_place (latch next init) place = absurd (let p = place.0 in omega (arith, p, low))
    by_place (gate pins cover) place = absurd (omega (arith, place, low))

-- An input of a sound circuit is one of its first signals.
pub input_below : (c : Plain) → IsSound c → (s : ℕ) → s < length c.drives → drive c s ≡ input → s < input_count c.drives
input_below c sound s within is =
    subst (λ d. IsPlaced (input_count c.drives) (latch_count c.drives) s d) is (sound.placed s (drive c s) (slice_get-get_or c.drives s (latch s false) within))

-- ---- places

-- What stands at a place: an input, a register or the root of a table.
pub data AtPlace (n : ℕ) (registers : List Node) (tables : List Table) (i : ℕ) (x : Node) : Type 0 where
  at_input : i < n → node_at 0 i ≡ x → AtPlace n registers tables i x
  at_register : (j : ℕ) → i ≡ n + j → slice_get registers j ≡ Some x → AtPlace n registers tables i x
  at_root : (j : ℕ) (t : Table) → i ≡ n + (length registers + j) → slice_get tables j ≡ Some t → root t ≡ x → AtPlace n registers tables i x

module _ (c : Plain) (registers : List Node) (tables : List Table) where
  ins_long : length (map (λ s. node_at 0 s) (range_with_len 0 (input_count c.drives))) ≡ input_count c.drives
  ins_long = length-map-range_with_len (λ s. node_at 0 s) 0 (input_count c.drives)

  pub node_cases : (i : ℕ) (x : Node) → slice_get (nodes_of c registers tables) i ≡ Some x → AtPlace (input_count c.drives) registers tables i x
  node_cases i x at =
      let long = ins_long in
      elim (get-append-cases (map (λ s. node_at 0 s) (range_with_len 0 (input_count c.drives))) (registers ++ map root tables) i x at) [
        | inl first ↦
            let (low, is) = of-count (λ s. node_at 0 s) 0 (input_count c.drives) i x first in
            let e : i ≡ 0 + i = omega arith in
            at_input low (ap (λ s. node_at 0 s) e ∙ is)
        | inr (j, is, later) ↦
            elim (get-append-cases registers (map root tables) j x later) [
              | inl register ↦ at_register j (omega (arith, is, long)) register
              | inr (k, there, last) ↦
                  let (t, stands, same) = at-unmap root tables k x last in
                  at_root k t (omega (arith, is, there, long)) stands same
            ]
      ]

  pub input_stands : (i : ℕ) → i < input_count c.drives → slice_get (nodes_of c registers tables) i ≡ Some (node_at 0 i)
  input_stands i low =
      let e : 0 + i ≡ i = omega arith in
      at-left (map (λ s. node_at 0 s) (range_with_len 0 (input_count c.drives))) (registers ++ map root tables) i (node_at 0 i)
      (at-count (λ s. node_at 0 s) 0 (input_count c.drives) i low ∙ ap (λ s. Some (node_at 0 s)) e)

  pub register_stands : (j : ℕ) (x : Node) → slice_get registers j ≡ Some x → slice_get (nodes_of c registers tables) (input_count c.drives + j) ≡ Some x
  register_stands j x at =
      subst (λ n. slice_get (nodes_of c registers tables) (n + j) ≡ Some x) ins_long
      (at-right (map (λ s. node_at 0 s) (range_with_len 0 (input_count c.drives))) (registers ++ map root tables) j x (at-left registers (map root tables) j x at))

  pub root_stands : (j : ℕ) (t : Table) → slice_get tables j ≡ Some t
      → slice_get (nodes_of c registers tables) (input_count c.drives + (length registers + j)) ≡ Some (root t)
  root_stands j t at =
      subst (λ n. slice_get (nodes_of c registers tables) (n + (length registers + j)) ≡ Some (root t)) ins_long
      (at-right (map (λ s. node_at 0 s) (range_with_len 0 (input_count c.drives))) (registers ++ map root tables) (length registers + j) (root t)
      (at-right registers (map root tables) j (root t) (at-map root tables j t at)))

  -- Each register and each root has a place.
  pub register_place : (x : Node) → Contains registers x → (i : ℕ) × (slice_get (nodes_of c registers tables) i ≡ Some x)
  register_place x stands = let (j, at) = place-of registers x stands in (input_count c.drives + j, register_stands j x at)

  pub root_place : (t : Table) → Contains tables t → (i : ℕ) × (slice_get (nodes_of c registers tables) i ≡ Some (root t))
  root_place t stands = let (j, at) = place-of tables t stands in (input_count c.drives + (length registers + j), root_stands j t at)
