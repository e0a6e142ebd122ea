-- The nets of the tests as contracts see them, with their laws.
use Rattle.std.specs.Prelude.{◌≡◌, ℕ, ◌+◌, ◌-◌, ◌*◌, ◌^◌, ◌<◌, Bool, true, false, ◌&&◌, ◌==◌, min, nat_lt, nat_le, slice_index, slice_index_or, List, [], if◌then◌else◌}
use Rattle.std.proofs.Common.{arith, eqb-true}
use Rattle.std.proofs.lemmas.Grind.{common_steps}
use Rattle.tm_flow.specs.Nets.{Shape}

module _ (last : ℕ) (counts : List ℕ) (targets : List (List ℕ)) (ends cuts : List Bool) where
  abbrev pub is_small : ℕ → Bool
  is_small x = nat_le 1 x && nat_le x (min last 15)

  abbrev pub small : Shape ℕ
  small = record {
    reads = λ x. if is_small x then min (slice_index counts x) 3 else 0;
    read = λ x i. min (slice_index (slice_index_or targets x []) i) (x - 1);
    is_end = λ x. is_small x && (slice_index counts x == 0) && slice_index_or ends x false;
    may_cut = λ x. is_small x && slice_index_or cuts x false;
    rank = λ x. if is_small x then x else 0;
    bound = last + 1;
  }

  pub small_falls : (x i : ℕ) → i < small.reads x → small.rank (small.read x i) < small.rank x
  small_falls x i h = grind (arith, common_steps)

  pub small_below : (x : ℕ) → small.rank x < small.bound
  small_below x = grind (arith, common_steps)

  pub small_ends : (x : ℕ) → small.is_end x ≡ true → small.reads x ≡ 0
  small_ends x h = grind (arith, common_steps)

-- the complete binary tree of 2 ^ 41 - 1 nodes, in which node n reads 2 n and 2 n + 1
abbrev pub is_inner : ℕ → Bool
is_inner x = nat_le 1 x && nat_lt x (2 ^ 40)

abbrev pub tree : Shape ℕ
tree = record {
  reads = λ x. if is_inner x then 2 else 0;
  read = λ x i. 2 * x + i;
  is_end = λ x. nat_le (2 ^ 40) x && nat_lt x (2 ^ 41);
  may_cut = λ x. nat_le 2 x && nat_le x 3;
  rank = λ x. if nat_le 1 x && nat_lt x (2 ^ 41) then 2 ^ 41 - x else 0;
  bound = 2 ^ 41;
}

pub tree_falls : (x i : ℕ) → i < tree.reads x → tree.rank (tree.read x i) < tree.rank x
tree_falls x i h = grind (arith, common_steps)

pub tree_below : (x : ℕ) → tree.rank x < tree.bound
tree_below x = grind (arith, common_steps)

pub tree_ends : (x : ℕ) → tree.is_end x ≡ true → tree.reads x ≡ 0
tree_ends x h = grind (arith, common_steps)

pub same_number : (x y : ℕ) → (x == y) ≡ true → x ≡ y
same_number x y h = eqb-true x y h
