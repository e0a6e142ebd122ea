-- The parts of a search put together: what is said of the edges that a map has is said of the edges of the walks.
use Rattle.std.proofs.Common.{◌≡◌, ℕ, ◌≤◌, Bool, true, List, length, subst, sym, arith}
use Rattle.tm_flow.specs.Nets.{Shape}
use Rattle.tm_flow.specs.Cuts.{IsCut}
use Rattle.tm_flow.specs.Flows.{IsFlow, all_edges_to}
use Rattle.tm_flow.specs.Searches.{IsWay, IsExhausted, IsMarked, EndsAt, CanGrow, is_far_met, all_first_unmet}
use Rattle.tm_flow.specs.declared.flow.Edge.{Edge}
use Rattle.tm_flow.specs.declared.search.Marks.{Marks}
use Rattle.tm_flow.specs.declared.search.Taken.{Taken}
use Rattle.tm_flow.proofs.KeyLemmas.{met_if, unmet_if}
use Rattle.tm_flow.proofs.Cover.{cut}

module _ {T : Type 0} (n : Shape T) (eq : T → T → Bool) (root : T) (ws : List (List (Edge T))) where
  -- a way to an end can make the flow grow
  pub can_grow : (ts : List (Taken T)) → IsFlow n eq root ws → IsWay n (λ v. all_edges_to eq v ws) root ts × EndsAt n ts → CanGrow n eq root ws ts
  can_grow ts flow found = record { flow = flow; way = found.0; ends = found.1 }

  -- a search that met no end cuts
  pub cuts : (same : (x y : T) → eq x y ≡ true → x ≡ y) (self : (x : T) → eq x x ≡ true) (numbered : List T) (marks : List Marks) (k : ℕ) (nodes : List T)
      → IsFlow n eq root ws → IsExhausted n (λ v. all_edges_to eq v ws) root numbered marks → length ws ≡ k
      → nodes ≡ all_first_unmet (is_far_met eq numbered marks) ws → IsCut n root k nodes
  cuts same self numbered marks k nodes flow s many firsts =
      subst (IsCut n root k) (sym firsts)
      (subst (λ m. IsCut n root m (all_first_unmet (is_far_met eq numbered marks) ws)) many
      (cut n eq same self root ws flow (IsMarked numbered marks) (is_far_met eq numbered marks)
      (met_if eq same self numbered marks s.numbered) (unmet_if eq same self numbered marks s.numbered) s.start s.out))

module _ {T : Type 0} (n : Shape T) where
  -- a cut of at most a smaller number of nodes
  pub cut_within : (root : T) (k m : ℕ) (nodes : List T) → m ≤ k → IsCut n root m nodes → IsCut n root k nodes
  cut_within root k m nodes le c = record {
    few = let a = c.few in omega arith;
    apart = c.apart;
    may_be_cut = c.may_be_cut;
    reached = c.reached;
    covers = c.covers;
  }
