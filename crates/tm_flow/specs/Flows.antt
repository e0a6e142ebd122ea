-- Flows as lists of walks, and walks as lists of edges.
use Rattle.std.specs.Prelude.{◌≡◌, ℕ, ◌+◌, ◌<◌, ◌≤◌, ◌⊎◌, Bool, true, cond, List, [], ◌∷◌, ◌++◌, map}
use Rattle.tm_flow.specs.Lists.{Has, Each, At}
use Rattle.tm_flow.specs.Nets.{Shape}
use Rattle.tm_flow.specs.declared.flow.Edge.{Edge}

module _ {T : Type 0} where
  -- the edges lead from x, one after another, to an end
  abbrev pub Leads : Shape T → T → List (Edge T) → Type 0
  Leads n x [] = n.is_end x ≡ true
  Leads n x (e ∷ es) = (e.from ≡ x) × (e.index < n.reads x) × (e.to ≡ n.read x e.index) × Leads n e.to es

  -- each of the walks leads from some node to an end
  abbrev pub AreWalks : Shape T → List (List (Edge T)) → Type 0
  AreWalks n ws = Each (λ w. (x : T) × Leads n x w) ws

  -- the edges that the indices lead along from x
  abbrev pub edges_along : Shape T → T → List ℕ → List (Edge T)
  edges_along n x [] = []
  edges_along n x (i ∷ is) = record { from = x; index = i; to = n.read x i } ∷ edges_along n (n.read x i) is

  -- the indices of the edges
  abbrev pub indices_of : List (Edge T) → List ℕ
  indices_of w = map (λ e. e.index) w

  -- one of the walks has the edge
  abbrev pub InFlow : List (List (Edge T)) → Edge T → Type 0
  InFlow [] e = ⊥
  InFlow (w ∷ ws) e = Has w e ⊎ InFlow ws e

  -- how many edges of the walk come to v
  abbrev pub hits : (T → T → Bool) → T → List (Edge T) → ℕ
  hits eq v [] = 0
  hits eq v (e ∷ es) = cond (eq e.to v) 1 0 + hits eq v es

  -- how many edges of the walks come to v
  abbrev pub all_hits : (T → T → Bool) → T → List (List (Edge T)) → ℕ
  all_hits eq v [] = 0
  all_hits eq v (w ∷ ws) = hits eq v w + all_hits eq v ws

  -- the edges of the walk that come to v
  abbrev pub edges_to : (T → T → Bool) → T → List (Edge T) → List (Edge T)
  edges_to eq v [] = []
  edges_to eq v (e ∷ es) = cond (eq e.to v) (e ∷ edges_to eq v es) (edges_to eq v es)

  -- the edges of the walks that come to v
  abbrev pub all_edges_to : (T → T → Bool) → T → List (List (Edge T)) → List (Edge T)
  all_edges_to eq v [] = []
  all_edges_to eq v (w ∷ ws) = edges_to eq v w ++ all_edges_to eq v ws

  -- walks from the root to ends that come at most once to each node that may be cut
  pub record IsFlow (n : Shape T) (eq : T → T → Bool) (root : T) (ws : List (List (Edge T))) : Type 0 where
    pub walks : Each (Leads n root) ws
    pub room : (v : T) → n.may_cut v ≡ true → all_hits eq v ws ≤ 1

  -- the edge has the place on the walk with the number
  abbrev pub IsOnWalk : List (List (Edge T)) → ℕ → ℕ → Edge T → Type 0
  IsOnWalk ws which place e = (w : List (Edge T)) × At ws which w × At w place e

  abbrev pub BeginsWith : Edge T → List (Edge T) → Type 0
  BeginsWith e t = (after : List (Edge T)) × (t ≡ e ∷ after)

  -- a walk has the edge: its part after it is in hand afterwards, and the walk goes on as the one in hand did
  abbrev pub Exchanges : Edge T → List (List (Edge T)) → List (Edge T) → List (List (Edge T)) → List (Edge T) → Type 0
  Exchanges e ws t ws' t' =
      (before after : List (List (Edge T))) × (front : List (Edge T)) × (ws ≡ before ++ (front ++ e ∷ t') ∷ after) × (ws' ≡ before ++ (front ++ t) ∷ after)

  -- the edge goes out of the walks and the walk in hand: it is the first edge in hand, or it stands on a walk
  abbrev pub TakesBack : Edge T → List (List (Edge T)) → List (Edge T) → List (List (Edge T)) → List (Edge T) → Type 0
  TakesBack e ws t ws' t' = ((t ≡ e ∷ t') × (ws' ≡ ws)) ⊎ Exchanges e ws t ws' t'
