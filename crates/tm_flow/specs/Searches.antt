-- Searches over the sides of nodes: which steps there are, what a search knows of the sides that it has met, and the way it stands on.
use Rattle.std.specs.Prelude.{◌≡◌, ℕ, ◌+◌, ◌-◌, ◌<◌, ◌⊎◌, Bool, true, false, cond, List, [], ◌∷◌, ◌++◌, length, Option, Some, None, option_to_list, position, slice_index_or}
use Rattle.std.specs.List.{sum_by}
use Rattle.tm_flow.specs.Lists.{Has, Each, AreApart, At}
use Rattle.tm_flow.specs.Nets.{Shape, Reaches}
use Rattle.tm_flow.specs.Flows.{InFlow, BeginsWith, TakesBack, IsFlow, all_edges_to}
use Rattle.tm_flow.specs.declared.flow.Edge.{Edge}
use Rattle.tm_flow.specs.declared.search.Marks.{Marks}
use Rattle.tm_flow.specs.declared.search.Search.{Search}
use Rattle.tm_flow.specs.declared.search.Searched.{Searched}
use Rattle.tm_flow.specs.declared.search.Searched.TheVariants.{Walk, Nowhere}
use Rattle.tm_flow.specs.declared.search.Side.{Side}
use Rattle.tm_flow.specs.declared.search.Step.{Step}
use Rattle.tm_flow.specs.declared.search.Step.TheVariants.{Read, Cross, Return, Back}
use Rattle.tm_flow.specs.declared.search.Taken.{Taken}
use Rattle.tm_flow.specs.declared.search.Waiting.{Waiting}

-- the mark of one side
abbrev pub mark_of : Marks → Bool → Bool
mark_of m true = m.far
mark_of m false = m.near

-- the marks with that of one side set
abbrev pub with_mark : Marks → Bool → Marks
with_mark m true = record { near = m.near; far = true; used = m.used }
with_mark m false = record { near = true; far = m.far; used = m.used }

abbrev pub no_marks : Marks
no_marks = record { near = false; far = false; used = false }

-- the marks with neither side met
abbrev pub unmet : Marks → Marks
unmet m = record { near = false; far = false; used = m.used }

-- the marks of a node that a walk comes to
abbrev pub with_use : Marks → Marks
with_use m = record { near = m.near; far = m.far; used = true }

-- how many sides of a node have been met
abbrev pub marks_in : Marks → ℕ
marks_in m = cond m.near 1 0 + cond m.far 1 0

-- how many sides have been met
abbrev pub count_of : List Marks → ℕ
count_of ms = sum_by marks_in ms

-- the mark of the far side under a number, if there is one
abbrev pub far_under : List Marks → Option ℕ → Bool
far_under marks None = false
far_under marks (Some i) = (slice_index_or marks i no_marks).far

module _ {T : Type 0} where
  abbrev pub near : T → Side T
  near v = record { node = v; is_far = false }

  abbrev pub far : T → Side T
  far v = record { node = v; is_far = true }

  -- the sides of a way
  abbrev pub sides : List (Taken T) → List (Side T)
  sides [] = []
  sides (t ∷ ts) = t.side ∷ sides ts

  -- the sides whose steps are still to be taken
  abbrev pub sides_waiting : List (Waiting T) → List (Side T)
  sides_waiting [] = []
  sides_waiting (w ∷ ws) = w.side ∷ sides_waiting ws

  -- the step reads from v, to the near side of what v reads
  abbrev pub IsRead : Shape T → T → Step → Side T → Type 0
  IsRead n v (Read i) q = (i < n.reads v) × (q ≡ near (n.read v i))
  IsRead n v _ q = ⊥

  -- what the node reads at the indices below the count, in order
  pub record AreFirstReads (n : Shape T) (v : T) (count : ℕ) (reads : List T) : Type 0 where
    pub len : length reads ≡ count
    pub each : (i : ℕ) (u : T) → At reads i u → u ≡ n.read v i

  -- the step takes one of these reads, to the near side of what is read
  abbrev pub IsAlong : List T → Step → Side T → Type 0
  IsAlong reads (Read i) q = (u : T) × At reads i u × (q ≡ near u)
  IsAlong reads _ q = ⊥

  -- the step goes back over one of the edges, to the far side of the node that it comes from
  abbrev pub IsBack : List (Edge T) → Step → Side T → Type 0
  IsBack edges (Back i) q = (e : Edge T) × Has edges e × (e.index ≡ i) × (q ≡ far e.from)
  IsBack edges _ q = ⊥

  -- the step leads from the first side to the second, where these edges of the flow come to the node of the first
  abbrev pub IsStep : Shape T → List (Edge T) → Side T → Step → Side T → Type 0
  IsStep n edges p (Read i) q = (p.is_far ≡ true) × IsRead n p.node (Read i) q
  IsStep n edges p Cross q = (p.is_far ≡ false) × (q ≡ far p.node) × ((n.may_cut p.node ≡ false) ⊎ (edges ≡ []))
  IsStep n edges p Return q = (p.is_far ≡ true) × (q ≡ near p.node)
  IsStep n edges p (Back i) q = (p.is_far ≡ false) × IsBack edges (Back i) q

  -- each side that a step leads to from p has been met
  abbrev pub Follows : Shape T → List (Edge T) → (Side T → Type 0) → Side T → Type 0
  Follows n edges Met p = (step : Step) (q : Side T) → IsStep n edges p step q → Met q

  -- the far side of an end
  abbrev pub IsGoal : Shape T → Side T → Type 0
  IsGoal n p = (p.is_far ≡ true) × (n.is_end p.node ≡ true)

  -- steps lead from the far side of the root from side to side, and come to none twice; `into` gives the edges of the
  -- flow that come to a node
  pub record IsWay (n : Shape T) (into : T → List (Edge T)) (root : T) (ts : List (Taken T)) : Type 0 where
    pub first : At (sides ts) 0 (far root)
    pub came : (j : ℕ) (t : Taken T) → At ts j t → 0 < j → (p : Side T) × At (sides ts) (j - 1) p × IsStep n (into p.node) p t.step t.side
    pub apart : AreApart (sides ts)

  -- the way comes to the far side of an end
  abbrev pub EndsAt : Shape T → List (Taken T) → Type 0
  EndsAt n ts = (p : Side T) × At (sides ts) (length ts - 1) p × IsGoal n p

  -- the nodes are numbered by their places, and each has its marks
  pub record IsNumbered (nodes : List T) (marks : List Marks) : Type 0 where
    pub apart : AreApart nodes
    pub even : length marks ≡ length nodes

  -- the side has been met: its mark is set, under the number of its node
  abbrev pub IsMarked : List T → List Marks → Side T → Type 0
  IsMarked nodes marks p = (i : ℕ) × (m : Marks) × At nodes i p.node × At marks i m × (mark_of m p.is_far ≡ true)

  -- the node has a number, and is marked as one that walks may come to
  abbrev pub IsUsed : List T → List Marks → T → Type 0
  IsUsed nodes marks v = (i : ℕ) × (m : Marks) × At nodes i v × At marks i m × (m.used ≡ true)

  -- what is known when a search of the root begins: the nodes that have numbers are reached from the root, and those of
  -- the walks are among them and marked
  pub record IsKnown (n : Shape T) (root : T) (ws : List (List (Edge T))) (nodes : List T) (marks : List Marks) : Type 0 where
    pub numbered : IsNumbered nodes marks
    pub reached : Each (Reaches n root) nodes
    pub used : (e : Edge T) → InFlow ws e → IsUsed nodes marks e.to

  -- the nodes with the property are used now, and have numbers
  pub record Uses (P : T → Type 0) (nodes : List T) (marks : List Marks) (nodes' : List T) (marks' : List Marks) : Type 0 where
    pub numbered : IsNumbered nodes' marks'
    pub named : (u : T) → Has nodes' u → Has nodes u ⊎ P u
    pub stays : (u : T) → IsUsed nodes marks u → IsUsed nodes' marks' u
    pub used : (u : T) → P u → IsUsed nodes' marks' u

  -- v has the number, the one that it had or the next one, and no mark has changed
  pub record Names (v : T) (number : ℕ) (nodes : List T) (marks : List Marks) (nodes' : List T) (marks' : List Marks) : Type 0 where
    pub numbered : IsNumbered nodes' marks'
    pub here : At nodes' number v
    pub longer : (i : ℕ) (u : T) → At nodes i u → At nodes' i u
    pub named : (u : T) → Has nodes' u → Has nodes u ⊎ (v ≡ u)
    pub stays : (p : Side T) → IsMarked nodes marks p → IsMarked nodes' marks' p
    pub only : (p : Side T) → IsMarked nodes' marks' p → IsMarked nodes marks p
    pub used : (u : T) → IsUsed nodes marks u → IsUsed nodes' marks' u
    pub count : count_of marks' ≡ count_of marks

  -- a side that waits: it was met by such a step from the side at that depth of the way, and not before
  pub record IsNew (P : Side T → Step → Type 0) (at : ℕ) (nodes : List T) (marks : List Marks) (nodes' : List T) (marks' : List Marks) (w : Waiting T) : Type 0 where
    pub step : P w.side w.step
    pub depth : w.depth ≡ at
    pub number : At nodes' w.number w.side.node
    pub marked : IsMarked nodes' marks' w.side
    pub fresh : IsMarked nodes marks w.side → ⊥

  -- sides with the property were met, none of them before, and wait
  pub record Meets (P : Side T → Step → Type 0) (depth : ℕ) (nodes : List T) (marks : List Marks) (waiting : List (Waiting T))
      (nodes' : List T) (marks' : List Marks) (waiting' : List (Waiting T)) : Type 0 where
    pub numbered : IsNumbered nodes' marks'
    pub added : List (Waiting T)
    pub opened : waiting' ≡ waiting ++ added
    pub each : Each (IsNew P depth nodes marks nodes' marks') added
    pub grown : (p : Side T) → IsMarked nodes' marks' p → IsMarked nodes marks p ⊎ Has (sides_waiting added) p
    pub stays : (p : Side T) → IsMarked nodes marks p → IsMarked nodes' marks' p
    pub used : (u : T) → IsUsed nodes marks u → IsUsed nodes' marks' u
    pub longer : (i : ℕ) (u : T) → At nodes i u → At nodes' i u
    pub named : (u : T) → Has nodes' u → Has nodes u ⊎ ((s : Side T) × (step : Step) × P s step × (s.node ≡ u))
    pub count : count_of marks' ≡ count_of marks + length added

  -- the same of a search under way
  abbrev pub Grows : (Side T → Step → Type 0) → ℕ → Search T → Search T → Type 0
  Grows P depth old new =
      Meets P depth old.met.nodes.keys old.met.marks.items old.pending.items new.met.nodes.keys new.met.marks.items new.pending.items

  -- the same, where the side that was met last may be in hand and not wait
  abbrev pub GrowsTo : (Side T → Step → Type 0) → ℕ → Search T → Search T → Option (Waiting T) → Type 0
  GrowsTo P depth old new hand =
      Meets P depth old.met.nodes.keys old.met.marks.items old.pending.items new.met.nodes.keys new.met.marks.items (new.pending.items ++ option_to_list hand)

  -- no step leads out of the sides that have been met, and none of them is the far side of an end
  abbrev pub IsSearchedOut : Shape T → (T → List (Edge T)) → (Side T → Type 0) → Type 0
  IsSearchedOut n into Met = (p : Side T) → Met p → Follows n (into p.node) Met p × (IsGoal n p → ⊥)

  -- the far side of the root was met, and each side that a step leads to from one that was met; no end is among them
  pub record IsExhausted (n : Shape T) (into : T → List (Edge T)) (root : T) (nodes : List T) (marks : List Marks) : Type 0 where
    pub numbered : IsNumbered nodes marks
    pub start : IsMarked nodes marks (far root)
    pub out : IsSearchedOut n into (IsMarked nodes marks)

  -- a way to the far side of an end, or all that can be met and no end among it
  abbrev pub IsOutcome : Shape T → (T → List (Edge T)) → T → List T → List Marks → List (Taken T) → Searched → Type 0
  IsOutcome n into root nodes marks way Walk = IsWay n into root way × EndsAt n way
  IsOutcome n into root nodes marks way Nowhere = IsExhausted n into root nodes marks

  -- the step from p to q can be undone where the edge that it went back over is the first one in hand, or on a walk
  abbrev pub CanUndo : Side T → Step → Side T → List (List (Edge T)) → List (Edge T) → Type 0
  CanUndo p (Back i) q ws t =
      let e : Edge T = record { from = q.node; index = i; to = p.node } in BeginsWith e t ⊎ InFlow ws e
  CanUndo p _ q ws t = Unit {0}

  -- what undoing the step from p to q makes of the walks and of the walk in hand, which leads from q before and from p after
  abbrev pub IsUndone : Side T → Step → Side T → List (List (Edge T)) → List (Edge T) → List (List (Edge T)) → List (Edge T) → Type 0
  IsUndone p (Read i) q ws t ws' t' = (ws' ≡ ws) × (t' ≡ record { from = p.node; index = i; to = q.node } ∷ t)
  IsUndone p Cross q ws t ws' t' = (ws' ≡ ws) × (t' ≡ t)
  IsUndone p Return q ws t ws' t' = (ws' ≡ ws) × (t' ≡ t)
  IsUndone p (Back i) q ws t ws' t' = TakesBack (record { from = q.node; index = i; to = p.node }) ws t ws' t'

  -- the search that found an end went over the flow as it is
  pub record CanGrow (n : Shape T) (eq : T → T → Bool) (root : T) (ws : List (List (Edge T))) (ts : List (Taken T)) : Type 0 where
    pub flow : IsFlow n eq root ws
    pub way : IsWay n (λ v. all_edges_to eq v ws) root ts
    pub ends : EndsAt n ts

  -- whether the far side of the node has been met
  abbrev pub is_far_met : (T → T → Bool) → List T → List Marks → T → Bool
  is_far_met eq nodes marks v = far_under marks (position (eq v) nodes)

  -- the first node of the walk whose far side has not been met
  abbrev pub first_unmet : (T → Bool) → List (Edge T) → Option T
  first_unmet met [] = None
  first_unmet met (e ∷ w) = cond (met e.to) (first_unmet met w) (Some e.to)

  -- these nodes of the walks, one for each walk that has one
  abbrev pub all_first_unmet : (T → Bool) → List (List (Edge T)) → List T
  all_first_unmet met [] = []
  all_first_unmet met (w ∷ ws) = option_to_list (first_unmet met w) ++ all_first_unmet met ws
