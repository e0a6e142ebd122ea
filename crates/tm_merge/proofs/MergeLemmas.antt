-- How a merge goes on: nodes are taken in one by one, and each one that is replaced leaves a cover.
use Rattle.std.proofs.Common.{◌≡◌, ℕ, zero, suc, ◌+◌, ◌-◌, ◌<◌, ◌≤◌, ◌⊎◌, inl, inr, Bool, true, false, List, [], ◌∷◌, ◌++◌, length, map, get_or, take, refl, sym, ◌∙◌, ap, subst, arith}
use Rattle.std.specs.Prelude.{Contains, Result, Ok, Err, IfOk}
use Rattle.std.proofs.lemmas.List.{take_more, map-append}
use Rattle.std.proofs.lemmas.List.Elements.{Contains-push_cases, Contains-append_left, Contains-append_right, Contains-append_cases}
use Rattle.tm_circuit.specs.declared.parts.Driver.{Driver}
use Rattle.tm_circuit.specs.declared.parts.Driver.TheVariants.{Input, Latch, Gate}
use Rattle.tm_circuit.specs.declared.parts.Signal.{Signal}
use Rattle.tm_circuit.specs.Plain.{Drive, input, latch, gate, drive_of, drive_in, pins_of, is_gate, is_latch}
use Rattle.tm_circuit.specs.Chain.{IsGate}
use Rattle.tm_circuit.proofs.ListLemmas.{contains-first, contains-cases, contains-none, contains-map, contains-unmap}
use Rattle.tm_unroll.specs.declared.node.Node.{Node}
use Rattle.tm_unroll.specs.Nodes.{node_at, reads_of, reads, is_end_of}
use Rattle.tm_unroll.specs.Walks.{IsReached, Covers}
use Rattle.tm_unroll.specs.Latches.{behind_of, behind_latches}
use Rattle.tm_unroll.specs.Replaced.{Joins}
use Rattle.tm_unroll.proofs.ReadLemmas.{same_node}
use Rattle.tm_unroll.proofs.ReplaceLemmas.{reads_cover, each_replaced}
use Rattle.tm_unroll.proofs.BehindLemmas.{behind_covers}
use Rattle.tm_merge.specs.declared.cuts.Moment.{Moment}
use Rattle.tm_merge.specs.declared.cuts.Merging.{Merging}
use Rattle.tm_merge.specs.Cuts.{cut_in}
use Rattle.tm_merge.specs.Merges.{in_time, cuts_of, KeepsCovers, AreLeaves, HasOneMore, Holds, TakesIn, IsKeptFor, IsMerged}

-- What holds of an answer where another fact does.
pub if_ok : {T E : Type 0} (P Q : T → Type 0) (r : Result T E) → ((x : T) → P x → Q x) → IfOk r P → IfOk r Q
if_ok P Q (Ok x) f h = f x h
if_ok P Q (Err e) f h = h

-- A latch with advance to spend leads where its next does.
pub behind_next : (drives : List Drive) (a s next : ℕ) (init : Bool) → 1 ≤ a → drive_in drives s ≡ latch next init
    → behind_latches drives (a - 1) next ≡ behind_latches drives a s
behind_next drives zero s next init some is = absurd (omega arith)
behind_next drives (suc less) s next init some is =
    let spent : suc less - 1 ≡ less = omega arith in
    ap (λ n. behind_latches drives n next) spent ∙ ap (λ (d : Drive). behind_of d (node_at (suc less) s) (λ n. behind_latches drives less n)) (sym is)

-- What is no latch stays.
pub behind_stays : (drives : List Drive) (a s : ℕ) → is_latch (drive_in drives s) ≡ false → behind_latches drives a s ≡ node_at a s
behind_stays drives zero s is = refl
behind_stays drives (suc less) s is = by_drive (drive_in drives s) is
  where
    by_drive : (d : Drive) → is_latch d ≡ false → behind_of d (node_at (suc less) s) (λ next. behind_latches drives less next) ≡ node_at (suc less) s
    by_drive input never = refl
    by_drive (latch next init) never = cc
    by_drive (gate pins cover) never = refl

pub no_latch : (d : Driver) → ((next : Signal) (init : Bool) → d ≡ Latch next init → ⊥) → is_latch (drive_of d) ≡ false
no_latch Input never = refl
no_latch (Latch next init) never = absurd (never next init refl)
no_latch (Gate pins cover) never = refl

only_one : (x y : Node) → Contains (x ∷ []) y → x ≡ y
only_one x y stands = elim (contains-cases x [] y stands) [ inl is ↦ is | inr none ↦ absurd (contains-none y none) ]

one : (x y : Node) → x ≡ y → Contains (x ∷ []) y
one x y is = subst (λ (v : Node). Contains (x ∷ []) v) is (contains-first x [])

-- ---- one node is taken in

pub takes_leaf : (m : Moment) (x : Node) (old new : Merging) → AreLeaves m old.leaves.items → in_time m x ≡ true
    → Joins (λ z. x ≡ z) m.k old.leaves.items new.leaves.items → new.late.items ≡ old.late.items → TakesIn m (x ∷ []) old new
takes_leaf m x old new before timely joins same = record {
  leaves = record {
    few = joins.few;
    ascending = joins.ascending;
    served = λ y stands. elim ((joins.nodes y).0 stands) [ inl older ↦ before.served y older | inr is ↦ subst (λ (v : Node). in_time m v ≡ true) is timely ];
  };
  held = λ y. (from y, to y);
}
  where
    from : (y : Node) → Holds new y → Holds old y ⊎ Contains (x ∷ []) y
    from y (inl leaf) = elim ((joins.nodes y).0 leaf) as (λ _. Holds old y ⊎ Contains (x ∷ []) y) [ inl older ↦ inl (inl older) | inr is ↦ inr (one x y is) ]
    from y (inr late) = inl (inr (subst (λ (l : List Node). Contains l y) same late))

    to : (y : Node) → Holds old y ⊎ Contains (x ∷ []) y → Holds new y
    to y (inl (inl leaf)) = inl ((joins.nodes y).1 (inl leaf))
    to y (inl (inr late)) = inr (subst (λ (l : List Node). Contains l y) (sym same) late)
    to y (inr new_one) = inl ((joins.nodes y).1 (inr (only_one x y new_one)))

pub takes_late : (m : Moment) (x : Node) (old new : Merging) → AreLeaves m old.leaves.items → HasOneMore x old.late.items new.late.items
    → new.leaves.items ≡ old.leaves.items → TakesIn m (x ∷ []) old new
takes_late m x old new before more same = record {
  leaves = subst (λ (l : List Node). AreLeaves m l) (sym same) before;
  held = λ y. (from y, to y);
}
  where
    from : (y : Node) → Holds new y → Holds old y ⊎ Contains (x ∷ []) y
    from y (inl leaf) = inl (inl (subst (λ (l : List Node). Contains l y) same leaf))
    from y (inr late) = elim ((more.nodes y).0 late) as (λ _. Holds old y ⊎ Contains (x ∷ []) y) [ inl older ↦ inl (inr older) | inr is ↦ inr (one x y is) ]

    to : (y : Node) → Holds old y ⊎ Contains (x ∷ []) y → Holds new y
    to y (inl (inl leaf)) = inl (subst (λ (l : List Node). Contains l y) (sym same) leaf)
    to y (inl (inr late)) = inr ((more.nodes y).1 (inl late))
    to y (inr new_one) = inr ((more.nodes y).1 (inr (only_one x y new_one)))

-- ---- nodes are taken in one after another

pub takes_none : (m : Moment) (nodes : List Node) (w : Merging) → nodes ≡ [] → AreLeaves m w.leaves.items → TakesIn m nodes w w
takes_none m nodes w none before = record {
  leaves = before;
  held = λ y. (λ held. inl held, λ from. elim from [ inl held ↦ held | inr new ↦ absurd (contains-none y (subst (λ (l : List Node). Contains l y) none new)) ]);
}

pub takes_more : (m : Moment) (nodes : List Node) (x : Node) (old now new : Merging) → TakesIn m nodes old now → TakesIn m (x ∷ []) now new
    → TakesIn m (nodes ++ x ∷ []) old new
takes_more m nodes x old now new before one_more = record {
  leaves = one_more.leaves;
  held = λ y. (from y, to y);
}
  where
    from_now : (y : Node) → Holds old y ⊎ Contains nodes y → Holds old y ⊎ Contains (nodes ++ x ∷ []) y
    from_now y (inl older) = inl older
    from_now y (inr earlier) = inr (Contains-append_left nodes (x ∷ []) y earlier)

    from : (y : Node) → Holds new y → Holds old y ⊎ Contains (nodes ++ x ∷ []) y
    from y held = elim ((one_more.held y).0 held) [ inl now_held ↦ from_now y ((before.held y).0 now_held) | inr here ↦ inr (Contains-append_right nodes (x ∷ []) y here) ]

    to : (y : Node) → Holds old y ⊎ Contains (nodes ++ x ∷ []) y → Holds new y
    to y (inl older) = (one_more.held y).1 (inl ((before.held y).1 (inl older)))
    to y (inr stands) =
        elim (Contains-append_cases nodes (x ∷ []) y stands) [
          | inl earlier ↦ (one_more.held y).1 (inl ((before.held y).1 (inr earlier)))
          | inr here ↦ (one_more.held y).1 (inr here)
        ]

-- One node of a list more.
pub takes_next : (m : Moment) (nodes : List Node) (i : ℕ) (x : Node) (old now new : Merging) → i < length nodes → x ≡ get_or nodes i x
    → TakesIn m (take i nodes) old now → TakesIn m (x ∷ []) now new → TakesIn m (take (i + 1) nodes) old new
takes_next m nodes i x old now new inside is before one_more =
    subst (λ (l : List Node). TakesIn m l old new) (sym (take_more nodes i x inside ∙ ap (λ (v : Node). take i nodes ++ v ∷ []) (sym is)))
    (takes_more m (take i nodes) x old now new before one_more)

-- The node of one signal of a list more.
pub takes_next_of : (m : Moment) (f : ℕ → Node) (signals : List ℕ) (i p : ℕ) (old now new : Merging) → i < length signals → p ≡ get_or signals i p
    → TakesIn m (map f (take i signals)) old now → TakesIn m (f p ∷ []) now new → TakesIn m (map f (take (i + 1) signals)) old new
takes_next_of m f signals i p old now new inside is before one_more =
    let more : take (i + 1) signals ≡ take i signals ++ p ∷ [] = take_more signals i p inside ∙ ap (λ v. take i signals ++ v ∷ []) (sym is) in
    subst (λ (l : List Node). TakesIn m l old new) (sym (ap (λ (l : List ℕ). map f l) more ∙ map-append f (take i signals) (p ∷ [])))
    (takes_more m (map f (take i signals)) (f p) old now new before one_more)

-- ---- covers

-- The nodes behind latches from the pins of a gate cover it.
pub pins_cover : (drives : List Drive) (lag g : ℕ) → IsGate drives g
    → Covers drives (map (λ p. behind_latches drives lag p) (pins_of (drive_in drives g))) (node_at lag g)
pins_cover drives lag g is =
    each_replaced drives (reads drives (node_at lag g)) leaves (node_at lag g) (reads_cover drives (node_at lag g) (goes_on (drive_in drives g) is)) record {
      each = λ y read. each y (reads_pins (drive_in drives g) is y read);
      only = λ z stands. only z (contains-unmap (λ p. behind_latches drives lag p) (pins_of (drive_in drives g)) z stands);
    }
  where
    leaves : List Node
    leaves = map (λ p. behind_latches drives lag p) (pins_of (drive_in drives g))

    goes_on : (d : Drive) → is_gate d ≡ true → is_end_of d lag ≡ false
    goes_on input never = cc
    goes_on (latch next init) never = cc
    goes_on (gate pins cover) yes' = refl

    -- What a gate reads is a pin at the lag.
    reads_pins : (d : Drive) → is_gate d ≡ true → (y : Node) → Contains (reads_of d lag) y → (p : ℕ) × Contains (pins_of d) p × (node_at lag p ≡ y)
    reads_pins input never y read = cc
    reads_pins (latch next init) never y read = cc
    reads_pins (gate pins cover) yes' y read = let from = contains-unmap (λ p. node_at lag p) pins y read in (from.0, from.1, from.2)

    pins_read : (d : Drive) → is_gate d ≡ true → (p : ℕ) → Contains (pins_of d) p → Contains (reads_of d lag) (node_at lag p)
    pins_read input never p stands = cc
    pins_read (latch next init) never p stands = cc
    pins_read (gate pins cover) yes' p stands = contains-map (λ q. node_at lag q) pins p stands

    behind : ℕ → Node
    behind p = behind_latches drives lag p

    stays : (p : ℕ) → Contains (pins_of (drive_in drives g)) p → Contains leaves (behind_latches drives lag p)
    stays p stands = contains-map (λ q. behind_latches drives lag q) (pins_of (drive_in drives g)) p stands

    each : (y : Node) → (p : ℕ) × Contains (pins_of (drive_in drives g)) p × (node_at lag p ≡ y)
        → Contains leaves y ⊎ ((others : List Node) × Covers drives others y × ((z : Node) → Contains others z → Contains leaves z))
    each y (p, stands, at) =
        elim (behind_covers drives lag p) [
          | inl same ↦ inl (subst (λ (v : Node). Contains leaves v) (same ∙ at) (stays p stands))
          | inr cover ↦ inr (
            behind_latches drives lag p ∷ [],
            subst (λ (v : Node). Covers drives (behind_latches drives lag p ∷ []) v) at cover,
            λ z here. subst (λ (v : Node). Contains leaves v) (only_one (behind_latches drives lag p) z here) (stays p stands),
          )
        ]

    only : (z : Node) → (p : ℕ) × Contains (pins_of (drive_in drives g)) p × (behind_latches drives lag p ≡ z)
        → Contains (reads drives (node_at lag g)) z ⊎ ((y : Node) × Contains (reads drives (node_at lag g)) y × IsReached drives y z)
    only z (p, stands, at) =
        elim (behind_covers drives lag p) [
          | inl same ↦ inl (subst (λ (v : Node). Contains (reads drives (node_at lag g)) v) (sym same ∙ at) (pins_read (drive_in drives g) is p stands))
          | inr cover ↦ inr (node_at lag p, pins_read (drive_in drives g) is p stands, cover.reached z (one (behind_latches drives lag p) z at))
        ]

-- The nodes of a merge, as one list.
abbrev pub nodes_of : Merging → List Node
nodes_of w = w.leaves.items ++ w.late.items

stands_held : (w : Merging) (y : Node) → Contains (nodes_of w) y → Holds w y
stands_held w y stands = Contains-append_cases w.leaves.items w.late.items y stands

stands_in : (w : Merging) (y : Node) → Holds w y → Contains (nodes_of w) y
stands_in w y (inl leaf) = Contains-append_left w.leaves.items w.late.items y leaf
stands_in w y (inr late) = Contains-append_right w.leaves.items w.late.items y late

-- A merge that has taken in a cover is one.
pub covers_first : (m : Moment) (drives : List Drive) (x : Node) (nodes : List Node) (old new : Merging) → old.leaves.items ≡ [] → old.late.items ≡ []
    → TakesIn m nodes old new → Covers drives nodes x → Covers drives (nodes_of new) x
covers_first m drives x nodes old new no_leaves none_late takes covers =
    each_replaced drives nodes (nodes_of new) x covers record {
      each = λ y stands. inl (stands_in new y ((takes.held y).1 (inr stands)));
      only = λ z stands. inl (elim ((takes.held z).0 (stands_held new z stands)) [ inl older ↦ absurd (empty z older) | inr taken ↦ taken ]);
    }
  where
    empty : (z : Node) → Holds old z → ⊥
    empty z (inl leaf) = contains-none z (subst (λ (l : List Node). Contains l z) no_leaves leaf)
    empty z (inr late) = contains-none z (subst (λ (l : List Node). Contains l z) none_late late)

-- A node is taken off and a cover of it is taken in.
pub covers_on : (m : Moment) (drives : List Drive) (x y : Node) (cut : List Node) (old popped new : Merging) → popped.leaves.items ≡ old.leaves.items
    → old.late.items ≡ popped.late.items ++ y ∷ [] → TakesIn m cut popped new → Covers drives cut y → Covers drives (nodes_of old) x → Covers drives (nodes_of new) x
covers_on m drives x y cut old popped new same off takes cover covers =
    each_replaced drives (nodes_of old) (nodes_of new) x covers record {
      each = λ z stands. each z (stands_held old z stands);
      only = λ z stands. only z ((takes.held z).0 (stands_held new z stands));
    }
  where
    y_stands : Contains (nodes_of old) y
    y_stands = stands_in old y (inr (subst (λ (l : List Node). Contains l y) (sym off) (Contains-append_right popped.late.items (y ∷ []) y (contains-first y []))))

    kept : (z : Node) → Holds popped z → Contains (nodes_of new) z
    kept z holds = stands_in new z ((takes.held z).1 (inl holds))

    each : (z : Node) → Holds old z → Contains (nodes_of new) z ⊎ ((others : List Node) × Covers drives others z × ((v : Node) → Contains others v → Contains (nodes_of new) v))
    each z (inl leaf) = inl (kept z (inl (subst (λ (l : List Node). Contains l z) (sym same) leaf)))
    each z (inr late) =
        elim (Contains-push_cases popped.late.items y z (subst (λ (l : List Node). Contains l z) off late)) [
          | inl waits ↦ inl (kept z (inr waits))
          | inr is ↦ inr (cut, subst (λ (v : Node). Covers drives cut v) is cover, λ v stands. stands_in new v ((takes.held v).1 (inr stands)))
        ]

    only : (z : Node) → Holds popped z ⊎ Contains cut z → Contains (nodes_of old) z ⊎ ((v : Node) × Contains (nodes_of old) v × IsReached drives v z)
    only z (inl (inl leaf)) = inl (stands_in old z (inl (subst (λ (l : List Node). Contains l z) same leaf)))
    only z (inl (inr late)) = inl (stands_in old z (inr (subst (λ (l : List Node). Contains l z) (sym off) (Contains-append_left popped.late.items (y ∷ []) z late))))
    only z (inr taken) = inr (y, y_stands, cover.reached z taken)

-- Where no node waits, the leaves are all.
pub covers_last : (drives : List Drive) (x : Node) (w : Merging) → w.late.items ≡ [] → Covers drives (nodes_of w) x → Covers drives w.leaves.items x
covers_last drives x w none covers =
    each_replaced drives (nodes_of w) w.leaves.items x covers record {
      each = λ y stands. inl (leaf y (stands_held w y stands));
      only = λ z stands. inl (stands_in w z (inl stands));
    }
  where
    leaf : (y : Node) → Holds w y → Contains w.leaves.items y
    leaf y (inl here) = here
    leaf y (inr late) = absurd (contains-none y (subst (λ (l : List Node). Contains l y) none late))

-- Where the kept cuts are covers, the one that is kept for the gate of a node covers the node.
pub kept_covers : (m : Moment) (y : Node) (cut : List Node) → IsKeptFor m y cut → KeepsCovers m → Covers m.circuit.now.drives cut y
kept_covers m y cut kept covers =
    let cover = (covers y.signal kept.label kept.is kept.fresh).1 in
    subst (λ (l : List Node). Covers m.circuit.now.drives l y) (sym kept.same)
    (subst (λ (v : Node). Covers m.circuit.now.drives (cut_in (cuts_of m) y.signal) v) (same_node (node_at kept.label.lag y.signal) y refl kept.lag) cover)

-- What a merge keeps: leaves that are served in time, and a cover where the kept cuts are covers.
pub record IsUnderWay (m : Moment) (x : Node) (w : Merging) : Type 0 where
  pub leaves : AreLeaves m w.leaves.items
  pub covers : KeepsCovers m → Covers m.circuit.now.drives (nodes_of w) x

pub begins : (m : Moment) (lag g : ℕ) (old new : Merging) → IsGate m.circuit.now.drives g → old.leaves.items ≡ [] → old.late.items ≡ []
    → TakesIn m (map (λ p. behind_latches m.circuit.now.drives lag p) (pins_of (drive_in m.circuit.now.drives g))) old new → IsUnderWay m (node_at lag g) new
begins m lag g old new is no_leaves none_late takes = record {
  leaves = takes.leaves;
  covers = λ _. covers_first m m.circuit.now.drives (node_at lag g) (map (λ p. behind_latches m.circuit.now.drives lag p) (pins_of (drive_in m.circuit.now.drives g))) old new
      no_leaves none_late takes (pins_cover m.circuit.now.drives lag g is);
}

pub goes_on : (m : Moment) (x y : Node) (cut : List Node) (old popped new : Merging) → IsUnderWay m x old → popped.leaves.items ≡ old.leaves.items
    → old.late.items ≡ popped.late.items ++ y ∷ [] → IsKeptFor m y cut → TakesIn m cut popped new → IsUnderWay m x new
goes_on m x y cut old popped new before same off kept takes = record {
  leaves = takes.leaves;
  covers = λ keeps. covers_on m m.circuit.now.drives x y cut old popped new same off takes (kept_covers m y cut kept keeps) (before.covers keeps);
}

pub ends : (m : Moment) (x : Node) (w : Merging) → IsUnderWay m x w → w.late.items ≡ [] → IsMerged m x w.leaves.items
ends m x w before none = record {
  timely = before.leaves;
  covers = λ keeps. covers_last m.circuit.now.drives x w none (before.covers keeps);
}
