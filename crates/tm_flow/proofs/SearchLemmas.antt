-- How a search grows.
use Rattle.std.proofs.Common.{◌≡◌, ℕ, ◌+◌, ◌-◌, ◌*◌, ◌<◌, ◌≤◌, true, false, ◌⊎◌, inl, inr, List, [], ◌∷◌, ◌++◌, length, refl, sym, ap, subst, ◌∙◌, append_assoc, zero, suc, length-append, length-take, take-take, true≢false, take, drop, get_or, Result, Ok, Err, OnOk, IfOk, arith}
use Rattle.std.proofs.lemmas.List.{take_more, append-nil, take_all, take-append-le, take-append-drop}
use Rattle.std.proofs.lemmas.Bool.{cases_lt}
use Rattle.tm_flow.specs.Lists.{Has, Each, AreApart, At}
use Rattle.tm_flow.specs.Nets.{Shape, Reaches}
use Rattle.tm_flow.specs.Searches.{sides, sides_waiting, near, far, count_of, IsRead, IsAlong, IsBack, IsStep, Follows, IsGoal, IsWay, IsNumbered, IsMarked, IsUsed, Names, IsNew, Meets, IsExhausted, AreFirstReads}
use Rattle.tm_flow.specs.declared.flow.Edge.{Edge}
use Rattle.tm_flow.specs.declared.search.Marks.{Marks}
use Rattle.tm_flow.specs.declared.search.Side.{Side}
use Rattle.tm_flow.specs.declared.search.Step.{Step}
use Rattle.tm_flow.specs.declared.search.Step.TheVariants.{Read, Cross, Return, Back}
use Rattle.tm_flow.specs.declared.search.Taken.{Taken}
use Rattle.tm_flow.specs.declared.search.Waiting.{Waiting}
use Rattle.tm_flow.proofs.ListLemmas.{has_left, has_right, has_either, each_left, each_right, each_from, has_get, each_has, each_as, each_join, apart_push}
use Rattle.tm_flow.proofs.PlaceLemmas.{at_left, at_either, at_has, at_after, at_within, at_same, at_some}
use Rattle.tm_flow.proofs.Finite.{reaches_here, reaches_step}

module _ {T : Type 0} where
  pub sides_join : (xs ys : List (Taken T)) → sides (xs ++ ys) ≡ sides xs ++ sides ys
  sides_join [] ys = refl
  sides_join (x ∷ xs) ys = ap (λ l. x.side ∷ l) (sides_join xs ys)

  pub length-sides : (xs : List (Taken T)) → length (sides xs) ≡ length xs
  length-sides [] = refl
  length-sides (x ∷ xs) = omega (arith, length-sides xs)

  pub at_side : (ts : List (Taken T)) (j : ℕ) (t : Taken T) → At ts j t → At (sides ts) j t.side
  at_side [] j t h = absurd h
  at_side (u ∷ ts) zero t h = ap (λ x. x.side) h
  at_side (u ∷ ts) (suc j) t h = at_side ts j t h

  waiting_join : (xs ys : List (Waiting T)) → sides_waiting (xs ++ ys) ≡ sides_waiting xs ++ sides_waiting ys
  waiting_join [] ys = refl
  waiting_join (x ∷ xs) ys = ap (λ l. x.side ∷ l) (waiting_join xs ys)

  -- a side of some that wait is the side of one of them
  of_waiting : (ws : List (Waiting T)) (p : Side T) → Has (sides_waiting ws) p → (w : Waiting T) × Has ws w × (w.side ≡ p)
  of_waiting [] p h = absurd h
  of_waiting (w ∷ ws) p (inl e) = (w, inl refl, e)
  of_waiting (w ∷ ws) p (inr h) = let r = of_waiting ws p h in (r.0, inr r.1, r.2)

  pub meets_none : (P : Side T → Step → Type 0) (depth : ℕ) (nodes : List T) (marks : List Marks) (waiting : List (Waiting T)) → IsNumbered nodes marks
      → Meets P depth nodes marks waiting nodes marks waiting
  meets_none P depth nodes marks waiting numbered = record {
    numbered = numbered;
    added = [];
    opened = sym (append-nil waiting);
    each = tt;
    grown = λ p h. inl h;
    stays = λ p h. h;
    used = λ u h. h;
    longer = λ i u h. h;
    named = λ u h. inl h;
    count = omega arith;
  }

  -- one side met, whose node has its number
  pub meets_one : (nodes : List T) (marks marks' : List Marks) (waiting waiting' : List (Waiting T)) (w : Waiting T) → IsNumbered nodes marks' → At nodes w.number w.side.node
      → IsMarked nodes marks' w.side → (IsMarked nodes marks w.side → ⊥) → ((p : Side T) → IsMarked nodes marks' p → IsMarked nodes marks p ⊎ (w.side ≡ p))
      → ((p : Side T) → IsMarked nodes marks p → IsMarked nodes marks' p) → ((u : T) → IsUsed nodes marks u → IsUsed nodes marks' u)
      → count_of marks' ≡ count_of marks + 1 → waiting' ≡ waiting ++ w ∷ []
      → Meets (λ s t. (s ≡ w.side) × (t ≡ w.step)) w.depth nodes marks waiting nodes marks' waiting'
  meets_one nodes marks marks' waiting waiting' w numbered number marked fresh grown stays used count opened = record {
    numbered = numbered;
    added = w ∷ [];
    opened = opened;
    each = (record { step = (refl, refl); depth = refl; number = number; marked = marked; fresh = fresh }, tt);
    grown = λ p h. elim (grown p h) [ inl old ↦ inl old | inr is ↦ inr (inl is) ];
    stays = stays;
    used = used;
    longer = λ i u h. h;
    named = λ u h. inl h;
    count = count;
  }

  pub meets_as : {P Q : Side T → Step → Type 0} {depth : ℕ} {nodes nodes' : List T} {marks marks' : List Marks} {waiting waiting' : List (Waiting T)}
      → ((s : Side T) (t : Step) → P s t → Q s t) → Meets P depth nodes marks waiting nodes' marks' waiting' → Meets Q depth nodes marks waiting nodes' marks' waiting'
  meets_as {P} {Q} {depth} {nodes} {nodes'} {marks} {marks'} f m = record {
    numbered = m.numbered;
    added = m.added;
    opened = m.opened;
    each = each_as (IsNew P depth nodes marks nodes' marks') (IsNew Q depth nodes marks nodes' marks')
        (λ w k. record { step = f w.side w.step k.step; depth = k.depth; number = k.number; marked = k.marked; fresh = k.fresh }) m.added m.each;
    grown = m.grown;
    stays = m.stays;
    used = m.used;
    longer = m.longer;
    named = λ u h. elim (m.named u h) [ inl old ↦ inl old | inr new ↦ inr (new.0, new.1, f new.0 new.1 new.2, new.3) ];
    count = m.count;
  }

  pub meets_on : {P : Side T → Step → Type 0} {depth : ℕ} {nodes nodes1 nodes2 : List T} {marks marks1 marks2 : List Marks} {waiting waiting1 waiting2 : List (Waiting T)}
      → Meets P depth nodes marks waiting nodes1 marks1 waiting1 → Meets P depth nodes1 marks1 waiting1 nodes2 marks2 waiting2
      → Meets P depth nodes marks waiting nodes2 marks2 waiting2
  meets_on {P} {depth} {nodes} {nodes1} {nodes2} {marks} {marks1} {marks2} {waiting} a b = record {
    numbered = b.numbered;
    added = a.added ++ b.added;
    opened = b.opened ∙ ap (λ l. l ++ b.added) a.opened ∙ append_assoc waiting a.added b.added;
    each =
        each_join (IsNew P depth nodes marks nodes2 marks2) a.added b.added
        (each_as (IsNew P depth nodes marks nodes1 marks1) (IsNew P depth nodes marks nodes2 marks2)
        (λ w k. record { step = k.step; depth = k.depth; number = b.longer w.number w.side.node k.number; marked = b.stays w.side k.marked; fresh = k.fresh }) a.added a.each)
        (each_as (IsNew P depth nodes1 marks1 nodes2 marks2) (IsNew P depth nodes marks nodes2 marks2)
        (λ w k. record { step = k.step; depth = k.depth; number = k.number; marked = k.marked; fresh = λ h. k.fresh (a.stays w.side h) }) b.added b.each);
    grown = λ p h. elim (b.grown p h) [
      | inl between ↦ elim (a.grown p between) [
        | inl old ↦ inl old
        | inr new ↦ inr (subst (λ l. Has l p) (sym (waiting_join a.added b.added)) (has_left (sides_waiting a.added) (sides_waiting b.added) p new))
      ]
      | inr new ↦ inr (subst (λ l. Has l p) (sym (waiting_join a.added b.added)) (has_right (sides_waiting a.added) (sides_waiting b.added) p new))
    ];
    stays = λ p h. b.stays p (a.stays p h);
    used = λ u h. b.used u (a.used u h);
    longer = λ i u h. b.longer i u (a.longer i u h);
    named = λ u h. elim (b.named u h) [ inl between ↦ a.named u between | inr new ↦ inr new ];
    count = b.count ∙ ap (λ k. k + length b.added) a.count ∙ omega (arith, length-append a.added b.added);
  }

  -- one side met, whose node got its number first
  pub meets_named : {P : Side T → Step → Type 0} {depth : ℕ} {nodes nodes1 nodes2 : List T} {marks marks1 marks2 : List Marks} {waiting waiting2 : List (Waiting T)}
      (number : ℕ) (side : Side T) (step : Step) → P side step → Names side.node number nodes marks nodes1 marks1
      → Meets P depth nodes1 marks1 waiting nodes2 marks2 waiting2 → Meets P depth nodes marks waiting nodes2 marks2 waiting2
  meets_named {P} {depth} {nodes} {nodes1} {nodes2} {marks} {marks1} {marks2} number side step holds a b = record {
    numbered = b.numbered;
    added = b.added;
    opened = b.opened;
    each = each_as (IsNew P depth nodes1 marks1 nodes2 marks2) (IsNew P depth nodes marks nodes2 marks2)
        (λ w k. record { step = k.step; depth = k.depth; number = k.number; marked = k.marked; fresh = λ h. k.fresh (a.stays w.side h) }) b.added b.each;
    grown = λ p h. elim (b.grown p h) [ inl between ↦ inl (a.only p between) | inr new ↦ inr new ];
    stays = λ p h. b.stays p (a.stays p h);
    used = λ u h. b.used u (a.used u h);
    longer = λ i u h. b.longer i u (a.longer i u h);
    named = λ u h. elim (b.named u h) [
      | inl between ↦ elim (a.named u between) [ inl old ↦ inl old | inr is ↦ inr (side, step, holds, is) ]
      | inr new ↦ inr new
    ];
    count = b.count ∙ ap (λ k. k + length b.added) a.count;
  }

  -- the side that was met last may wait as well as be in hand
  pub meets_wait : {P : Side T → Step → Type 0} {depth : ℕ} {nodes nodes' : List T} {marks marks' : List Marks} {waiting waiting1 : List (Waiting T)}
      (waiting2 : List (Waiting T)) → waiting2 ≡ waiting1 → Meets P depth nodes marks waiting nodes' marks' waiting1 → Meets P depth nodes marks waiting nodes' marks' waiting2
  meets_wait {P} {depth} {nodes} {nodes'} {marks} {marks'} {waiting} waiting2 is m = subst (Meets P depth nodes marks waiting nodes' marks') (sym is) m

  -- no read met yet
  pub no_reads : (n : Shape T) (v : T) (reads : List T) → reads ≡ [] → AreFirstReads n v 0 reads
  no_reads n v reads none = subst (AreFirstReads n v 0) (sym none) (record { len = refl; each = λ i u h. absurd h })

  -- one more read taken down
  pub reads_more : (n : Shape T) (v : T) (count : ℕ) (reads reads' : List T) (u : T) → AreFirstReads n v count reads → u ≡ n.read v count → reads' ≡ reads ++ u ∷ []
      → AreFirstReads n v (count + 1) reads'
  reads_more n v count reads reads' u are is pushed = subst (AreFirstReads n v (count + 1)) (sym pushed) (record {
    len = length-append reads (u ∷ []) ∙ ap (λ k. k + 1) are.len;
    each = λ i x h. elim (at_either reads (u ∷ []) i x h) [ inl old ↦ are.each i x old | inr new ↦ by i x new.0 new.1 new.2 ];
  })
    where
      by : (i : ℕ) (x : T) (d : ℕ) → i ≡ length reads + d → At (u ∷ []) d x → x ≡ n.read v i
      by i x zero e h = let place : count ≡ i = omega (arith, are.len) in sym h ∙ is ∙ ap (n.read v) place
      by i x (suc d) e h = absurd h

  pub along_is_read : (n : Shape T) (v : T) (reads : List T) → AreFirstReads n v (n.reads v) reads → (s : Side T) (step : Step) → IsAlong reads step s → IsRead n v step s
  along_is_read n v reads are s (Read i) h =
      let lt : i < n.reads v = omega (arith, at_within reads i h.0 h.1, are.len) in
      (lt, h.2 ∙ ap near (are.each i h.0 h.1))
  along_is_read n v reads are s Cross h = absurd h
  along_is_read n v reads are s Return h = absurd h
  along_is_read n v reads are s (Back i) h = absurd h

  -- the reads from one index on and before another have been met
  pub record IsReading (reads : List T) (depth : ℕ) (nodes : List T) (marks : List Marks) (waiting : List (Waiting T))
      (nodes' : List T) (marks' : List Marks) (waiting' : List (Waiting T)) (from index : ℕ) : Type 0 where
    pub meets : Meets (λ s t. IsAlong reads t s) depth nodes marks waiting nodes' marks' waiting'
    pub met : (i : ℕ) (u : T) → At reads i u → from ≤ i → i < index → IsMarked nodes' marks' (near u)

  pub reading_first : (reads : List T) (depth : ℕ) (nodes : List T) (marks : List Marks) (waiting : List (Waiting T)) (from : ℕ) → IsNumbered nodes marks
      → IsReading reads depth nodes marks waiting nodes marks waiting from from
  reading_first reads depth nodes marks waiting from numbered = record {
    meets = meets_none _ depth nodes marks waiting numbered;
    met = λ i u a l h. let c : ⊥ = omega arith in absurd c;
  }

  pub reading_on : {reads : List T} {depth : ℕ} {nodes nodes1 : List T} {marks marks1 : List Marks} {waiting waiting1 : List (Waiting T)}
      (from index : ℕ) (u : T) (nodes2 : List T) (marks2 : List Marks) (waiting2 : List (Waiting T)) (side : Side T) (step : Step)
      → At reads index u → side ≡ near u → step ≡ Read index
      → IsReading reads depth nodes marks waiting nodes1 marks1 waiting1 from index
      → Meets (λ s t. (s ≡ side) × (t ≡ step)) depth nodes1 marks1 waiting1 nodes2 marks2 waiting2
      → IsMarked nodes2 marks2 side → IsReading reads depth nodes marks waiting nodes2 marks2 waiting2 from (index + 1)
  reading_on {reads} from index u nodes2 marks2 waiting2 side step at is_side is_step r m h = record {
    meets = meets_on r.meets (meets_as (λ s t e. subst (λ x. IsAlong reads x s) (sym (e.1 ∙ is_step)) (u, at, e.0 ∙ is_side)) m);
    met = λ i x a l k. elim (cases_lt i index) [
      | inl less ↦ m.stays (near x) (r.met i x a l less)
      | inr more ↦
          let e : index ≡ i = omega arith in
          let is : u ≡ x = at_same reads i u x (subst (λ j. At reads j u) e at) a in
          subst (λ y. IsMarked nodes2 marks2 (near y)) is (subst (IsMarked nodes2 marks2) is_side h)
    ];
  }

  -- the reads of v have been met, those from the middle on first
  pub read_all : (n : Shape T) (v : T) (reads : List T) (depth : ℕ) (nodes1 : List T) (marks1 : List Marks) (waiting1 : List (Waiting T)) (nodes2 : List T)
      (marks2 : List Marks) (waiting2 : List (Waiting T)) (middle : ℕ) → AreFirstReads n v (n.reads v) reads
      → ((i : ℕ) (u : T) → At reads i u → middle ≤ i → i < n.reads v → IsMarked nodes1 marks1 (near u))
      → Meets (λ s t. IsAlong reads t s) depth nodes1 marks1 waiting1 nodes2 marks2 waiting2
      → ((i : ℕ) (u : T) → At reads i u → 0 ≤ i → i < middle → IsMarked nodes2 marks2 (near u))
      → (i : ℕ) → i < n.reads v → IsMarked nodes2 marks2 (near (n.read v i))
  read_all n v reads depth nodes1 marks1 waiting1 nodes2 marks2 waiting2 middle are later m earlier i lt =
      let within : i < length reads = omega (arith, are.len) in
      let u : (x : T) × At reads i x = at_some reads i within in
      subst (λ x. IsMarked nodes2 marks2 (near x)) (are.each i u.0 u.1)
      (elim (cases_lt i middle) [
        | inl less ↦ earlier i u.0 u.1 (omega arith) less
        | inr more ↦ m.stays (near u.0) (later i u.0 u.1 (omega arith) lt)
      ])

  -- the far sides at the beginnings of the first `index` edges have been met
  pub record IsGoingBack (edges : List (Edge T)) (depth : ℕ) (nodes : List T) (marks : List Marks) (waiting : List (Waiting T))
      (nodes' : List T) (marks' : List Marks) (waiting' : List (Waiting T)) (index : ℕ) : Type 0 where
    pub meets : Meets (λ s t. IsBack edges t s) depth nodes marks waiting nodes' marks' waiting'
    pub met : Each (λ e. IsMarked nodes' marks' (far e.from)) (take index edges)

  pub back_first : (edges : List (Edge T)) (depth : ℕ) (nodes : List T) (marks : List Marks) (waiting : List (Waiting T)) → IsNumbered nodes marks
      → IsGoingBack edges depth nodes marks waiting nodes marks waiting 0
  back_first edges depth nodes marks waiting numbered = record { meets = meets_none _ depth nodes marks waiting numbered; met = tt }

  pub back_on : {edges : List (Edge T)} {depth : ℕ} {nodes nodes1 : List T} {marks marks1 : List Marks} {waiting waiting1 : List (Waiting T)}
      (index : ℕ) (edge : Edge T) (nodes2 : List T) (marks2 : List Marks) (waiting2 : List (Waiting T)) (side : Side T) (step : Step)
      → index < length edges → edge ≡ get_or edges index edge → side ≡ far edge.from → step ≡ Back edge.index
      → IsGoingBack edges depth nodes marks waiting nodes1 marks1 waiting1 index
      → Meets (λ s t. (s ≡ side) × (t ≡ step)) depth nodes1 marks1 waiting1 nodes2 marks2 waiting2
      → IsMarked nodes2 marks2 side → IsGoingBack edges depth nodes marks waiting nodes2 marks2 waiting2 (index + 1)
  back_on {edges} {depth} {nodes} {nodes1} {marks} {marks1} index edge nodes2 marks2 waiting2 side step lt is_edge is_side is_step r m h =
      let among : Has edges edge = subst (Has edges) (sym is_edge) (has_get edges index edge lt) in
      record {
        meets = meets_on r.meets (meets_as (λ s t e. subst (λ u. IsBack edges u s) (sym (e.1 ∙ is_step)) (edge, among, refl, e.0 ∙ is_side)) m);
        met = subst (Each (λ e. IsMarked nodes2 marks2 (far e.from))) (sym (take_more edges index edge lt))
            (each_join (λ e. IsMarked nodes2 marks2 (far e.from)) (take index edges) (get_or edges index edge ∷ [])
            (each_as (λ e. IsMarked nodes1 marks1 (far e.from)) (λ e. IsMarked nodes2 marks2 (far e.from)) (λ e k. m.stays (far e.from) k) (take index edges) r.met)
            (subst (λ e. IsMarked nodes2 marks2 (far e.from)) is_edge (subst (IsMarked nodes2 marks2) is_side h), tt));
      }

  -- after the reads and the near side, each step from the far side of v has been taken
  pub follows_far : (n : Shape T) (v : T) (Met : Side T → Type 0) → Met (near v) → ((i : ℕ) → i < n.reads v → Met (near (n.read v i)))
      → (edges : List (Edge T)) → Follows n edges Met (far v)
  follows_far n v Met here reads edges (Read i) q h = subst Met (sym h.1.1) (reads i h.1.0)
  follows_far n v Met here reads edges Cross q h = absurd (true≢false h.0)
  follows_far n v Met here reads edges Return q h = subst Met (sym h.1) here
  follows_far n v Met here reads edges (Back i) q h = absurd (true≢false h.0)

  -- after the far ends of the edges, and the far side where v can be crossed, each step from the near side of v has been taken
  pub follows_near : (n : Shape T) (v : T) (edges : List (Edge T)) (Met : Side T → Type 0) → Each (λ e. Met (far e.from)) edges
      → ((n.may_cut v ≡ false) ⊎ (edges ≡ []) → Met (far v)) → Follows n edges Met (near v)
  follows_near n v edges Met back across (Read i) q h = absurd (true≢false (sym h.0))
  follows_near n v edges Met back across Cross q h = subst Met (sym h.1) (across h.2)
  follows_near n v edges Met back across Return q h = absurd (true≢false (sym h.0))
  follows_near n v edges Met back across (Back i) q h = subst Met (sym h.1.3) (each_has (λ e. Met (far e.from)) edges back h.1.0 h.1.1)

  pub read_is_step : (n : Shape T) (v : T) (edges : List (Edge T)) (s : Side T) (step : Step) → IsRead n v step s → IsStep n edges (far v) step s
  read_is_step n v edges s (Read i) h = (refl, h)
  read_is_step n v edges s Cross h = absurd h
  read_is_step n v edges s Return h = absurd h
  read_is_step n v edges s (Back i) h = absurd h

  pub back_is_step : (n : Shape T) (v : T) (edges : List (Edge T)) (s : Side T) (step : Step) → IsBack edges step s → IsStep n edges (near v) step s
  back_is_step n v edges s (Read i) h = absurd h
  back_is_step n v edges s Cross h = absurd h
  back_is_step n v edges s Return h = absurd h
  back_is_step n v edges s (Back i) h = (refl, h)

  -- one side met by one step
  pub step_as : (n : Shape T) (edges : List (Edge T)) (p side : Side T) (step : Step) → IsStep n edges p step side
      → (s : Side T) (t : Step) → (s ≡ side) × (t ≡ step) → IsStep n edges p t s
  step_as n edges p side step h s t e = subst (λ q. IsStep n edges p t q) (sym e.0) (subst (λ u. IsStep n edges p u side) (sym e.1) h)

  pub far_is : (p : Side T) → p.is_far ≡ true → p ≡ far p.node
  far_is p e = λ j. record { node = p.node; is_far = e j }

  pub near_is : (p : Side T) → p.is_far ≡ false → p ≡ near p.node
  near_is p e = λ j. record { node = p.node; is_far = e j }

  -- what waits was met from sides no nearer to the root than what waits before it
  pub AreStacked : List (Waiting T) → Type 0
  AreStacked [] = Unit {0}
  AreStacked (w ∷ ws) = Each (λ u. w.depth ≤ u.depth) ws × AreStacked ws

  stacked_last : (ws : List (Waiting T)) (w : Waiting T) → AreStacked (ws ++ w ∷ []) → AreStacked ws × Each (λ u. u.depth ≤ w.depth) ws
  unfolding AreStacked
  stacked_last [] w h = (tt, tt)
  stacked_last (u ∷ ws) w h =
      let r = stacked_last ws w h.1 in (
        (each_left (λ x. u.depth ≤ x.depth) ws (w ∷ []) h.0, r.0),
        ((each_right (λ x. u.depth ≤ x.depth) ws (w ∷ []) h.0).0, r.1),
      )

  stacked_same : (depth : ℕ) (ws : List (Waiting T)) → Each (λ u. u.depth ≡ depth) ws → AreStacked ws
  unfolding AreStacked
  stacked_same depth [] h = tt
  stacked_same depth (w ∷ ws) h =
      let e : w.depth ≡ depth = h.0 in
      (each_as (λ u. u.depth ≡ depth) (λ u. w.depth ≤ u.depth) (λ u k. omega arith) ws h.1, stacked_same depth ws h.1)

  stacked_join : (depth : ℕ) (ws us : List (Waiting T)) → AreStacked ws → Each (λ u. u.depth ≤ depth) ws → Each (λ u. u.depth ≡ depth) us → AreStacked (ws ++ us)
  unfolding AreStacked
  stacked_join depth [] us a b c = stacked_same depth us c
  stacked_join depth (w ∷ ws) us a b c =
      let le : w.depth ≤ depth = b.0 in (
        each_join (λ u. w.depth ≤ u.depth) ws us a.0 (each_as (λ u. u.depth ≡ depth) (λ u. w.depth ≤ u.depth) (λ u k. omega arith) us c),
        stacked_join depth ws us a.1 b.1 c,
      )

  abbrev pub taken : Waiting T → Taken T
  taken w = record { side = w.side; step = w.step; number = w.number }

  -- a way goes on by one step from its last side to a side that it has not come to
  way_on : (n : Shape T) (into : T → List (Edge T)) (root : T) (front : List (Taken T)) (w u : Taken T) → IsWay n into root (front ++ w ∷ [])
      → IsStep n (into w.side.node) w.side u.step u.side → (Has (sides (front ++ w ∷ [])) u.side → ⊥) → IsWay n into root ((front ++ w ∷ []) ++ u ∷ [])
  way_on n into root front w u way step absent = record {
    first = subst (λ l. At l 0 (far root)) (sym (sides_join (front ++ w ∷ []) (u ∷ []))) (at_left (sides (front ++ w ∷ [])) (u.side ∷ []) 0 (far root) way.first);
    came = λ j t a pos. elim (at_either (front ++ w ∷ []) (u ∷ []) j t a) [
      | inl old ↦ let c = way.came j t old pos in (c.0, left (j - 1) c.0 c.1, c.2)
      | inr new ↦ by j t pos new.0 new.1 new.2
    ];
    apart = subst AreApart (sym (sides_join (front ++ w ∷ []) (u ∷ []))) (apart_push (sides (front ++ w ∷ [])) u.side way.apart absent);
  }
    where
      left : (j : ℕ) (p : Side T) → At (sides (front ++ w ∷ [])) j p → At (sides ((front ++ w ∷ []) ++ u ∷ [])) j p
      left j p h = subst (λ l. At l j p) (sym (sides_join (front ++ w ∷ []) (u ∷ []))) (at_left (sides (front ++ w ∷ [])) (u.side ∷ []) j p h)

      last : At (sides (front ++ w ∷ [])) (length front) w.side
      last = subst (λ l. At l (length front) w.side) (sym (sides_join front (w ∷ [])))
          (subst (λ k. At (sides front ++ w.side ∷ []) k w.side) (length-sides front) (at_after (sides front) [] w.side))

      by : (j : ℕ) (t : Taken T) → 0 < j → (d : ℕ) → j ≡ length (front ++ w ∷ []) + d → At (u ∷ []) d t
          → (p : Side T) × At (sides ((front ++ w ∷ []) ++ u ∷ [])) (j - 1) p × IsStep n (into p.node) p t.step t.side
      by j t pos zero e is =
          let place : length front ≡ j - 1 = omega (arith, length-append front (w ∷ [])) in
          (w.side, left (j - 1) w.side (subst (λ k. At (sides (front ++ w ∷ [])) k w.side) place last), subst (λ x. IsStep n (into w.side.node) w.side x.step x.side) is step)
      by j t pos (suc d) e is = absurd is

  -- the way that begins with the root
  way_first : (n : Shape T) (into : T → List (Edge T)) (root : T) (t : Taken T) → t.side ≡ far root → IsWay n into root (t ∷ [])
  way_first n into root t is = record {
    first = is;
    came = λ j u a pos. by j u a pos;
    apart = ((λ h. h), tt);
  }
    where
      by : (j : ℕ) (u : Taken T) → At (t ∷ []) j u → 0 < j → (p : Side T) × At (sides (t ∷ [])) (j - 1) p × IsStep n (into p.node) p u.step u.side
      by zero u a pos = let none : ⊥ = omega arith in absurd none
      by (suc j) u a pos = absurd a

  -- a side that waits is met, and the way leads to it from the side at its depth
  pub record IsOpen (n : Shape T) (into : T → List (Edge T)) (root : T) (nodes : List T) (marks : List Marks) (ts : List (Taken T)) (w : Waiting T) : Type 0 where
    pub way : IsWay n into root (take w.depth ts ++ taken w ∷ [])
    pub within : w.depth ≤ length ts
    pub number : At nodes w.number w.side.node
    pub marked : IsMarked nodes marks w.side

  -- a search under way: each side met waits, or each step from it has been taken
  pub record IsSearching (n : Shape T) (into : T → List (Edge T)) (root : T) (nodes : List T) (marks : List Marks) (waiting : List (Waiting T)) (ts : List (Taken T)) : Type 0 where
    pub numbered : IsNumbered nodes marks
    pub start : IsMarked nodes marks (far root)
    pub reached : Each (Reaches n root) nodes
    pub done : (p : Side T) → IsMarked nodes marks p → Has (sides_waiting waiting) p ⊎ (Follows n (into p.node) (IsMarked nodes marks) p × (IsGoal n p → ⊥))
    pub opens : Each (IsOpen n into root nodes marks ts) waiting
    pub stacked : AreStacked waiting
    pub on : Each (IsMarked nodes marks) (sides ts)
    pub numbers : Each (λ t. At nodes t.number t.side.node) ts

  pub searching_first : (n : Shape T) (into : T → List (Edge T)) (root : T) (nodes nodes' : List T) (marks marks' : List Marks) (waiting : List (Waiting T)) (ts : List (Taken T)) (step : Step)
      → ((p : Side T) → IsMarked nodes marks p → ⊥) → Each (Reaches n root) nodes
      → Meets (λ s t. (s ≡ far root) × (t ≡ step)) 0 nodes marks [] nodes' marks' waiting → IsMarked nodes' marks' (far root) → ts ≡ []
      → IsSearching n into root nodes' marks' waiting ts
  searching_first n into root nodes nodes' marks marks' waiting ts step none reached m start empty = record {
    numbered = m.numbered;
    start = start;
    reached = each_from (Reaches n root) nodes' (λ v h. elim (m.named v h) [
      | inl old ↦ each_has (Reaches n root) nodes reached v old
      | inr new ↦ subst (Reaches n root) (sym (ap (λ p. p.node) new.2.0) ∙ new.3) (reaches_here n root)
    ]);
    done = λ p h. elim (m.grown p h) [
      | inl old ↦ absurd (none p old)
      | inr new ↦ inl (subst (λ l. Has (sides_waiting l) p) (sym m.opened) new)
    ];
    opens = subst (Each (IsOpen n into root nodes' marks' ts)) (sym m.opened)
        (each_as (IsNew (λ s t. (s ≡ far root) × (t ≡ step)) 0 nodes marks nodes' marks') (IsOpen n into root nodes' marks' ts) (λ w k.
        let none_yet : take w.depth ts ≡ [] = ap (λ d. take d ts) k.depth ∙ ap (λ l. take 0 l) empty in
        let zeroth : w.depth ≡ 0 = k.depth in
        record {
          way = subst (λ l. IsWay n into root (l ++ taken w ∷ [])) (sym none_yet) (way_first n into root (taken w) k.step.0);
          within = omega arith;
          number = k.number;
          marked = k.marked;
        }) m.added m.each);
    stacked = subst AreStacked (sym m.opened) (stacked_same 0 m.added (each_as (IsNew (λ s t. (s ≡ far root) × (t ≡ step)) 0 nodes marks nodes' marks') (λ u. u.depth ≡ 0) (λ w k. k.depth) m.added m.each));
    on = subst (λ l. Each (IsMarked nodes' marks') (sides l)) (sym empty) tt;
    numbers = subst (Each (λ t. At nodes' t.number t.side.node)) (sym empty) tt;
  }

  -- the first side of a search is met where none has been
  pub meets_begun : (root : T) (side : Side T) (step : Step) → side ≡ far root → {nodes nodes0 nodes' : List T} {marks marks0 marks' : List Marks} {waiting waiting' : List (Waiting T)}
      → nodes ≡ nodes0 → marks ≡ marks0 → waiting ≡ [] → Meets (λ s t. (s ≡ side) × (t ≡ step)) 0 nodes marks waiting nodes' marks' waiting'
      → Meets (λ s t. (s ≡ far root) × (t ≡ step)) 0 nodes0 marks0 [] nodes' marks' waiting'
  meets_begun root side step is {nodes} {nodes0} {nodes'} {marks} {marks0} {marks'} {waiting} {waiting'} same_nodes same_marks no_one m =
      meets_as (λ s t e. (e.0 ∙ is, e.1))
      (subst (λ l. Meets (λ s t. (s ≡ side) × (t ≡ step)) 0 l marks0 [] nodes' marks' waiting') same_nodes
      (subst (λ l. Meets (λ s t. (s ≡ side) × (t ≡ step)) 0 nodes l [] nodes' marks' waiting') same_marks
      (subst (λ l. Meets (λ s t. (s ≡ side) × (t ≡ step)) 0 nodes marks l nodes' marks' waiting') no_one m)))

  -- what holds of the side that is taken up next
  next_open : {n : Shape T} {into : T → List (Edge T)} {root : T} {nodes : List T} {marks : List Marks} {before : List (Waiting T)} {ts : List (Taken T)}
      → IsSearching n into root nodes marks before ts → (waiting : List (Waiting T)) (w : Waiting T) → before ≡ waiting ++ w ∷ [] → IsOpen n into root nodes marks ts w
  next_open {n} {into} {root} {nodes} {marks} {before} {ts} s waiting w popped =
      (each_right (IsOpen n into root nodes marks ts) waiting (w ∷ []) (subst (Each (IsOpen n into root nodes marks ts)) popped s.opens)).0

  pub next_number : {n : Shape T} {into : T → List (Edge T)} {root : T} {nodes : List T} {marks : List Marks} {before : List (Waiting T)} {ts : List (Taken T)}
      → IsSearching n into root nodes marks before ts → (waiting : List (Waiting T)) (w : Waiting T) → before ≡ waiting ++ w ∷ [] → At nodes w.number w.side.node
  next_number s waiting w popped = (next_open s waiting w popped).number

  -- the way to the side that is taken up next
  pub next_way : {n : Shape T} {into : T → List (Edge T)} {root : T} {nodes : List T} {marks : List Marks} {before : List (Waiting T)} {ts : List (Taken T)}
      → IsSearching n into root nodes marks before ts → (waiting : List (Waiting T)) (w : Waiting T) → before ≡ waiting ++ w ∷ []
      → (ts' : List (Taken T)) → ts' ≡ take w.depth ts ++ taken w ∷ [] → IsWay n into root ts'
  next_way {n} {into} {root} s waiting w popped ts' is = subst (IsWay n into root) (sym is) (next_open s waiting w popped).way

  pub last_side : (front ts' : List (Taken T)) (t : Taken T) → ts' ≡ front ++ t ∷ [] → At (sides ts') (length ts' - 1) t.side
  last_side front ts' t is =
      let place : length front ≡ length ts' - 1 = omega (arith, ap length is, length-append front (t ∷ [])) in
      subst (λ l. At (sides l) (length ts' - 1) t.side) (sym is)
      (subst (λ k. At (sides (front ++ t ∷ [])) k t.side) place
      (subst (λ l. At l (length front) t.side) (sym (sides_join front (t ∷ [])))
      (subst (λ k. At (sides front ++ t.side ∷ []) k t.side) (length-sides front) (at_after (sides front) [] t.side))))

  -- and the numbers of the nodes of that way
  pub next_numbers : {n : Shape T} {into : T → List (Edge T)} {root : T} {nodes : List T} {marks : List Marks} {before : List (Waiting T)} {ts : List (Taken T)}
      → IsSearching n into root nodes marks before ts → (waiting : List (Waiting T)) (w : Waiting T) → before ≡ waiting ++ w ∷ []
      → (ts' : List (Taken T)) → ts' ≡ take w.depth ts ++ taken w ∷ [] → Each (λ t. At nodes t.number t.side.node) ts'
  next_numbers {n} {into} {root} {nodes} {marks} {before} {ts} s waiting w popped ts' is =
      let P : Taken T → Type 0 = λ t. At nodes t.number t.side.node in
      subst (Each P) (sym is) (each_join P (take w.depth ts) (taken w ∷ [])
      (each_left P (take w.depth ts) (drop w.depth ts) (subst (Each P) (sym (take-append-drop w.depth ts)) s.numbers)) (next_number s waiting w popped, tt))

  -- one turn: a side is taken up, the way leads to it, and each side within a step of it is met
  module _ (n : Shape T) (into : T → List (Edge T)) (root : T) (nodes : List T) (marks : List Marks) (before waiting : List (Waiting T)) (ts : List (Taken T)) (w : Waiting T)
      (known : (v : T) → Each (λ e. Reaches n root e.from) (into v)) (s : IsSearching n into root nodes marks before ts) (popped : before ≡ waiting ++ w ∷ [])
      (no_goal : IsGoal n w.side → ⊥) (nodes' : List T) (marks' : List Marks) (waiting' : List (Waiting T)) (ts' : List (Taken T)) (depth : ℕ)
      (is : ts' ≡ take w.depth ts ++ taken w ∷ []) (deep : depth ≡ length ts')
      (m : Meets (λ q t. IsStep n (into w.side.node) w.side t q) depth nodes marks waiting nodes' marks' waiting')
      (follows : Follows n (into w.side.node) (IsMarked nodes' marks') w.side) where
    this : IsOpen n into root nodes marks ts w
    this = next_open s waiting w popped

    one_deeper : depth ≡ w.depth + 1
    one_deeper =
        let within : w.depth ≤ length ts = this.within in
        omega (arith, deep, ap length is, length-append (take w.depth ts) (taken w ∷ []), length-take w.depth ts)

    below : AreStacked waiting × Each (λ u. u.depth ≤ w.depth) waiting
    below = stacked_last waiting w (subst AreStacked popped s.stacked)

    kept_part : (d : ℕ) → d ≤ w.depth → take d ts' ≡ take d ts
    kept_part d le =
        let within : w.depth ≤ length ts = this.within in
        let long : d ≤ length (take w.depth ts) = omega (arith, length-take w.depth ts) in
        ap (take d) is ∙ take-append-le d (take w.depth ts) (taken w ∷ []) long ∙ take-take d w.depth ts le

    on_way : Each (IsMarked nodes marks) (sides ts')
    on_way =
        let front : Each (IsMarked nodes marks) (sides (take w.depth ts)) =
        each_left (IsMarked nodes marks) (sides (take w.depth ts)) (sides (drop_rest w.depth))
        (subst (Each (IsMarked nodes marks)) (sym (ap sides (take-append-drop w.depth ts)) ∙ sides_join (take w.depth ts) (drop_rest w.depth)) s.on) in
        subst (λ l. Each (IsMarked nodes marks) (sides l)) (sym is)
        (subst (Each (IsMarked nodes marks)) (sym (sides_join (take w.depth ts) (taken w ∷ [])))
        (each_join (IsMarked nodes marks) (sides (take w.depth ts)) (w.side ∷ []) front (this.marked, tt)))
      where
        drop_rest : ℕ → List (Taken T)
        drop_rest d = drop d ts

    numbers_on : Each (λ t. At nodes t.number t.side.node) ts'
    numbers_on = next_numbers s waiting w popped ts' is

    old_open : (u : Waiting T) → u.depth ≤ w.depth → IsOpen n into root nodes marks ts u → IsOpen n into root nodes' marks' ts' u
    old_open u le o = record {
      way = subst (λ l. IsWay n into root (l ++ taken u ∷ [])) (sym (kept_part u.depth le)) o.way;
      within = omega (arith, one_deeper, deep);
      number = m.longer u.number u.side.node o.number;
      marked = m.stays u.side o.marked;
    }

    new_open : (u : Waiting T) → IsNew (λ q t. IsStep n (into w.side.node) w.side t q) depth nodes marks nodes' marks' u → IsOpen n into root nodes' marks' ts' u
    new_open u k =
        let whole : take u.depth ts' ≡ ts' = take_all u.depth ts' (omega (arith, k.depth, deep)) in
        let fresh : Has (sides ts') u.side → ⊥ = λ h. k.fresh (each_has (IsMarked nodes marks) (sides ts') on_way u.side h) in
        record {
          way = subst (λ l. IsWay n into root (l ++ taken u ∷ [])) (sym (whole ∙ is))
              (way_on n into root (take w.depth ts) (taken w) (taken u) this.way k.step (subst (λ l. Has (sides l) u.side → ⊥) is fresh));
          within = omega (arith, k.depth, deep);
          number = k.number;
          marked = k.marked;
        }

    pub searching_on : IsSearching n into root nodes' marks' waiting' ts'
    searching_on = record {
      numbered = m.numbered;
      start = m.stays (far root) s.start;
      reached = each_from (Reaches n root) nodes' (λ v h. elim (m.named v h) [
        | inl old ↦ each_has (Reaches n root) nodes s.reached v old
        | inr new ↦
            let from : Reaches n root w.side.node = each_has (Reaches n root) nodes s.reached w.side.node (at_has nodes w.number w.side.node this.number) in
            subst (Reaches n root) new.3 (reaches_step n into root known w.side new.1 new.0 from new.2)
      ]);
      done = λ p h. elim (m.grown p h) [
        | inl old ↦ elim (s.done p old) [
          | inl waits ↦ elim (has_either (sides_waiting waiting) (w.side ∷ []) p (subst (λ l. Has l p) (ap sides_waiting popped ∙ waiting_join waiting (w ∷ [])) waits)) [
            | inl still ↦ inl (subst (λ l. Has l p) (sym (ap sides_waiting m.opened ∙ waiting_join waiting m.added)) (has_left (sides_waiting waiting) (sides_waiting m.added) p still))
            | inr now ↦ elim now [
              | inl e ↦ inr (subst (λ q. Follows n (into q.node) (IsMarked nodes' marks') q × (IsGoal n q → ⊥)) e (follows, no_goal))
              | inr none ↦ absurd none
            ]
          ]
          | inr over ↦ inr ((λ t q k. m.stays q (over.0 t q k)), over.1)
        ]
        | inr new ↦ inl (subst (λ l. Has l p) (sym (ap sides_waiting m.opened ∙ waiting_join waiting m.added)) (has_right (sides_waiting waiting) (sides_waiting m.added) p new))
      ];
      opens = subst (Each (IsOpen n into root nodes' marks' ts')) (sym m.opened)
          (each_join (IsOpen n into root nodes' marks' ts') waiting m.added
          (each_from (IsOpen n into root nodes' marks' ts') waiting (λ u h.
          old_open u (each_has (λ x. x.depth ≤ w.depth) waiting below.1 u h)
          (each_has (IsOpen n into root nodes marks ts) waiting (each_left (IsOpen n into root nodes marks ts) waiting (w ∷ []) (subst (Each (IsOpen n into root nodes marks ts)) popped s.opens)) u h)))
          (each_as (IsNew (λ q t. IsStep n (into w.side.node) w.side t q) depth nodes marks nodes' marks') (IsOpen n into root nodes' marks' ts') new_open m.added m.each));
      stacked = subst AreStacked (sym m.opened)
          (stacked_join depth waiting m.added below.0
          (each_as (λ u. u.depth ≤ w.depth) (λ u. u.depth ≤ depth) (λ u le. omega (arith, one_deeper)) waiting below.1)
          (each_as (IsNew (λ q t. IsStep n (into w.side.node) w.side t q) depth nodes marks nodes' marks') (λ u. u.depth ≡ depth) (λ u k. k.depth) m.added m.each));
      on = each_as (IsMarked nodes marks) (IsMarked nodes' marks') m.stays (sides ts') on_way;
      numbers = each_as (λ t. At nodes t.number t.side.node) (λ t. At nodes' t.number t.side.node) (λ t k. m.longer t.number t.side.node k) ts' numbers_on;
    }

  pub exhausted : (n : Shape T) (into : T → List (Edge T)) (root : T) (nodes : List T) (marks : List Marks) (waiting : List (Waiting T)) (ts : List (Taken T))
      → IsSearching n into root nodes marks waiting ts → length waiting ≡ 0 → IsExhausted n into root nodes marks
  exhausted n into root nodes marks waiting ts s empty = record {
    numbered = s.numbered;
    start = s.start;
    out = λ p h. elim (s.done p h) [ inl waits ↦ absurd (none waiting empty p waits) | inr over ↦ over ];
  }
    where
      none : (ws : List (Waiting T)) → length ws ≡ 0 → (p : Side T) → Has (sides_waiting ws) p → ⊥
      none [] e p h = h
      none (w ∷ ws) e p h = let c : ⊥ = omega arith in c

  -- a turn takes up one side that waits, and each side that is met sets a mark and waits
  pub searching_falls : {P : Side T → Step → Type 0} {depth : ℕ} {nodes nodes' : List T} {marks marks' : List Marks} {waiting waiting' : List (Waiting T)} (most : ℕ) (before : List (Waiting T)) (w : Waiting T)
      → Meets P depth nodes marks waiting nodes' marks' waiting' → before ≡ waiting ++ w ∷ [] → count_of marks' ≤ most
      → 2 * (most - count_of marks') + length waiting' < 2 * (most - count_of marks) + length before
  searching_falls {P} {depth} {nodes} {nodes'} {marks} {marks'} {waiting} {waiting'} most before w m popped few =
      let count : count_of marks' ≡ count_of marks + length m.added = m.count in
      let opened : length waiting' ≡ length waiting + length m.added = ap length m.opened ∙ length-append waiting m.added in
      let one : length before ≡ length waiting + 1 = ap length popped ∙ length-append waiting (w ∷ []) in
      omega arith

-- what holds where a result is `Ok`
pub ok_as : {A E P Q : Type 0} (r : Result A E) → (P → Q) → OnOk r P → OnOk r Q
ok_as (Ok a) f h = f h
ok_as (Err e) f h = tt

pub if_ok_as : {A E : Type 0} {P Q : A → Type 0} (r : Result A E) → ((a : A) → P a → Q a) → IfOk r P → IfOk r Q
if_ok_as (Ok a) f h = f a h
if_ok_as (Err e) f h = tt
