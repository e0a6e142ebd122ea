use Rattle.std.proofs.Common.{◌++◌, [], ◌∷◌, length, map, take, refl, sym, subst, ap, ◌∙◌, arith, option_to_list}
use Rattle.std.proofs.lemmas.List.{append-nil}
use Rattle.tm_flow.specs.Lists.{lists_in}
use Rattle.tm_flow.specs.Flows.{Leads, all_edges_to}
use Rattle.tm_flow.specs.Searches.{unmet}
use Rattle.tm_flow.specs.declared.search.Step.TheVariants.{Cross}
use Rattle.tm_flow.proofs.Finite.{most_marks, marks_within}
use Rattle.tm_flow.proofs.ListLemmas.{each_as}
use Rattle.tm_flow.proofs.MarkLemmas.{none_marked, used_unmet}
use Rattle.tm_flow.proofs.WalkLemmas.{flow_reaches}
use Rattle.tm_flow.proofs.SearchLemmas.{IsSearching, searching_first, searching_on, searching_falls, exhausted, next_number, next_numbers, next_way, last_side, taken}
use Rattle.tm_flow.proofs.search.find_walk.Given as given
use Rattle.tm_flow.proofs.search.find_walk.Goals as goal
use Rattle.tm_flow.proofs.search.find_walk.Goals.{In_ok-hand}

-- the far side of the root
pub loop-next-init : goal.loop-next-init
loop-next-init g c =
    let met = c.args.memory.now.search.met in
    let new = c.begin.new.memory in
    record {
      searching =
          subst (λ l. IsSearching (g.N.LazyNet.shape c.args.net.now) (λ v. all_edges_to g.N.Node.PartialEq.eq v (lists_in c.args.walks.now)) c.args.root
          new.search.met.nodes.keys new.search.met.marks.items l new.way.items) (sym (append-nil new.search.pending.items))
          (searching_first (g.N.LazyNet.shape c.args.net.now) (λ v. all_edges_to g.N.Node.PartialEq.eq v (lists_in c.args.walks.now)) c.args.root
          met.nodes.keys new.search.met.nodes.keys (map unmet met.marks.items) new.search.met.marks.items new.search.pending.items new.way.items Cross
          (none_marked met.nodes.keys met.marks.items) c.requires.known.reached c.in_ok-begin.ensures.meets c.in_ok-begin.ensures.met c.in_ok-begin.ensures.way);
      used = λ e h. c.in_ok-begin.ensures.meets.used e.to (used_unmet met.nodes.keys met.marks.items e.to (c.requires.known.used e h));
    }

pub meet_next-requires-clause-walks : goal.meet_next-requires-clause-walks
meet_next-requires-clause-walks g c =
    let n = g.N.LazyNet.shape c.args.net.now in
    each_as (Leads n c.args.root) (λ w. (x : g.row.N-Node.Denot) × Leads n x w) (λ w l. (c.args.root, l)) (lists_in c.args.walks.now) c.requires.walks

pub meet_next-requires-clause-numbered : goal.meet_next-requires-clause-numbered
meet_next-requires-clause-numbered g c = c.loop-next.invariant.searching.numbered

pub meet_next-requires-clause-number : goal.meet_next-requires-clause-number
meet_next-requires-clause-number g c = next_number c.loop-next.invariant.searching c.take_up.new.pending.items c.in-Some.next c.in-Some.ensures.next

pub meet_next-requires-clause-used : goal.meet_next-requires-clause-used
meet_next-requires-clause-used g c = c.loop-next.invariant.used

-- a turn
turn : (g : given.Over) (c : In_ok-hand g) → IsSearching (g.N.LazyNet.shape c.args.net.now) (λ v. all_edges_to g.N.Node.PartialEq.eq v (lists_in c.args.walks.now)) c.args.root
    c.meet_next.new.memory.search.met.nodes.keys c.meet_next.new.memory.search.met.marks.items
    (c.meet_next.new.memory.search.pending.items ++ option_to_list c.in_ok-hand.hand) c.push.new.self.items
turn g c =
    let n = g.N.LazyNet.shape c.args.net.now in
    let eq = g.N.Node.PartialEq.eq in
    let search = c.loop-next.memory.search in
    let new = c.meet_next.new.memory.search in
    searching_on n (λ v. all_edges_to eq v (lists_in c.args.walks.now)) c.args.root search.met.nodes.keys search.met.marks.items
    (search.pending.items ++ option_to_list c.loop-next.hand) c.take_up.new.pending.items c.loop-next.memory.way.items c.in-Some.next (flow_reaches n eq c.args.root (lists_in c.args.walks.now) c.requires.walks)
    c.loop-next.invariant.searching c.in-Some.ensures.next
    (c.is_goal.ensures.no c.if-is_goal.false) new.met.nodes.keys new.met.marks.items
    (new.pending.items ++ option_to_list c.in_ok-hand.hand) c.push.new.self.items (length c.push.new.self.items) (c.in_ok-push.ensures.items ∙ ap (λ t. c.truncate.new.self.items ++ t ∷ []) c.taken_up.ensures ∙ ap (λ l. l ++ taken c.in-Some.next ∷ []) c.truncate.ensures.items) refl
    c.in_ok-hand.ensures.meets c.in_ok-hand.ensures.follows

pub loop-next-smaller : goal.loop-next-smaller
loop-next-smaller g c =
    let s = turn g c in
    searching_falls (most_marks (g.N.LazyNet.shape c.args.net.now) c.args.root) (c.loop-next.memory.search.pending.items ++ option_to_list c.loop-next.hand) c.in-Some.next c.in_ok-hand.ensures.meets c.in-Some.ensures.next
    (marks_within (g.N.LazyNet.shape c.args.net.now) (g.met.N.LazyNet.rank_falls c.args.net.now) (g.met.N.LazyNet.rank_below c.args.net.now) c.args.root
    c.meet_next.new.memory.search.met.nodes.keys c.meet_next.new.memory.search.met.marks.items s.numbered s.reached)

pub loop-next-preserved : goal.loop-next-preserved
loop-next-preserved g c =
    let new = c.meet_next.new.memory.search in
    record {
      searching = subst (IsSearching (g.N.LazyNet.shape c.args.net.now) (λ v. all_edges_to g.N.Node.PartialEq.eq v (lists_in c.args.walks.now)) c.args.root
          new.met.nodes.keys new.met.marks.items (new.pending.items ++ option_to_list c.in_ok-hand.hand)) (sym c.in_ok-hand.ensures.way) (turn g c);
      used = λ e h. c.in_ok-hand.ensures.meets.used e.to (c.loop-next.invariant.used e h);
    }

pub returns-then-is_goal-clause-outcome : goal.returns-then-is_goal-clause-outcome
returns-then-is_goal-clause-outcome g c =
    let is = c.in_ok-push.ensures.items ∙ ap (λ t. c.truncate.new.self.items ++ t ∷ []) c.taken_up.ensures ∙ ap (λ l. l ++ taken c.in-Some.next ∷ []) c.truncate.ensures.items in (
      next_way c.loop-next.invariant.searching c.take_up.new.pending.items c.in-Some.next c.in-Some.ensures.next c.push.new.self.items is,
      (
        c.in-Some.next.side,
        last_side (take c.in-Some.next.depth c.loop-next.memory.way.items) c.push.new.self.items (taken c.in-Some.next) is,
        c.is_goal.ensures.yes c.if-is_goal.true,
      ),
    )

pub returns-then-is_goal-clause-known : goal.returns-then-is_goal-clause-known
returns-then-is_goal-clause-known g c = record {
  numbered = c.loop-next.invariant.searching.numbered;
  reached = c.loop-next.invariant.searching.reached;
  used = c.loop-next.invariant.used;
}

pub returns-then-is_goal-clause-numbers : goal.returns-then-is_goal-clause-numbers
returns-then-is_goal-clause-numbers g c =
    next_numbers c.loop-next.invariant.searching c.take_up.new.pending.items c.in-Some.next c.in-Some.ensures.next c.push.new.self.items
    (c.in_ok-push.ensures.items ∙ ap (λ t. c.truncate.new.self.items ++ t ∷ []) c.taken_up.ensures ∙ ap (λ l. l ++ taken c.in-Some.next ∷ []) c.truncate.ensures.items)

pub returns-clause-outcome : goal.returns-clause-outcome
returns-clause-outcome g c =
    exhausted (g.N.LazyNet.shape c.args.net.now) (λ v. all_edges_to g.N.Node.PartialEq.eq v (lists_in c.args.walks.now)) c.args.root
    c.loop-next.memory.search.met.nodes.keys c.loop-next.memory.search.met.marks.items
    (c.loop-next.memory.search.pending.items ++ option_to_list c.loop-next.hand) c.loop-next.memory.way.items c.loop-next.invariant.searching
    (ap length c.in_default.ensures.over)

pub returns-clause-known : goal.returns-clause-known
returns-clause-known g c = record {
  numbered = c.loop-next.invariant.searching.numbered;
  reached = c.loop-next.invariant.searching.reached;
  used = c.loop-next.invariant.used;
}

pub returns-clause-numbers : goal.returns-clause-numbers
returns-clause-numbers g c = c.loop-next.invariant.searching.numbers
