-- The walks of a drop are walks of the net that is searched.
use Rattle.std.proofs.Common.{ℕ, ◌-◌, List, Global, map, sym, subst}
use Rattle.std.specs.Prelude.{Vec}
use Rattle.tm_flow.specs.Lists.{Each, lists_in}
use Rattle.tm_flow.specs.Nets.{IsIndexWalk}
use Rattle.tm_unroll.specs.Nodes.{node_at}
use Rattle.tm_replay.specs.Replays.{drop_of}
use Rattle.tm_replay.specs.Served.{served}
use Rattle.tm_labels.proofs.KnownLemmas.{known_are_walks}
use Rattle.tm_labels.proofs.find.search.Goals as goal

pub search_from-requires-clause-known : goal.search_from-requires-clause-known
search_from-requires-clause-known c =
    let a = c.args.aim.now in
    let circuit = c.args.circuit.now in
    let labels = c.args.labels.now in
    let within = a.arrival - 1 in
    let root = node_at a.lag a.gate in
    subst (λ (vs : List (Vec ℕ Global)). Each (IsIndexWalk (served a.base circuit labels within) root) (lists_in vs)) (sym c.deref.ensures.value)
    (known_are_walks a.base circuit a.k labels (map drop_of c.args.drops.now) within root (lists_in c.in_ok-known.known.items) c.requires.drops c.in_ok-known.ensures)
