-- All nodes are added: there is room for as many as the list has.
use Rattle.tm_unroll.proofs.AddLemmas.{all_ordered}
use Rattle.tm_unroll.proofs.replace.in_order.Goals as goal

pub returns-clause-order : goal.returns-clause-order
returns-clause-order c =
    all_ordered c.args.nodes.now c.new-ordered.result.items c.add_nodes.new.ascending.items c.in_ok-add_nodes.field-0 c.new-ordered.ensures.items c.in_ok-add_nodes.ensures.all
