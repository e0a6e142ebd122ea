use Rattle.std.proofs.Common.{◌∙◌, ap, insert, arith}
use Rattle.tm_flow.proofs.FlowLemmas.{on_walk_within, on_walk_place, exchanges}
use Rattle.tm_flow.proofs.flow.exchange_at.Goals as goal

pub remove-walk-requires : goal.remove-walk-requires
remove-walk-requires g c = omega (arith, on_walk_within (λ w. w.items) c.args.walks.now.items c.args.which c.args.place c.requires.0 c.requires.1)

pub exchange-requires : goal.exchange-requires
exchange-requires g c =
    on_walk_place (λ w. w.items) c.args.walks.now.items c.args.which c.args.place c.requires.0 c.remove-walk.result c.requires.1 c.remove-walk.ensures.value

pub returns : goal.returns
returns g c e on =
    exchanges (λ w. w.items) c.args.walks.now.items c.insert.new.self.items c.args.which c.args.place e c.remove-walk.result c.exchange.new.walk _ c.exchange.new.rest.items
    on c.remove-walk.ensures.value c.in_ok-exchange.ensures.walk c.in_ok-exchange.ensures.rest
    (c.in_ok-insert.ensures.items ∙ ap (λ l. insert l c.args.which c.exchange.new.walk) c.remove-walk.ensures.items)
