-- The words of the line, one after another.
use Rattle.std.proofs.Common.{◌≡◌, ◌∙◌, ap}
use Rattle.tm_flow.specs.Lists.{lists_in}
use Rattle.tm_replay.specs.declared.label.Lowering.{Lowering}
use Rattle.tm_replay.specs.Replays.{drop_of}
use Rattle.cert_text.proofs.WriteLemmas.{drop_written}
use Rattle.cert_text.proofs.writing.push_drop.Goals as goal

pub returns : goal.returns
returns c =
    let gate : c.from.result ≡ c.args.drop.now.gate = c.from.ensures ∙ ap (λ (d : Lowering). d.gate) c.drop.view_is in
    let lag : c.from-2.result ≡ c.args.drop.now.lag = first_of (search (c.from-2.ensures), search (c.from-2.ensures ∙ ap (λ (d : Lowering). d.lag) c.drop.view_is)) in
    let arrival : c.from-3.result ≡ c.args.drop.now.arrival = first_of (search (c.from-3.ensures), search (c.from-3.ensures ∙ ap (λ (d : Lowering). d.arrival) c.drop.view_is)) in
    let walks : c.deref.result.now ≡ c.args.drop.now.walks.items = first_of (search (c.deref.ensures.value), search (c.deref.ensures.value ∙ ap (λ (d : Lowering). d.walks.items) c.drop.view_is)) in
    drop_written (drop_of c.args.drop.now) c.from.result c.from-2.result c.from-3.result (lists_in c.deref.result.now) c.args.out.now.items c.extend_from_slice.new.self.items
    c.push_further_number.new.out.items c.push_further_number-2.new.out.items c.push_further_number-3.new.out.items c.push_walks.new.out.items c.push.new.self.items
    gate lag arrival (ap lists_in walks)
    c.in_ok-extend_from_slice.ensures.items c.in_ok-push_further_number.ensures c.in_ok-push_further_number-2.ensures c.in_ok-push_further_number-3.ensures
    c.in_ok-push_walks.ensures c.in_ok-push.ensures.items
