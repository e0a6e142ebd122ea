-- The words of the line, one after another.
use Rattle.std.proofs.Common.{◌≡◌, ◌∙◌, ap}
use Rattle.tm_unroll.specs.declared.node.Lut.{Lut}
use Rattle.tm_unroll.specs.Mappings.{table_of}
use Rattle.cert_text.proofs.WriteLemmas.{table_written}
use Rattle.cert_text.proofs.writing.push_table.Goals as goal

pub returns : goal.returns
returns c =
    let gate : c.from.result ≡ c.args.lut.now.gate = c.from.ensures ∙ ap (λ (l : Lut). l.gate) c.lut.view_is in
    let lag : c.from-2.result ≡ c.args.lut.now.lag = first_of (search (c.from-2.ensures), search (c.from-2.ensures ∙ ap (λ (l : Lut). l.lag) c.lut.view_is)) in
    let leaves : c.as_slice.result.now ≡ c.args.lut.now.leaves.items = first_of (search (c.as_slice.ensures), search (c.as_slice.ensures ∙ ap (λ (l : Lut). l.leaves.items) c.lut.view_is)) in
    table_written (table_of c.args.lut.now) c.from.result c.from-2.result c.as_slice.result.now c.args.out.now.items c.extend_from_slice.new.self.items c.push_further_number.new.out.items
    c.push_further_number-2.new.out.items c.push_leaves.new.out.items c.push.new.self.items
    gate lag leaves
    c.in_ok-extend_from_slice.ensures.items c.in_ok-push_further_number.ensures c.in_ok-push_further_number-2.ensures c.in_ok-push_leaves.ensures c.in_ok-push.ensures.items
