-- What was read is what the lines of the text say, and its circuit or fault is the text's.
use Rattle.std.proofs.Common.{◌≡◌, ℕ, ◌+◌, ◌≤◌, ◌^◌, List, Bor, length, sym, ap, ◌∙◌, arith}
use Rattle.std.proofs.lemmas.List.{length-map}
use Rattle.aiger_read.specs.Lines.{line_at}
use Rattle.aiger_read.specs.Statements.{defined_in}
use Rattle.aiger_read.specs.Text.{body_of}
use Rattle.aiger_read.specs.Steps.{texts, maybe_texts}
use Rattle.aiger_read.proofs.WholeLemmas.{IsRead, body_few, read_few, read_said, read_sorted, read_ok, read_means, read_fault, read_none}
use Rattle.aiger_read.proofs.read.Goals as goal

pub content_of-requires : goal.content_of-requires
content_of-requires c = read_few c.args.text.now c.deref.result.now (ap texts c.deref.ensures.value ∙ c.in_ok-lines.ensures) c.requires.short

pub circuit_of-requires-clause-few : goal.circuit_of-requires-clause-few
circuit_of-requires-clause-few c =
    let size : length (texts c.deref.result.now) ≡ length c.deref.result.now = length-map c.deref.result.now (λ (w : Bor (List ℕ)). w.now) in
    let few = read_few c.args.text.now c.deref.result.now (ap texts c.deref.ensures.value ∙ c.in_ok-lines.ensures) c.requires.short in
    let bound : length (line_at (texts c.deref.result.now) 0) + length (texts c.deref.result.now) ≤ 2 ^ 32 = omega (arith, few, size) in
    let all = body_few (texts c.deref.result.now) c.in_ok-content.ensures.lawful bound in
    let same : length c.in_ok-content.content.counted.body.items ≡ length (body_of (texts c.deref.result.now)) = ap length c.in_ok-content.ensures.body in
    omega (arith, all, same)

pub circuit_of-requires-clause-variables : goal.circuit_of-requires-clause-variables
circuit_of-requires-clause-variables c =
    let is : IsRead c.args.limits.now c.args.text.now (texts c.deref.result.now) c.in_ok-content.content.header c.in_ok-content.content.counted.body.items (maybe_texts c.deref-2.result.now) = record {
      lines = ap texts c.deref.ensures.value ∙ c.in_ok-lines.ensures;
      lawful = c.in_ok-content.ensures.lawful;
      header = c.in_ok-content.ensures.header;
      body = c.in_ok-content.ensures.body;
      names = ap maybe_texts c.deref-2.ensures.value ∙ c.in_ok-content.ensures.names;
    } in
    c.in_ok-content.ensures.variables ∙ ap defined_in (sym c.in_ok-content.ensures.body) ∙ read_sorted c.args.limits.now c.args.text.now (texts c.deref.result.now) c.in_ok-content.content.header c.in_ok-content.content.counted.body.items (maybe_texts c.deref-2.result.now) is

pub circuit_of-requires-clause-sorted : goal.circuit_of-requires-clause-sorted
circuit_of-requires-clause-sorted c =
    let is : IsRead c.args.limits.now c.args.text.now (texts c.deref.result.now) c.in_ok-content.content.header c.in_ok-content.content.counted.body.items (maybe_texts c.deref-2.result.now) = record {
      lines = ap texts c.deref.ensures.value ∙ c.in_ok-lines.ensures;
      lawful = c.in_ok-content.ensures.lawful;
      header = c.in_ok-content.ensures.header;
      body = c.in_ok-content.ensures.body;
      names = ap maybe_texts c.deref-2.ensures.value ∙ c.in_ok-content.ensures.names;
    } in
    read_sorted c.args.limits.now c.args.text.now (texts c.deref.result.now) c.in_ok-content.content.header c.in_ok-content.content.counted.body.items (maybe_texts c.deref-2.result.now) is

pub circuit_of-requires-clause-said : goal.circuit_of-requires-clause-said
circuit_of-requires-clause-said c =
    let is : IsRead c.args.limits.now c.args.text.now (texts c.deref.result.now) c.in_ok-content.content.header c.in_ok-content.content.counted.body.items (maybe_texts c.deref-2.result.now) = record {
      lines = ap texts c.deref.ensures.value ∙ c.in_ok-lines.ensures;
      lawful = c.in_ok-content.ensures.lawful;
      header = c.in_ok-content.ensures.header;
      body = c.in_ok-content.ensures.body;
      names = ap maybe_texts c.deref-2.ensures.value ∙ c.in_ok-content.ensures.names;
    } in
    read_said c.args.limits.now c.args.text.now (texts c.deref.result.now) c.in_ok-content.content.header c.in_ok-content.content.counted.body.items (maybe_texts c.deref-2.result.now) is

pub returns-clause-circuit : goal.returns-clause-circuit
returns-clause-circuit c =
    let is : IsRead c.args.limits.now c.args.text.now (texts c.deref.result.now) c.in_ok-content.content.header c.in_ok-content.content.counted.body.items (maybe_texts c.deref-2.result.now) = record {
      lines = ap texts c.deref.ensures.value ∙ c.in_ok-lines.ensures;
      lawful = c.in_ok-content.ensures.lawful;
      header = c.in_ok-content.ensures.header;
      body = c.in_ok-content.ensures.body;
      names = ap maybe_texts c.deref-2.ensures.value ∙ c.in_ok-content.ensures.names;
    } in
    read_ok c.args.limits.now c.args.text.now (texts c.deref.result.now) c.in_ok-content.content.header c.in_ok-content.content.counted.body.items (maybe_texts c.deref-2.result.now) c.circuit_of.result is c.circuit_of.ensures.circuit c.circuit_of.ensures.sound c.circuit_of.ensures.whole

pub returns-clause-trace : goal.returns-clause-trace
returns-clause-trace c =
    let is : IsRead c.args.limits.now c.args.text.now (texts c.deref.result.now) c.in_ok-content.content.header c.in_ok-content.content.counted.body.items (maybe_texts c.deref-2.result.now) = record {
      lines = ap texts c.deref.ensures.value ∙ c.in_ok-lines.ensures;
      lawful = c.in_ok-content.ensures.lawful;
      header = c.in_ok-content.ensures.header;
      body = c.in_ok-content.ensures.body;
      names = ap maybe_texts c.deref-2.ensures.value ∙ c.in_ok-content.ensures.names;
    } in
    read_means c.args.limits.now c.args.text.now c.circuit_of.result
    (read_ok c.args.limits.now c.args.text.now (texts c.deref.result.now) c.in_ok-content.content.header c.in_ok-content.content.counted.body.items (maybe_texts c.deref-2.result.now) c.circuit_of.result is c.circuit_of.ensures.circuit c.circuit_of.ensures.sound c.circuit_of.ensures.whole) c.circuit_of.ensures.sound

pub returns-clause-fault : goal.returns-clause-fault
returns-clause-fault c =
    let is : IsRead c.args.limits.now c.args.text.now (texts c.deref.result.now) c.in_ok-content.content.header c.in_ok-content.content.counted.body.items (maybe_texts c.deref-2.result.now) = record {
      lines = ap texts c.deref.ensures.value ∙ c.in_ok-lines.ensures;
      lawful = c.in_ok-content.ensures.lawful;
      header = c.in_ok-content.ensures.header;
      body = c.in_ok-content.ensures.body;
      names = ap maybe_texts c.deref-2.ensures.value ∙ c.in_ok-content.ensures.names;
    } in
    read_fault c.args.limits.now c.args.text.now (texts c.deref.result.now) c.in_ok-content.content.header c.in_ok-content.content.counted.body.items (maybe_texts c.deref-2.result.now) c.circuit_of.result is c.circuit_of.ensures.fault

pub returns-clause-none : goal.returns-clause-none
returns-clause-none c =
    let is : IsRead c.args.limits.now c.args.text.now (texts c.deref.result.now) c.in_ok-content.content.header c.in_ok-content.content.counted.body.items (maybe_texts c.deref-2.result.now) = record {
      lines = ap texts c.deref.ensures.value ∙ c.in_ok-lines.ensures;
      lawful = c.in_ok-content.ensures.lawful;
      header = c.in_ok-content.ensures.header;
      body = c.in_ok-content.ensures.body;
      names = ap maybe_texts c.deref-2.ensures.value ∙ c.in_ok-content.ensures.names;
    } in
    read_none c.args.limits.now c.args.text.now c.circuit_of.result (read_fault c.args.limits.now c.args.text.now (texts c.deref.result.now) c.in_ok-content.content.header c.in_ok-content.content.counted.body.items (maybe_texts c.deref-2.result.now) c.circuit_of.result is c.circuit_of.ensures.fault)
