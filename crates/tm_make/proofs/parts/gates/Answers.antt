use Rattle.std.proofs.Common.{◌∙◌, ap, map, arith}
use Rattle.std.proofs.lemmas.List.{map_push}
use Rattle.std.proofs.lemmas.List.FromFn.{map-range_with_len_more}
use Rattle.tm_circuit.specs.declared.parts.GatePart.{GatePart}
use Rattle.tm_circuit.specs.Plain.{gate}
use Rattle.tm_make.specs.Sample.{gate_name}
use Rattle.tm_make.specs.SampleCircuit.{gate_drive}
use Rattle.tm_make.proofs.NumberLemmas.{numbers_more, drive_is}
use Rattle.tm_make.proofs.parts.gates.Goals as goal

pub loop-index-preserved : goal.loop-index-preserved
loop-index-preserved c =
    let n = c.args.number in
    let index = c.loop-index.index in
    let before = c.loop-index.invariant in
    let names = map-range_with_len_more gate_name 0 index index (omega arith) in
    let drives = map-range_with_len_more (gate_drive n) 0 index index (omega arith) in
    let pushed = c.in_ok-push.ensures.items in
    let numbers = numbers_more n index c.loop-index.last c.following-first.result c.following-second.result c.following-last.result before.last
    c.following-first.ensures.value c.following-second.ensures.value c.following-last.ensures.value in
    record {
      names =
          ap (map (λ (part : GatePart). part.name)) pushed
          ∙ map_push (λ (part : GatePart). part.name) c.loop-index.gates.items c.in_ok-gate_part.field-0
          ∙ (let named = c.in_ok-gate_part.ensures.name in cc (before.names, names, named));
      drives =
          ap (map (λ (part : GatePart). gate part.pins.items part.cover)) pushed
          ∙ map_push (λ (part : GatePart). gate part.pins.items part.cover) c.loop-index.gates.items c.in_ok-gate_part.field-0
          ∙ (let made = c.in_ok-gate_part.ensures.drive ∙ drive_is n index c.following-first.result c.following-second.result c.following-last.result numbers.0 numbers.1 numbers.3 in
          cc (before.drives, drives, made));
      last = numbers.2;
      below = c.following-last.ensures.below;
    }
