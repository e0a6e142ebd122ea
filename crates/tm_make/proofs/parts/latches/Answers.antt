use Rattle.std.proofs.Common.{◌≡◌, ◌+◌, ◌*◌, ◌/◌, ◌%◌, eqb, ◌∙◌, ap, map, arith}
use Rattle.std.proofs.lemmas.List.{map_push}
use Rattle.std.proofs.lemmas.List.FromFn.{map-range_with_len_more}
use Rattle.tm_circuit.specs.declared.parts.LatchPart.{LatchPart}
use Rattle.tm_circuit.specs.Plain.{latch}
use Rattle.tm_make.specs.Sample.{latch_name}
use Rattle.tm_make.specs.SampleCircuit.{latch_drive}
use Rattle.tm_make.proofs.parts.latches.Goals as goal

pub loop-index-preserved : goal.loop-index-preserved
loop-index-preserved c =
    let n = c.args.number in
    let index = c.loop-index.index in
    let names = map-range_with_len_more latch_name 0 index index (omega arith) in
    let drives = map-range_with_len_more (latch_drive c.args.number) 0 index index (omega arith) in
    let pushed = c.in_ok-push.ensures.items in
    record {
      names =
          ap (map (λ (part : LatchPart). part.name)) pushed
          ∙ map_push (λ (part : LatchPart). part.name) c.loop-index.latches.items _
          ∙ (let named = c.in_ok-name.ensures in cc (c.loop-index.invariant.names, names, named));
      drives =
          ap (map (λ (part : LatchPart). latch part.next part.init)) pushed
          ∙ map_push (λ (part : LatchPart). latch part.next part.init) c.loop-index.latches.items _
          ∙ (let signal : 8 + n / 4 + 4 * index + 3 ≡ 8 + n / 4 + (4 * index + 3) = omega arith in
          let made = ap (λ next. latch next (eqb (index % 2) 1)) signal in
          cc (c.loop-index.invariant.drives, drives, made));
    }
