use Rattle.std.proofs.Common.{◌≡◌, ◌<◌, length, get_or, take, map, ◌∙◌, ap, arith, false}
use Rattle.std.proofs.lemmas.List.{length-set, length-take, take_more, take_more_set, map_push}
use Rattle.tm_bits.specs.Tables.{place_of}
use Rattle.tm_bits.proofs.RowNumbers.{length-bits_of}
use Rattle.prime_cover.proofs.cube.Cube.of_row.Goals as goal

pub loop-index-preserved : goal.loop-index-preserved
loop-index-preserved c =
    let index = c.loop-index.index in
    let bits = c.row_bits-bits.result in
    let enough : index < length bits = omega (arith, ap length c.row_bits-bits.ensures.bits, length-bits_of c.args.inputs c.args.row, length-take c.args.inputs bits) in
    let written = take_more_set c.loop-index.places index c.of.result (omega arith) in
    let more = ap (map place_of) (take_more bits index false enough) ∙ map_push place_of (take index bits) (get_or bits index false) in
    record {
      long = length-set c.loop-index.places index c.of.result ∙ c.loop-index.invariant.long;
      asked = cc (written, more, c.of.ensures, c.loop-index.invariant.asked);
    }

pub returns-clause-places : goal.returns-clause-places
returns-clause-places c =
    let ended : c.loop-index.index ≡ c.args.inputs = omega arith in
    let asked = rw ended at c.loop-index.invariant.asked in
    ap (take c.args.inputs) c.new.ensures.places ∙ asked ∙ ap (map place_of) c.row_bits-bits.ensures.bits
