-- A row is added at a time.
use Rattle.std.proofs.Common.{◌<◌, ◌≡◌, length, get_or, sym, ap, subst, ◌∙◌, arith}
use Rattle.tm_cone.specs.Values.{HaveBits, bits_in}
use Rattle.tm_bits.specs.Rows.{row_agrees, holds}
use Rattle.tm_cone.proofs.CoverLemmas.{some_starts, some_more, some_is_on, some_is_off}
use Rattle.tm_cone.proofs.covers.cover_lanes.Goals as goal
use Rattle.tm_cone.proofs.covers.cover_lanes.Goals.{then-on, else-on}

pub loop-row-init : goal.loop-row-init
loop-row-init c = some_starts _ _ _ c.zeros-some.ensures

pub loop-row-preserved : goal.loop-row-preserved
loop-row-preserved c =
    let rows = c.args.cover.now.rows in
    let pins = c.args.pins.now in
    let all = c.rows-row-items.ensures.rows in
    let within : c.loop-row.row-index < length rows = omega (arith, ap length all) in
    some_more rows pins c.loop-row.row-index c.row-item.result c.loop-row.some c.row_lanes.result c.either-some.result c.loop-row.invariant within
    (c.row-item.is ∙ ap (λ rs. get_or rs c.loop-row.row-index c.row-item.result) all)
    (subst (λ ps. HaveBits c.row_lanes.result (λ row. row_agrees ps (bits_in row pins))) c.places.ensures c.row_lanes.ensures) c.either-some.ensures

pub returns : goal.returns
returns c =
    let cover = c.args.cover.now in
    let pins = c.args.pins.now in
    let whole : length cover.rows ≡ c.loop-row.row-index = omega (arith, ap length c.rows-row-items.ensures.rows) in
    elim c.if-on.branch [
      | then-on w ↦ subst (λ lanes. HaveBits lanes (λ row. holds cover (bits_in row pins))) (sym w.result-is)
          (some_is_on cover pins c.loop-row.row-index c.loop-row.some c.loop-row.invariant whole (sym c.on.ensures ∙ w.if-on.true))
      | else-on w ↦ subst (λ lanes. HaveBits lanes (λ row. holds cover (bits_in row pins))) (sym w.result-is)
          (some_is_off cover pins c.loop-row.row-index c.loop-row.some w.turned.result c.loop-row.invariant whole (sym c.on.ensures ∙ w.if-on.false) w.turned.ensures)
    ]
