use Rattle.std.proofs.Common.{length, arith, ap}
use Rattle.tm_bits.proofs.Evenness.{even_from_width, width_from_even}
use Rattle.tm_bits.proofs.cover.are_even.Goals as goal

pub returns-in-len1-up : goal.returns-in-len1-up
returns-in-len1-up c =
    let width = ap length c.places.ensures in
    let first = c.first-item in (
      λ said. even_from_width c.args.rows.now _ (c.have_width.ensures.0 said),
      λ even. c.have_width.ensures.1
          (rw width (width_from_even c.args.rows.now first.result (omega arith) first.is even)),
    )
