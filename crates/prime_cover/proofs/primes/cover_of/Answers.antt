use Rattle.std.proofs.Common.{◌≡◌, ◌≤◌, length, map, ◌∙◌, ap, arith}
use Rattle.std.proofs.lemmas.List.{take_all}
use Rattle.std.proofs.lemmas.Bool.{true≢false}
use Rattle.tm_bits.specs.Rows.{AreEven}
use Rattle.prime_cover.specs.Found.{row_of}
use Rattle.prime_cover.proofs.CoverLemmas.{rows_even}
use Rattle.prime_cover.proofs.primes.cover_of.Goals as goal

pub unreachable-requires : goal.unreachable-requires
unreachable-requires c =
    let ended : length c.args.cubes.now ≤ c.loop-cube.cube-index = omega arith in
    let all : c.loop-cube.rows.items ≡ map row_of c.args.cubes.now
    = c.loop-cube.invariant ∙ ap (map row_of) (take_all c.loop-cube.cube-index c.args.cubes.now ended) in
    let even : AreEven c.loop-cube.rows.items = rw all (rows_even c.args.cubes.now c.requires) in
    c.in-None.ensures (record { lengths = even; off_has_row = λ off. absurd (true≢false off) })
