use Rattle.std.proofs.Common.{◌≡◌, ◌∙◌, ◌+◌, ℕ, suc, map, replicate, ap, arith, rules}
use Rattle.blif_unit.specs.Unit.{model_of}
use Rattle.blif_flat.specs.Flat.{names_in}
use Rattle.blif_flat.specs.Run.{run_in}
use Rattle.blif_flat.proofs.joiner.joiner.Goals as goal

pub overflow_add-longest : goal.overflow_add-longest
overflow_add-longest c = omega (arith, c.in_units-longest.ensures.small)

pub returns : goal.returns
returns c =
    let made : c.in_ok-vec.field-0.items ≡ replicate (c.in_units-longest.result + 1) 64 = search rules in
    let longest : ℕ = run_in (names_in (map model_of c.args.units.now)) in
    let one : longest + 1 ≡ suc longest = omega arith in
    made ∙ (ap (λ n. replicate (n + 1) 64) c.in_units-longest.ensures.run ∙ ap (λ n. replicate n 64) one)
