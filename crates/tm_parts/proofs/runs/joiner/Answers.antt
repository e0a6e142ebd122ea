use Rattle.std.proofs.Common.{◌≡◌, ℕ, suc, ◌+◌, ◌≤◌, ◌++◌, map, length, replicate, ◌∙◌, ap, arith, rules}
use Rattle.tm_circuit.specs.Plain.{greatest}
use Rattle.tm_circuit.specs.Sound.{clock_name}
use Rattle.tm_parts.specs.Runs.{longest_run}
use Rattle.tm_parts.proofs.Measures.{greatest_more, greatest_all, greatest_runs}
use Rattle.tm_parts.proofs.NameLemmas.{names_short}
use Rattle.tm_parts.proofs.runs.joiner.Goals as goal

pub loop-s-preserved : goal.loop-s-preserved
loop-s-preserved c =
    greatest_more c.args.wanted c.args.circuit.now.names c.loop-s.s c.name.result.now (greatest (map (longest_run c.args.wanted) (clock_name c.args.circuit.now.clock))) c.loop-s.longest c.max-longest.result c.longest_run.result c.name.ensures c.loop-s.invariant (c.longest_run.ensures ∙ ap (longest_run c.args.wanted) c.bytes.ensures) c.max-longest.ensures

pub overflow_add-longest : goal.overflow_add-longest
overflow_add-longest c =
    let sound = c.signals-s-end.ensures.sound in
    let named = sound.named in
    let all : length c.args.circuit.now.names ≤ c.loop-s.s = omega arith in
    let is : c.loop-s.longest ≡ greatest (map (longest_run c.args.wanted) (c.args.circuit.now.names ++ clock_name c.args.circuit.now.clock)) = greatest_all c.args.wanted c.args.circuit.now.names (clock_name c.args.circuit.now.clock) c.loop-s.s c.loop-s.longest all c.loop-s.invariant in
    let small : greatest (map (longest_run c.args.wanted) (c.args.circuit.now.names ++ clock_name c.args.circuit.now.clock)) ≤ 1023 = greatest_runs c.args.wanted 1023 (c.args.circuit.now.names ++ clock_name c.args.circuit.now.clock) (names_short c.args.circuit.now sound) in
    omega arith

pub returns : goal.returns
returns c =
    let sound = c.signals-s-end.ensures.sound in
    let named = sound.named in
    let all : length c.args.circuit.now.names ≤ c.loop-s.s = omega arith in
    let is : c.loop-s.longest ≡ greatest (map (longest_run c.args.wanted) (c.args.circuit.now.names ++ clock_name c.args.circuit.now.clock)) = greatest_all c.args.wanted c.args.circuit.now.names (clock_name c.args.circuit.now.clock) c.loop-s.s c.loop-s.longest all c.loop-s.invariant in
    let made : c.in_ok-vec.field-0.items ≡ replicate (c.loop-s.longest + 1) c.args.wanted = search rules in
    let longest : ℕ = greatest (map (longest_run c.args.wanted) (c.args.circuit.now.names ++ clock_name c.args.circuit.now.clock)) in
    let one : longest + 1 ≡ suc longest = omega arith in
    made ∙ (ap (λ n. replicate (n + 1) c.args.wanted) is ∙ ap (λ n. replicate n c.args.wanted) one)
