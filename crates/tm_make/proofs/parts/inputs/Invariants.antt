use Rattle.std.proofs.Common.{◌≡◌, map}
use Rattle.std.specs.List.{range_with_len}
use Rattle.tm_make.specs.Sample.{input_name}
use Rattle.tm_make.proofs.parts.inputs.Given as goal

-- the inputs up to here
abbrev pub invariant-loop-index : goal.invariant-loop-index
invariant-loop-index l = l.inputs.items ≡ map input_name (range_with_len 0 l.index)
