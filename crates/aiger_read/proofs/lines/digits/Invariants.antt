use Rattle.std.proofs.Common.{◌≡◌, ◌<◌, ◌^◌, true, take}
use Rattle.std.specs.Str.{all_ascii_digits}
use Rattle.aiger_read.specs.Lines.{number_in}
use Rattle.aiger_read.proofs.lines.digits.Given as goal

-- the bytes up to here are digits of this value
abbrev pub invariant-loop-byte : goal.invariant-loop-byte
invariant-loop-byte l = (all_ascii_digits (take l.byte-index l.word) ≡ true) × (l.value ≡ number_in (take l.byte-index l.word)) × (l.value < 2 ^ 32)
