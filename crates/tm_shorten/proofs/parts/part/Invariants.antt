-- what went into each part so far
use Rattle.std.proofs.Common.{◌≡◌, ◌+◌, length, vec_len}
use Rattle.tm_shorten.specs.Parts.{marked, unmarked}
use Rattle.tm_shorten.proofs.parts.part.Given as goal

abbrev pub invariant-loop-drop : goal.invariant-loop-drop
invariant-loop-drop l =
    (l.kept.items ≡ marked l.marks l.yielded) × (l.left.items ≡ unmarked l.marks l.yielded) × (vec_len l.kept + vec_len l.left ≡ length l.yielded)
