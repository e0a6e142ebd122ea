use Rattle.std.proofs.Common.{◌≡◌, length, map, take}
use Rattle.tm_bits.specs.Tables.{place_of}
use Rattle.prime_cover.proofs.cube.Cube.of_row.Given as goal

-- the places up to here ask for the bits
abbrev pub invariant-loop-index : goal.invariant-loop-index
invariant-loop-index l = record {
  long : length l.places ≡ 8;
  asked : take l.index l.places ≡ map place_of (take l.index l.bits);
}
