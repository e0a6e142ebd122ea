use Rattle.std.proofs.Common.{◌≡◌, ◌<◌, ◌^◌, drop}
use Rattle.prime_cover.specs.Cubes.{order_from}
use Rattle.prime_cover.proofs.cube.order_of.Given as goal

-- the number so far, which the places that are left go on from
abbrev pub invariant-loop-place : goal.invariant-loop-place
invariant-loop-place l = record {
  goes_on : order_from l.order (drop l.place-index l.places) ≡ order_from 0 l.places;
  below : l.order < 3 ^ l.place-index;
}
