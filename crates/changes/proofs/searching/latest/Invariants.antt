use Rattle.std.proofs.Common.{◌≤◌, length}
use Rattle.changes.proofs.Lasts.{AreUpTo, IsAmong}
use Rattle.changes.proofs.searching.latest.Given as goal

abbrev pub invariant-loop-place : goal.invariant-loop-place
invariant-loop-place l = record {
  within : l.place-index ≤ length l.places;
  among : IsAmong l.places l.place-index l.latest;
  most : AreUpTo l.places l.place-index l.latest;
}
