use Rattle.std.proofs.Common.{◌-◌, ◌≤◌}
use Rattle.sha2.specs.Hashers.{Holds256}
use Rattle.guest_pages.specs.Space.{memory_of}
use Rattle.trace_text.specs.Digest.{pieces_below}
use Rattle.trace_text.proofs.memory_digest.digest_of.Given as goal

abbrev pub invariant-loop-number : goal.invariant-loop-number
invariant-loop-number l = record {
  low : l.least ≤ 0x80000;
  held : Holds256 l.hasher (pieces_below l.least (memory_of l.fn.space));
}

abbrev pub decreases-loop-number : goal.decreases-loop-number
decreases-loop-number l = 0x80000 - l.least
