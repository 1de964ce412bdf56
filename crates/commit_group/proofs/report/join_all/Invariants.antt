use Rattle.std.proofs.Common.{◌≡◌, ◌≤◌, ◌++◌, ℕ, List, length, Some}
use Rattle.std.specs.Prelude.{slice_get, slice_index}
use Rattle.crossbeam_queue.specs.Passes.{view}
use Rattle.commit_group.specs.Queue.{received_of}
use Rattle.commit_group.specs.Reports.{IsTakenIn}
use Rattle.commit_group.specs.Seats.{RecorderValue}
use Rattle.commit_group.specs.Started.{AreFlushers, KnowSame}
use Rattle.commit_group.specs.Words.{flusher_of}
use Rattle.commit_group.proofs.report.join_all.Given as goal

abbrev pub invariant-loop-recorder : goal.invariant-loop-recorder
invariant-loop-recorder l = record {
  flusher : AreFlushers l.group l.pass l.seat;
  same : KnowSame l.fn.pass l.pass l.fn.seat l.seat;
  rest : (tail : List RecorderValue) × (l.fn.recorders.items ≡ l.recorders.items ++ tail);
  sizes : (length l.sent ≡ 16) × (length l.seen ≡ 16);
  joined : (k : ℕ) (r : RecorderValue) → length l.recorders.items ≤ k → slice_get l.fn.recorders.items k ≡ Some r
      → IsTakenIn (received_of (view l.fn.pass)) (flusher_of l.fn.seat.me.0) (slice_index l.sent k) (slice_index l.seen k) r;
  zeros : (k : ℕ) → length l.fn.recorders.items ≤ k → (slice_index l.sent k ≡ 0) × (slice_index l.seen k ≡ 0);
}

abbrev pub decreases-loop-recorder : goal.decreases-loop-recorder
decreases-loop-recorder l = length l.recorders.items
