use Rattle.std.proofs.Common.{◌≡◌, ◌≤◌, ◌+◌, length}
use Rattle.spans.specs.Reading.{Reads}
use Rattle.spans.proofs.Told.{SameSource}
use Rattle.spans.proofs.reading.read_batch.Given as goal

abbrev pub invariant-loop-index : goal.invariant-loop-index
invariant-loop-index g l = record {
  reads : Reads g.S.Source l.from l.batch.items l.fn.source;
  count : l.from + length l.batch.items ≡ l.index;
  few : l.index ≤ l.len;
  same : SameSource g.S.Source l.fn.source l.source;
}
