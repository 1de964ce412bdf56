use Rattle.std.proofs.Common.{◌≡◌, ◌≤◌, ◌-◌, List, length, take, Some}
use Rattle.std.specs.Prelude.{slice_get}
use Rattle.rrv_model.specs.declared.record.Record.{Record}
use Rattle.replayer.specs.Following.{standing_of}
use Rattle.replayer.specs.Standings.{IsReached}
use Rattle.spans.proofs.Told.{SameSource}
use Rattle.spans.proofs.verifying.follow_source.Given as goal

abbrev pub invariant-loop-next : goal.invariant-loop-next
invariant-loop-next g l = record {
  read : List Record;
  reached : IsReached (standing_of l.following) read;
  keeps : g.K.Keep.is_of l.kept read;
  count : length read ≡ l.next;
  few : l.next ≤ l.len;
  is : g.S.Source.honest l.fn.source → slice_get (g.S.Source.records l.fn.source) 0 ≡ Some l.first →
      read ≡ take l.next (g.S.Source.records l.fn.source);
  same : SameSource g.S.Source l.fn.source l.source;
}

abbrev pub decreases-loop-next : goal.decreases-loop-next
decreases-loop-next g l = l.len - l.next
