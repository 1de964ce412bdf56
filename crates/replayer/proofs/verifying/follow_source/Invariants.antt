use Rattle.std.proofs.Common.{◌≡◌, ◌≤◌, ◌*◌, ◌^◌, ◌↔◌, List, length, take, Some}
use Rattle.std.specs.Prelude.{slice_get}
use Rattle.rrv_model.specs.declared.record.Record.{Record}
use Rattle.replayer.specs.Sourced.{Followed}
use Rattle.replayer.proofs.verifying.follow_source.Given as goal

abbrev pub invariant-loop-index : goal.invariant-loop-index
invariant-loop-index g l = record {
  read : List Record;
  followed : Followed l.first read l.walk;
  count : length read ≡ l.index;
  few : l.index ≤ l.len;
  keeping : l.walk.keeps ≡ l.keeps;
  total : l.walk.total ≤ l.index * 2 ^ 20;
  is : g.S.Source.honest l.fn.source → slice_get (g.S.Source.records l.fn.source) 0 ≡ Some l.first →
      read ≡ take l.index (g.S.Source.records l.fn.source);
  records : g.S.Source.records l.source ≡ g.S.Source.records l.fn.source;
  honest : g.S.Source.honest l.source ↔ g.S.Source.honest l.fn.source;
  withheld : g.S.Source.withheld l.source ≡ g.S.Source.withheld l.fn.source;
}
