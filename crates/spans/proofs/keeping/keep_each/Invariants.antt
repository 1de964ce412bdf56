use Rattle.std.proofs.Common.{◌≡◌, ◌+◌, ◌++◌, List, take}
use Rattle.rrv_model.specs.declared.record.Record.{Record}
use Rattle.replayer.specs.Keepers.{IsKept}
use Rattle.spans.proofs.keeping.keep_each.Given as goal

abbrev pub invariant-loop-entry : goal.invariant-loop-entry
invariant-loop-entry l = record {
  kept : (read : List Record) → IsKept l.fn.keeper read → IsKept l.keeper (read ++ take l.entry-index l.records);
  len : l.keeper.len ≡ l.fn.keeper.len + l.entry-index;
}
