use Rattle.std.specs.Prelude.{IfSome}
use Rattle.spans.specs.Spans.{IsCut}
use Rattle.spans.proofs.cutting.cut_of.Given as goal

abbrev pub invariant-loop-place : goal.invariant-loop-place
invariant-loop-place l = IfSome l.last (IsCut l.records)
