use Rattle.std.proofs.Common.{◌≡◌, ◌-◌, ◌^◌, take, length, min}
use Rattle.std.specs.Prelude.{sum_by}
use Rattle.trace_text.proofs.text.written_bytes.Given as goal

abbrev pub invariant-loop-range : goal.invariant-loop-range
invariant-loop-range l = l.total ≡ min (sum_by (λ w. length w.bytes) (take l.range-index l.range-items)) (2 ^ 64 - 1)
