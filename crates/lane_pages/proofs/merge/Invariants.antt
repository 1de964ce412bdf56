use Rattle.std.proofs.Common.{slice_index}
use Rattle.lane_pages.proofs.Masks.{IsMergedBelow}
use Rattle.lane_pages.proofs.merge.Given as goal

abbrev pub invariant-loop-line : goal.invariant-loop-line
invariant-loop-line l = IsMergedBelow (slice_index l.fn.page) l.mask l.lines l.line (slice_index l.page) l.next
