use Rattle.std.proofs.Common.{slice_index}
use Rattle.lane_pages.proofs.Masks.{IsMaskBelow}
use Rattle.lane_pages.proofs.changed.Given as goal

abbrev pub invariant-loop-line : goal.invariant-loop-line
invariant-loop-line l = IsMaskBelow (slice_index l.ours) (slice_index l.theirs) l.line l.mask
