use Rattle.std.proofs.Common.{◌≡◌, ◌<◌, ◌*◌, ℕ, slice_index}
use Rattle.lane_pages.proofs.is_zero.Given as goal

abbrev pub invariant-loop-line : goal.invariant-loop-line
invariant-loop-line l = (k : ℕ) → k < 64 * l.line → slice_index l.page k ≡ 0
