use Rattle.std.proofs.Common.{◌≡◌, ◌+◌, ◌*◌, ◌%◌, ◌∙◌, ap, arith, inl, inr, slice_index, sym}
use Rattle.std.proofs.lemmas.Bool.{cases_lt}
use Rattle.lane_pages.proofs.is_zero.Goals as goal

pub loop-line-preserved : goal.loop-line-preserved
loop-line-preserved c k below = elim (cases_lt k (64 * c.loop-line.line)) [
  | inl l ↦ c.loop-line.invariant k l
  | inr g ↦
      let place : 64 * c.loop-line.line + k % 64 ≡ k = omega (arith, below, g) in
      ap (slice_index c.args.page.now) (sym place) ∙ sym (c.line_at.ensures (k % 64) (omega arith))
      ∙ c.are_zero.ensures.0 c.if-not-are_zero.false (k % 64) (omega arith)
]
