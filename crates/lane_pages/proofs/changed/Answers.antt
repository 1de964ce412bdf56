use Rattle.std.proofs.Common.{◌+◌, slice_index, subst, sym, ◌∙◌}
use Rattle.std.proofs.lemmas.Bool.{false≢true}
use Rattle.lane_pages.proofs.Masks.{IsMaskBelow, differ_in_line, with_bit, without_bit}
use Rattle.lane_pages.proofs.changed.Goals as goal
use Rattle.lane_pages.proofs.changed.Goals.{then-differ, else-differ}

pub loop-line-preserved : goal.loop-line-preserved
loop-line-preserved c =
    let a = slice_index c.args.ours.now in
    let b = slice_index c.args.theirs.now in
    let line = c.loop-line.line in
    let told = differ_in_line a b line c.line_at.result.now c.line_at-in-loop-line.result.now c.line_at.ensures
    c.line_at-in-loop-line.ensures in
    elim c.if-differ.branch [
      | then-differ w ↦
          subst (IsMaskBelow a b (line + 1)) (sym w.mask-is)
          (with_bit a b line c.loop-line.mask c.loop-line-test.true c.loop-line.invariant (told.0 (c.differ.ensures.0 w.if-differ.true)))
      | else-differ w ↦
          subst (IsMaskBelow a b (line + 1)) (sym w.mask-is)
          (without_bit a b line c.loop-line.mask c.loop-line.invariant
          (λ d. false≢true (sym w.if-differ.false ∙ c.differ.ensures.1 (told.1 d))))
    ]
