use Rattle.std.proofs.Common.{◌∙◌, ◌+◌, ◌<◌, List, arith, length, slice_index, subst, sym, ℕ}
use Rattle.std.proofs.lemmas.Nat.Bits.{shr_and_one}
use Rattle.lane_pages.proofs.Masks.{IsMergedBelow, leave_line, line_has, merge_line}
use Rattle.lane_pages.proofs.merge.Goals as goal
use Rattle.lane_pages.proofs.merge.Goals.{then-mask-line-eq1, else-mask-line-eq1}

pub bounds-lines-next : goal.bounds-lines-next
bounds-lines-next c =
    let set = sym (shr_and_one c.args.mask c.loop-line.line) ∙ c.if-mask-line-eq1.true in
    omega (
      arith,
      c.requires,
      c.loop-line.invariant.count,
      line_has c.args.mask c.loop-line.line c.ranges.mask.fits c.loop-line-test.true set,
    )

pub loop-line-preserved : goal.loop-line-preserved
loop-line-preserved c =
    let mask = c.args.mask in
    let lines = c.args.lines.now in
    let line = c.loop-line.line in
    let next = c.loop-line.next in
    let bit = shr_and_one mask line in
    let old = slice_index c.args.page.now in
    let at = λ (page : List ℕ) (n : ℕ). IsMergedBelow old mask lines (line + 1) (slice_index page) n in
    elim c.if-mask-line-eq1.branch [
      | then-mask-line-eq1 w ↦
          let set = sym bit ∙ w.if-mask-line-eq1.true in
          let low : next < length lines =
          omega (arith, c.requires, c.loop-line.invariant.count, line_has mask line c.ranges.mask.fits c.loop-line-test.true set) in
          let put = w.put_line.ensures in
          subst (λ (page : List ℕ). at page c.if-mask-line-eq1.next) (sym w.page-is)
          (subst (at w.put_line.new.page) (sym w.next-is)
          (merge_line old (slice_index c.loop-line.page) (slice_index w.put_line.new.page) mask lines line next _ c.loop-line.invariant set
          low put.before put.line put.after))
      | else-mask-line-eq1 w ↦
          subst (λ (page : List ℕ). at page c.if-mask-line-eq1.next) (sym w.page-is)
          (subst (at c.loop-line.page) (sym w.next-is)
          (leave_line old (slice_index c.loop-line.page) mask lines line next c.loop-line.invariant
          (λ set. w.if-mask-line-eq1.false (bit ∙ set))))
    ]
