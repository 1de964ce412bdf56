use Rattle.std.proofs.Common.{◌≡◌, List, arith, subst, sym, ◌+◌, ◌∙◌, ap}
use Rattle.std.proofs.lemmas.Nat.Bits.{shr_and_one}
use Rattle.std.specs.List.{AllByRecursion}
use Rattle.rrv_model.specs.declared.record.Line.{Line}
use Rattle.rrv_model.specs.RecordText.{HasLineText}
use Rattle.checkpoint.specs.Made.{AreLinesOf}
use Rattle.checkpoint.proofs.Made.{AreLinesBelow, all_lines, line_more, line_skipped, no_lines}
use Rattle.checkpoint.proofs.making.masked_lines.Goals as goal
use Rattle.checkpoint.proofs.making.masked_lines.Goals.{then-mask-line-eq1+in-Ok, else-mask-line-eq1}

pub loop-line-init : goal.loop-line-init
loop-line-init c = no_lines c.args.bytes.now c.args.mask c.in_ok-lines.lines.items c.in_ok-lines.ensures.items

pub loop-line-preserved : goal.loop-line-preserved
loop-line-preserved c =
    let bytes = c.args.bytes.now in
    let mask = c.args.mask in
    let line = c.loop-line.line in
    let lines = c.loop-line.lines.items in
    let bit = shr_and_one mask line in
    elim c.if-mask-line-eq1.branch [
      | then-mask-line-eq1+in-Ok w ↦
          let items = ap (λ v. v.items) w.lines-is ∙ w.in-Ok.ensures.items in
          subst (λ (ls : List Line). AreLinesBelow bytes mask (line + 1) ls) (sym items)
          (line_more bytes mask line lines w.line_at.result c.loop-line.invariant (sym bit ∙ w.if-mask-line-eq1.true)
          w.line_at.ensures.bytes w.line_at.ensures.text)
      | else-mask-line-eq1 w ↦
          subst (λ (ls : List Line). AreLinesBelow bytes mask (line + 1) ls) (sym (ap (λ v. v.items) w.lines-is))
          (line_skipped bytes mask line lines c.loop-line.invariant (λ set. w.if-mask-line-eq1.false (bit ∙ set)))
    ]

pub returns-clause-lines : goal.returns-clause-lines
returns-clause-lines c =
    let bytes = c.args.bytes.now in
    let end : c.loop-line.line ≡ 64 = omega (arith, c.loop-line-test.false, c.loop-line.auto.line-end) in
    subst (λ (ls : List Line). AreLinesOf bytes c.args.mask ls) (sym c.from_vec.ensures)
    (all_lines bytes c.args.mask c.loop-line.lines.items c.ranges.mask.fits
    (subst (λ n. AreLinesBelow bytes c.args.mask n c.loop-line.lines.items) end c.loop-line.invariant))

pub returns-clause-texts : goal.returns-clause-texts
returns-clause-texts c = subst (λ (ls : List Line). AllByRecursion HasLineText ls) (sym c.from_vec.ensures) c.loop-line.invariant.texts
