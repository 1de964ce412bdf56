use Rattle.checkpoint.proofs.Made.{AreLinesBelow}
use Rattle.checkpoint.proofs.making.masked_lines.Given as goal

abbrev pub invariant-loop-line : goal.invariant-loop-line
invariant-loop-line l = AreLinesBelow l.bytes l.mask l.line l.lines.items
