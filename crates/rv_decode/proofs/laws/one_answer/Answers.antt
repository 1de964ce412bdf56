use Rattle.std.proofs.Common.{Some, None, ap, refl}
use Rattle.rrv_model.proofs.InstructionLaws.{one_row}
use Rattle.rv_decode.specs.Answers.{OneAnswer}
use Rattle.rv_decode.proofs.laws.one_answer.Goals as goal

by_rows : OneAnswer
by_rows w None None h k = refl
by_rows w None (Some j) h k = absurd (h j k)
by_rows w (Some i) None h k = absurd (k i h)
by_rows w (Some i) (Some j) h k = ap Some (one_row w i j h k)

pub returns : goal.returns
returns c = by_rows
