use Rattle.rrv_model.proofs.RecoveredLaws.{mark_is_no_text}
use Rattle.rrv_model.proofs.laws.mark_is_no_text.Goals as goal

pub returns : goal.returns
returns c = mark_is_no_text
