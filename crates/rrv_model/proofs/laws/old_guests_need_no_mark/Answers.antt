use Rattle.rrv_model.proofs.OldGuests.{old_guests_need_no_mark}
use Rattle.rrv_model.proofs.laws.old_guests_need_no_mark.Goals as goal

pub returns : goal.returns
returns c = old_guests_need_no_mark
