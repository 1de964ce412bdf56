use Rattle.rrv_model.proofs.FreePlaces.{highest_free_is_found}
use Rattle.rrv_model.proofs.laws.highest_free_is_found.Goals as goal

pub returns : goal.returns
returns c = highest_free_is_found
