use Rattle.rrv_model.proofs.OpeningState.{openings_are_states}
use Rattle.rrv_model.proofs.laws.openings_are_states.Goals as goal

pub returns : goal.returns
returns c = openings_are_states
