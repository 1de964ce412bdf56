use Rattle.rrv_model.proofs.StateLaws.{recorded_states_are_states}
use Rattle.rrv_model.proofs.laws.recorded_states_are_states.Goals as goal

pub returns : goal.returns
returns c = recorded_states_are_states
