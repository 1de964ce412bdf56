use Rattle.choices.proofs.Schedules.{empty_list_is_turns, one_turn}
use Rattle.choices.proofs.laws.empty_list_is_turns.Goals as goal

pub returns-clause-empty : goal.returns-clause-empty
returns-clause-empty c = empty_list_is_turns

pub returns-clause-one : goal.returns-clause-one
returns-clause-one c = one_turn
