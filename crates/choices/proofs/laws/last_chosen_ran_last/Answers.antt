use Rattle.choices.proofs.Scheduled.{last_chosen_ran_last, nothing_keeps_last}
use Rattle.choices.proofs.laws.last_chosen_ran_last.Goals as goal

pub returns-clause-ran : goal.returns-clause-ran
returns-clause-ran c = last_chosen_ran_last

pub returns-clause-nothing : goal.returns-clause-nothing
returns-clause-nothing c = nothing_keeps_last
