use Rattle.choices.proofs.Schedules.{schedules_are_lists}
use Rattle.choices.proofs.laws.schedules_are_lists.Goals as goal

pub returns : goal.returns
returns c = schedules_are_lists
