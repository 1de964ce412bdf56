use Rattle.commit_group.proofs.Submitted.{fills_alone}
use Rattle.commit_group.proofs.laws.lone_guests_fill_the_queue.Goals as goal

pub returns : goal.returns
returns c = fills_alone
