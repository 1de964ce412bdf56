use Rattle.serial_sched.proofs.Chosen.{made_is_chosen}
use Rattle.session.proofs.laws.old_guests_lose_no_choice.Goals as goal

pub returns : goal.returns
returns g c s old frames last new is one made = made_is_chosen g.C.Chooser.chooses s old frames last new is one made
