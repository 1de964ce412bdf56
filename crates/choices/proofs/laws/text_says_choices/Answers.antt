use Rattle.choices.proofs.OwnSlices.{frames_are_of_guests}
use Rattle.choices.proofs.SaidChoices.{recordings_say_choices, text_says_choices}
use Rattle.choices.proofs.laws.text_says_choices.Goals as goal

pub returns-clause-says : goal.returns-clause-says
returns-clause-says c = text_says_choices

pub returns-clause-frames : goal.returns-clause-frames
returns-clause-frames c = frames_are_of_guests

pub returns-clause-recordings : goal.returns-clause-recordings
returns-clause-recordings c = recordings_say_choices
