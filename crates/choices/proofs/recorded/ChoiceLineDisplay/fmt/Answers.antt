use Rattle.choices.proofs.recorded.ChoiceLineDisplay.fmt.Goals as goal

pub returns-in-CutShort-clause-writes : goal.returns-in-CutShort-clause-writes
returns-in-CutShort-clause-writes g c = λ plain ok. rw c.in-CutShort.is (c.write-in-CutShort.ensures.writes plain ok)
