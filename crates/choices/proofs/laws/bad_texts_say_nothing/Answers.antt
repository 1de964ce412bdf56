use Rattle.choices.proofs.Texts.{bad_texts_say_nothing}
use Rattle.choices.proofs.laws.bad_texts_say_nothing.Goals as goal

pub returns : goal.returns
returns c = bad_texts_say_nothing
