use Rattle.std.proofs.Common.{rules}
use Rattle.recording.proofs.NameLists.{no_text, text_there}
use Rattle.recording.proofs.names.text_at.Goals as goal

pub returns-in-Some : goal.returns-in-Some
returns-in-Some c =
    let found = c.in-Some.ensures.lookup in text_there c.args.texts.now c.args.place c.in-Some.text.now (search rules) found.1

pub returns-in-None : goal.returns-in-None
returns-in-None c = let none = c.in-None.ensures.lookup in no_text c.args.texts.now c.args.place (search rules)
