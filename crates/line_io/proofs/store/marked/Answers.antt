use Rattle.std.proofs.Common.{ap, Err}
use Rattle.std.proofs.lemmas.Result.{err_from_is_err_and}
use Rattle.line_io.proofs.Marks.{is_marked, mark_refused}
use Rattle.line_io.proofs.store.marked.Goals as goal

pub returns-clause-whole : goal.returns-clause-whole
returns-clause-whole g c =
    (is_marked g.D.Disk c.args.log c.mark.new.self c.in_ok-mark.field-0 c.requires.whole c.in_ok-mark.ensures.made
    c.in_ok-mark.ensures.marks).whole
