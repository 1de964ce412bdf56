use Rattle.std.proofs.Common.{List, refl}
use Rattle.std.specs.Prelude.{codes}
use Rattle.std.proofs.lemmas.Result.{err_from_is_err_and}
use Rattle.clap.specs.Words.{Row}
use Rattle.command_line.specs.Commands.{IsQuestionOf}
use Rattle.command_line.specs.Unread.{OnBad}
use Rattle.command_line.specs.Values.{HasWatched, rows_in}
use Rattle.command_line.specs.declared.request.Question.{Question}
use Rattle.command_line.specs.declared.request.Question.TheVariants as questions
use Rattle.command_line.specs.declared.request.Watched.{Watched}
use Rattle.command_line.specs.declared.unread.Unread.{Unread}
use Rattle.command_line.specs.declared.unread.Unread.TheVariants as unread
use Rattle.command_line.proofs.Questions.{differ}
use Rattle.command_line.proofs.commands.last.Goals as goal

no_last : (rows : List Row) → ((w : Watched) → HasWatched rows w → ⊥) → (q : Question) → IsQuestionOf q (codes "last", rows) → ⊥
no_last rows none questions.Output h = differ (codes "last") (codes "replay") refl h.0
no_last rows none (questions.State at memory) h = differ (codes "last") (codes "replay") refl h.0
no_last rows none (questions.Back from count memory) h = differ (codes "last") (codes "back") refl h.0
no_last rows none (questions.Last from watched times short memory) h = none watched h.1.1
no_last rows none questions.Choices h = differ (codes "last") (codes "choices") refl h.0
no_last rows none (questions.Core at file) h = differ (codes "last") (codes "core") refl h.0
no_last rows none (questions.Lines short) h = differ (codes "last") (codes "ask") refl h.0

none_of : (rows : List Row) (e : Unread) → OnBad e ((w : Watched) → HasWatched rows w → ⊥) →
    OnBad e ((q : Question) → IsQuestionOf q (codes "last", rows) → ⊥)
none_of rows (unread.Missing name) none = no_last rows none
none_of rows (unread.Bad name text wanted) none = no_last rows none
none_of rows unread.MemoryAlone none = no_last rows none
none_of rows (unread.BadCount name count programs) none = no_last rows none
none_of rows unread.TwoForms none = no_last rows none
none_of rows unread.Memory none = tt

pub returns-in_err-watched : goal.returns-in_err-watched
returns-in_err-watched c =
    let p = err_from_is_err_and c.from_residual-in_err-watched.result c.from_residual-in_err-watched.ensures.1 in
    rw (p.1, p.2) (record {
      found = tt;
      none = none_of (rows_in c.args.values.now) c.in_err-watched.field-0.0 c.in_err-watched.ensures.none;
    })
