use Rattle.std.proofs.Common.{◌∙◌, subst, sym}
use Rattle.clap.specs.declared.error.kind.ErrorKind.{ErrorKind}
use Rattle.commands.proofs.Statuses.{mistake_status}
use Rattle.commands.specs.Status.{IsStatusOf}
use Rattle.commands.proofs.running.report.Goals as goal

pub returns-in_default : goal.returns-in_default
returns-in_default g c =
    subst (λ (k : ErrorKind). IsStatusOf k 2) c.kind.ensures
    (mistake_status c.kind.result c.in_default.not-OutOfMemory c.in_default.not-DisplayHelp c.in_default.not-DisplayVersion)

pub returns-in-OutOfMemory : goal.returns-in-OutOfMemory
returns-in-OutOfMemory g c =
    subst (λ (k : ErrorKind). IsStatusOf k c.report_refusal.result) (sym c.in-OutOfMemory.is ∙ c.kind.ensures) c.report_refusal.ensures
