use Rattle.std.proofs.Common.{◌≡◌, ◌∙◌, rules, sym}
use Rattle.std.proofs.lemmas.Result.{IfOk-weaker}
use Rattle.clap.specs.Words.{kind_of}
use Rattle.clap.specs.declared.error.kind.ErrorKind.TheVariants as kinds
use Rattle.command_line.proofs.lines.advised.Goals as goal

pub returns-then-contains : goal.returns-then-contains
returns-then-contains g c =
    let kind = c.kind.ensures in
    let test = c.if-ne in
    let unknown : kind_of c.args.error ≡ kinds.UnknownArgument = search rules in
    IfOk-weaker c.error.result _ _ (λ e is. is ∙ sym unknown) c.error.ensures.kind
